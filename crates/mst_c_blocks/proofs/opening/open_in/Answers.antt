use Rattle.mst_c_blocks.proofs.Names.{rules, sym, ◌∙◌, SFits, w32, to_z-of_z}
use Rattle.mst_c_blocks.proofs.CodesApart.{not_splits}
use Rattle.mst_c_blocks.proofs.opening.open_in.Goals as goal

-- the bytes pack splits
pub returns-then-pack_splits-clause-splits : goal.returns-then-pack_splits-clause-splits
returns-then-pack_splits-clause-splits c =
    let fits : SFits w32 c.open_shaped.result = search rules in
    let packs = c.pack_splits.ensures.yes c.if-pack_splits.true in (
      (λ bad. absurd (not_splits c.open_shaped.result c.open_shaped.ensures.range
          (sym (to_z-of_z fits) ∙ bad))),
      (λ none. absurd (none packs.0 packs.1)),
    )

pub returns-then-pack_splits-clause-size : goal.returns-then-pack_splits-clause-size
returns-then-pack_splits-clause-size c =
    let fits : SFits w32 c.open_shaped.result = search rules in
    let packs = c.pack_splits.ensures.yes c.if-pack_splits.true in (
      (λ bad. (packs, c.open_shaped.ensures.size.0 (sym (to_z-of_z fits) ∙ bad))),
      (λ both. to_z-of_z fits ∙ c.open_shaped.ensures.size.1 both.1),
    )

-- or they do not
pub returns-else-pack_splits-clause-splits : goal.returns-else-pack_splits-clause-splits
returns-else-pack_splits-clause-splits c = (
  (λ bad. c.pack_splits.ensures.no c.if-pack_splits.false),
  (λ none. search rules),
)

pub returns-else-pack_splits-clause-size : goal.returns-else-pack_splits-clause-size
returns-else-pack_splits-clause-size c = (
  (λ bad. search rules),
  (λ both. absurd (c.pack_splits.ensures.no c.if-pack_splits.false both.0.0 both.0.1)),
)
