use Rattle.mst_c_blocks.proofs.Names.{rules, ◌≡◌, ◌≤◌, ℕ, length, subst, sym, ◌∙◌, pos, SFits, w32, to_z-of_z}
use Rattle.mst_store.specs.Passes.{IsShape}
use Rattle.mst_c_blocks.specs.Opened.{HandsOpened}
use Rattle.mst_c_blocks.proofs.CodesApart.{not_shape}
use Rattle.mst_c_blocks.proofs.opening.open_shaped.Goals as goal

-- a shard has a pass for each hand
pub open_packed-requires-clause-passes : goal.open_packed-requires-clause-passes
open_packed-requires-clause-passes c =
    let is : IsShape (record {
      rows = c.args.rows;
      passes = c.passes_for-passes.result;
      format = c.args.format;
    }) = search rules in
    c.passes_for-passes.ensures.fits is.3

pub returns-then-is_shape-clause-opened : goal.returns-then-is_shape-clause-opened
returns-then-is_shape-clause-opened c = λ yes.
    let fits : SFits w32 c.open_packed.result = search rules in
    let done : c.open_packed.result ≡ pos 0 = sym (to_z-of_z fits) ∙ yes in
    let opened = c.open_packed.ensures.opened done in
    let few : c.passes_for-passes.result ≤ 32 = opened.2.is.3 in
    let same : length c.open_packed.new.hands ≡ length c.args.hands.now = search rules in
    let passes : c.passes_for-passes.result ≡ length c.open_packed.new.hands =
    c.passes_for-passes.ensures.fits few ∙ sym same in (
      opened.0,
      opened.1,
      subst (λ (n : ℕ). HandsOpened opened.0
          (record { rows = c.args.rows; passes = n; format = c.args.format })
          c.open_packed.new.hands) passes opened.2,
    )

pub returns-then-is_shape-clause-size : goal.returns-then-is_shape-clause-size
returns-then-is_shape-clause-size c =
    let fits : SFits w32 c.open_packed.result = search rules in
    let is : IsShape (record {
      rows = c.args.rows;
      passes = c.passes_for-passes.result;
      format = c.args.format;
    }) = search rules in
    let same = c.passes_for-passes.ensures.fits is.3 in (
      (λ bad. absurd (not_shape c.open_packed.result c.open_packed.ensures.range
          (sym (to_z-of_z fits) ∙ bad))),
      (λ none. absurd (none (
        is.0,
        is.1,
        subst (λ (n : ℕ). 1 ≤ n) same is.2,
        subst (λ (n : ℕ). n ≤ 32) same is.3,
      ))),
    )

-- and otherwise no store has that many rows or passes
pub returns-else-is_shape-clause-size : goal.returns-else-is_shape-clause-size
returns-else-is_shape-clause-size c =
    let none : IsShape (record {
      rows = c.args.rows;
      passes = c.passes_for-passes.result;
      format = c.args.format;
    }) → ⊥ = search rules in (
      (λ bad size. none (
        size.0,
        size.1,
        subst (λ (n : ℕ). 1 ≤ n) (sym (c.passes_for-passes.ensures.same size.3)) size.2,
        subst (λ (n : ℕ). n ≤ 32) (sym (c.passes_for-passes.ensures.same size.3)) size.3,
      )),
      (λ no. search rules),
    )
