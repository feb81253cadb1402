use Rattle.mst_c_blocks.proofs.Names.{rules, ◌≡◌, sym, ◌∙◌, pos, SFits, w32, to_z-of_z}
use Rattle.mst_c_blocks.proofs.opening.open_packed.Goals as goal

-- the splits are those that the bytes pack
pub open_of-requires-clause-splits : goal.open_of-requires-clause-splits
open_of-requires-clause-splits c = c.in-Ok.ensures.splits.are

pub returns-in-Ok-clause-opened : goal.returns-in-Ok-clause-opened
returns-in-Ok-clause-opened c = λ yes.
    let fits : SFits w32 c.open_of.result = search rules in
    let done : c.open_of.result ≡ pos 0 = sym (to_z-of_z fits) ∙ yes in
    (c.in-Ok.splits.items, c.in-Ok.ensures.splits.packed, c.open_of.ensures.opened done)
