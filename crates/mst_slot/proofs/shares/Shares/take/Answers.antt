use Rattle.std.proofs.Common.{arith, rules, ◌∙◌}
use Rattle.std.proofs.lemmas.Grind.{common_steps}
use Rattle.mst_slot.proofs.Wholes.{whole}
use Rattle.mst_slot.proofs.shares.Shares.take.Goals as goal

pub returns-then-borrow_all-clause-ok : goal.returns-then-borrow_all-clause-ok
returns-then-borrow_all-clause-ok g c =
    whole _ _ _ c.borrow_all.ensures.same (search rules) ∙ search rules

pub give_all_back-requires-clause-room : goal.give_all_back-requires-clause-room
give_all_back-requires-clause-room g c = grind (arith, common_steps)
