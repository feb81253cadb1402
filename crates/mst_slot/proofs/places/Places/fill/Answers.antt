use Rattle.std.proofs.Common.{arith, rules, ◌∙◌}
use Rattle.std.proofs.lemmas.Grind.{common_steps}
use Rattle.mst_slot.proofs.Wholes.{whole}
use Rattle.mst_slot.proofs.places.Places.fill.Goals as goal

pub loop-value-preserved : goal.loop-value-preserved
loop-value-preserved g c = grind (arith, common_steps)

pub returns-clause-mine : goal.returns-clause-mine
returns-clause-mine g c =
    c.new.ensures.values ∙ whole _ _ _ c.loop-value.invariant.5 (search rules)

pub returns-clause-yours : goal.returns-clause-yours
returns-clause-yours g c = whole _ _ _ c.loop-value.invariant.6 (search rules)
