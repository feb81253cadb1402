use Rattle.mst_parts.proofs.Names.{◌≡◌, ◌<◌, ℕ, length, sym, subst, Known, Waiting, MakesNothing, PreparesNext, part_nothing}
use Rattle.mst_blocks.specs.Blocks.{RefusesPart}
use Rattle.mst_blocks.specs.declared.faults.PartFault.{PartFault}
use Rattle.mst_parts.proofs.Coming.{staged_ready, unless_some}
use Rattle.mst_blocks.proofs.Committing.{looks_nothing}
use Rattle.mst_parts.proofs.finishing.finish_next.Goals as goal

-- it is prepared
pub returns-in-Ready-clause-staged : goal.returns-in-Ready-clause-staged
returns-in-Ready-clause-staged g c none =
    let comes = c.in-Ready.ensures.comes in
    staged_ready g.row.A.Denot g.row.A.Denot c.args.part.edits c.args.part.pass
    c.lift_prepared.result comes.0
    (subst (λ (w : Waiting). PreparesNext c.args.part.edits c.args.part.pass w)
    (sym c.lift_prepared.ensures.same) comes.1)

pub returns-in-Ready-clause-refused : goal.returns-in-Ready-clause-refused
returns-in-Ready-clause-refused g c none =
    unless_some (λ (s : ℕ × PartFault). (s.0 ≡ c.args.place) × (0 < length c.args.part.edits)
    × RefusesPart s.1 c.args.part.edits c.args.part.pass c.lift_prepared.result.known)
    c.args.stopped.now none

pub returns-in-Ready-clause-left : goal.returns-in-Ready-clause-left
returns-in-Ready-clause-left g c =
    subst (λ (w : Waiting). MakesNothing c.args.part.pass w.known)
    (sym c.lift_prepared.ensures.same)
    (looks_nothing c.args.part.pass c.in-Ready.prepared.known
    c.in-Ready.ensures.comes.1.prepares.looks)

-- its shard was refused it
pub returns-in-Stopped-clause-left : goal.returns-in-Stopped-clause-left
returns-in-Stopped-clause-left g c =
    subst (λ (q : Known). MakesNothing c.args.part.pass q) (sym c.lift-in-Stopped.ensures.same)
    (part_nothing c.in-Stopped.fault c.args.part.edits c.args.part.pass c.in-Stopped.laid
    c.in-Stopped.ensures.comes.1)
