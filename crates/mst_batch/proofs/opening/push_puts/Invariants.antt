use Rattle.mst_batch.proofs.Puts.{Putting}
use Rattle.mst_batch.proofs.opening.push_puts.Given as goal

abbrev pub invariant-loop-edit : goal.invariant-loop-edit
invariant-loop-edit g l =
    Putting l.format l.edits l.edit-index l.fn.items.items l.items.items
