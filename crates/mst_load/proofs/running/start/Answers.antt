use Rattle.mst_load.proofs.Names.{rules}
use Rattle.mst_load.proofs.running.start.Goals as goal

pub invariant_of-newcomer : goal.invariant_of-newcomer
invariant_of-newcomer g c = search rules

pub spawn_with-requires-clause-runs : goal.spawn_with-requires-clause-runs
spawn_with-requires-clause-runs g c = search rules

pub spawn_with-requires-clause-keeps : goal.spawn_with-requires-clause-keeps
spawn_with-requires-clause-keeps g c = search rules
