use Rattle.mst_arena.proofs.Names.{◌<◌, ◌≤◌, ◌+◌, arith, version, next}
use Rattle.mst_arena.proofs.UndoLemmas.{same_undone, undone_past}
use Rattle.mst_arena.proofs.undo.undo_laws.Goals as goal

pub returns-clause-same : goal.returns-clause-same
returns-clause-same c s v k before = same_undone (next s) s.lives v k (omega (arith, before))

pub returns-clause-settled : goal.returns-clause-settled
returns-clause-settled c s r = undone_past (version s) s.lives r
