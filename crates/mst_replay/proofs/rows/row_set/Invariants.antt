use Rattle.mst_replay.proofs.Names.{rest_text}
use Rattle.mst_replay.proofs.RowLists.{Walked}
use Rattle.mst_replay.proofs.rows.row_set.Given as goal

abbrev pub invariant-loop-row : goal.invariant-loop-row
invariant-loop-row l = Walked l.fn.field l.row l.rows (rest_text l.rest)
