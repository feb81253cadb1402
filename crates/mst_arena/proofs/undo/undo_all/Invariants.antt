use Rattle.mst_arena.proofs.Names.{◌≡◌, ◌≤◌, length, vec_len, vec_capacity}
use Rattle.mst_arena.proofs.UndoLemmas.{Undoing}
use Rattle.mst_arena.proofs.undo.undo_all.Given as goal

abbrev pub invariant-loop-row : goal.invariant-loop-row
invariant-loop-row g l = record {
  undoing : Undoing l.next l.row l.fn.lives l.lives l.free l.dead.items;
  few : vec_len l.dead ≤ l.row;
  room : vec_capacity l.dead ≡ vec_capacity l.initial.dead;
}
