use Rattle.mst_arena.proofs.Names.{◌≡◌, ℕ, ◌<◌, ◌≤◌, true, false, length, Some, slice_get}
use Rattle.mst_arena.proofs.free_rows.FreeRows.new.Given as goal

abbrev pub invariant-loop-row : goal.invariant-loop-row
invariant-loop-row g l = record {
  len : length l.free ≡ l.rows;
  done : (k : ℕ) → k < l.row → slice_get l.free k ≡ Some true;
  left : (k : ℕ) → l.row ≤ k → k < l.rows → slice_get l.free k ≡ Some false;
}
