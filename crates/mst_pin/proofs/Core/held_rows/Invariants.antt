use Rattle.mst_pin.proofs.Names.{◌≡◌, ◌≢◌, ℕ, ◌<◌, true, IsPinned, IsHeld, row_set, state}
use Rattle.mst_pin.proofs.Core.held_rows.Given as goal

abbrev pub invariant-loop-number : goal.invariant-loop-number
invariant-loop-number l = record {
  all : (x r : ℕ) → r < l.number → r ≢ (state l.self).current → IsPinned (state l.self) r
      → (state l.self).rows r x ≡ true → row_set l.rows x ≡ true;
  only : (x : ℕ) → row_set l.rows x ≡ true → IsHeld (state l.self) x;
}
