use Rattle.std.proofs.Common.{◌≡◌, ◌≤◌, vec_len, vec_capacity}
use Rattle.mst_slot.proofs.places.places_of.Given as goal

-- so many are made
abbrev pub invariant-loop-place : goal.invariant-loop-place
invariant-loop-place g l =
    (vec_len l.places ≡ l._place) × (l.count ≤ vec_capacity l.places)
