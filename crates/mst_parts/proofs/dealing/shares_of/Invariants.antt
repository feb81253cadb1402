use Rattle.mst_parts.proofs.Names.{◌≡◌, ◌≤◌, vec_len, vec_capacity, vec_items, arc_value, AllByRecursion}
use Rattle.mst_parts.proofs.dealing.shares_of.Given as goal

-- the shares so far are of the map
abbrev pub invariant-loop-place : goal.invariant-loop-place
invariant-loop-place g l =
    (vec_len l.shares ≡ l._place) × (l.count ≤ vec_capacity l.shares)
    × AllByRecursion (λ share. arc_value share ≡ arc_value l.map) (vec_items l.shares)
