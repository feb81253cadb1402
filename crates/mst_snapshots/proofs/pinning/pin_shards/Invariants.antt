use Rattle.mst_snapshots.proofs.Names.{◌≡◌, ◌+◌, ◌≤◌, List, ◌++◌, length, vec_len, vec_capacity, vec_items, deque_items, AllByRecursion, after, IsMap, Known, AllStep, PinsNow, HaveFewPairs, versions_of}
use Rattle.std.specs.VecDeque.{deque_len, deque_capacity}
use Rattle.mst_snapshots.proofs.pinning.pin_shards.Given as goal

-- the first passes are pinned, and the numbers of their versions noted
abbrev pub invariant-loop-laid : goal.invariant-loop-laid
invariant-loop-laid g l =
    (vec_len l.pins + deque_len l.left ≤ vec_capacity l.pins)
    × (vec_len l.pins + deque_len l.left ≤ deque_capacity l.left)
    × ((front : List Known) × (vec_items l.fn.passes ≡ front ++ deque_items l.left)
    × AllStep PinsNow front (vec_items l.pins) × (l.place ≡ length front))
    × AllByRecursion (λ (p : Known). IsMap (after p.seen)) (vec_items l.pins)
    × HaveFewPairs (vec_items l.pins)
    × (vec_items l.versions ≡ versions_of (vec_items l.pins))
    × (vec_len l.versions + deque_len l.left ≤ vec_capacity l.versions)
    × (vec_capacity l.versions ≡ vec_capacity l.fn.versions)

abbrev pub decreases-loop-laid : goal.decreases-loop-laid
decreases-loop-laid g l = deque_len l.left
