use Rattle.mst_shards.proofs.Names.{◌≤◌, ◌-◌, length, place}
use Rattle.mst_shards.proofs.place.place_of.Given as goal

-- the place is between these
abbrev pub invariant-loop-low : goal.invariant-loop-low
invariant-loop-low l =
    (l.low ≤ place l.splits l.key) × (place l.splits l.key ≤ l.high)
    × (l.high ≤ length l.splits)

abbrev pub decreases-loop-low : goal.decreases-loop-low
decreases-loop-low l = l.high - l.low
