-- Which versions are found pinned, as the holder of the turn lists them.
use Rattle.std.specs.Prelude.{◌≡◌, ◌↔◌, ℕ, ◌+◌, ◌≤◌, false, cond, nat_eq, List, [], ◌∷◌, ◌++◌, length, Contains}
use Rattle.std.specs.List.{list_any}
use Rattle.std.specs.List.Sorted.{IsStrictlyIncreasing}
use Rattle.mst_arena.specs.Lists.{In}
use Rattle.mst_versions.specs.Known.{Known, Looks}
use Rattle.mst_versions.specs.Turns.{SeatState}
use Rattle.mst_versions.specs.Writes.{AreFound}

-- Each record was asked who pins it, and the turn given back. The versions that were found pinned
-- are no more than the passes, and none is above the last one. Nothing else has changed
pub record AsksAll (m m' : SeatState) : Type 0 where
  pub few : length m'.0.found ≤ m.0.passes
  pub below : (v : ℕ) → In v m'.0.found → v ≤ length m.0.seen
  pub asked : m'.0.asked ≡ m.0.asked + m.0.passes + 3
  pub rest : m' ≡ (
    record m.0 {
      turn = false;
      drained = m'.0.drained;
      blocked = m'.0.blocked;
      noted = m'.0.noted;
      found = m'.0.found;
      asked = m'.0.asked;
    },
    [],
  )

-- the numbers with this one behind them, if it is not among them
abbrev pub added : List ℕ → ℕ → List ℕ
added xs x = cond (list_any (nat_eq x) xs) xs (xs ++ x ∷ [])

-- the versions are those that were found and no others, in ascending order, each once
pub record IsListing (found versions : List ℕ) : Type 0 where
  pub ascending : IsStrictlyIncreasing versions
  pub exact : (v : ℕ) → Contains versions v ↔ Contains found v
  pub few : length versions ≤ length found

-- The pass has looked, and these are the versions that it found pinned, in ascending order. The
-- turn was tried once and taken, each record but the current one asked once, and the current one by
-- two loads
pub record FindsPinned (versions : List ℕ) (p q : Known) : Type 0 where
  pub looks : Looks p q
  pub listing : IsListing q.found versions
  pub are : AreFound (p.store.passes + 1) q.seen q.found
  pub asked : q.asked ≡ p.asked + p.store.passes + 4
