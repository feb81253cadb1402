-- How many rows the map takes and how many are free, as the holder of the turn counts them.
use Rattle.std.specs.Prelude.{◌≡◌, ◌↔◌, ℕ, ◌+◌, [], IsSome, Option, Some}
use Rattle.mst_key.specs.History.{after}
use Rattle.mst_versions.specs.Known.{Known, Looks, format_seen}
use Rattle.mst_versions.specs.Writes.{rows_of, rows_held, AreFound}

-- The pass has looked. A number that was found is that of the rows that the map of the history that
-- it has seen takes; one is found exactly if no version was found pinned, and so in a store of one
-- pass. The turn was tried once and taken, each record but the current one asked once, and the
-- current one by two loads
pub record Counts (found : Option ℕ) (p q : Known) : Type 0 where
  pub looks : Looks p q
  pub number : (n : ℕ) → found ≡ Some n → n ≡ rows_of (format_seen q) (after q.seen)
  pub alone : p.store.passes ≡ 1 → IsSome found
  pub exact : IsSome found ↔ (q.found ≡ [])
  pub are : AreFound (p.store.passes + 1) q.seen q.found
  pub asked : q.asked ≡ p.asked + p.store.passes + 4

-- This many rows are free to a write: all but those that the version which the pass has seen last
-- and the versions that it found pinned hold together
abbrev pub AreFree : ℕ → Known → Type 0
AreFree free q = free + rows_held q.store.format q.seen q.found ≡ q.store.rows

-- The pass has looked, and this many rows are free. If no version was found pinned, these are all
-- but those of the map. The turn was tried once and taken, and each record but the current one
-- asked once
pub record CountsFree (free : ℕ) (p q : Known) : Type 0 where
  pub looks : Looks p q
  pub are : AreFound p.store.passes q.seen q.found
  pub left : AreFree free q
  pub alone : q.found ≡ [] → free + rows_of (format_seen q) (after q.seen) ≡ q.store.rows
  pub asked : q.asked ≡ p.asked + p.store.passes + 2
