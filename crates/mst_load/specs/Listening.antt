-- The calls of a reader, and what it hears.
use Rattle.std.specs.Prelude.{◌≡◌, ℕ, zero, suc, ◌+◌, ◌≤◌, ◌%◌, ◌==◌, if◌then◌else◌, List, Option, Some, None, length}
use Rattle.mst_key.specs.History.{after}
use Rattle.mst_key.specs.Map.{map_get}
use Rattle.mst_store.specs.Passes.{Known, Looks}
use Rattle.mst_load.specs.Calls.{key_of}
use Rattle.mst_load.specs.Workers.{HasRead}
use Rattle.mst_load.specs.declared.worker.Heard.{Heard}

-- it has heard nothing
abbrev pub nothing_heard : Heard
nothing_heard = record { newest = 0; falls = 0; found = 0 }

-- it has read the version of what the pass has now seen
abbrev pub having_read : Known → Heard → Heard
having_read q a = record { newest = length q.seen; falls = a.falls; found = a.found }

abbrev pub found_in : Option (List ℕ) → ℕ
found_in None = 0
found_in (Some value) = 1

-- it has got the value of the first key of the first writer, if there is one
abbrev pub having_fetched : Known → Heard → Heard
having_fetched q a = record {
  newest = a.newest;
  falls = a.falls;
  found = a.found + found_in (map_get (after q.seen) (key_of 1 1));
}

-- A call of a reader is one step whose answer depends on others. Calls of odd numbers read the
-- version, the others get the value.
pub record HasAsked (call : ℕ) (a : Heard) (p q : Known) (b : Heard) : Type 0 where
  pub looks : Looks p q
  pub once : q.asked ≡ p.asked + 1
  pub heard : b ≡ (if call % 2 == 1 then having_read q a else having_fetched q a)

-- the reader made its first calls, this many, in their order, and no others, and has heard this
abbrev pub MadeReads : ℕ → Known → Known → Heard → Type 0
MadeReads zero p q heard = (q ≡ p) × (heard ≡ nothing_heard)
MadeReads (suc n) p q heard =
    (r : Known) × (before : Heard) × MadeReads n p r before × HasAsked (suc n) before r q heard

-- The same, and what follows for the pass and for what it has heard: no version fell
pub record HasHeard (calls : ℕ) (p q : Known) (heard : Heard) : Type 0 where
  pub reads : HasRead calls p q
  pub made : MadeReads calls p q heard
  pub newest : heard.newest ≤ length q.seen
  pub never : heard.falls ≡ 0
  pub few : heard.found ≤ calls
