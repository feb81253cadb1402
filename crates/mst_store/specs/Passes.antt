-- What a pass is to its callers, and what its calls say.
use Rattle.std.specs.Prelude.{◌≡◌, ℕ, zero, suc, ◌<◌, ◌≤◌, List, [], ◌∷◌, ◌++◌, Option, None}
use Rattle.mst_key.specs.declared.format.Format.{Format}
use Rattle.mst_key.specs.History.{after, events_of}
use Rattle.mst_key.specs.Map.{Pair}
use Rattle.mst_words.specs.Access.{Seated}
use Rattle.mst_words.specs.Steps.{IsPinned}
use Rattle.mst_words.specs.declared.view.Shape.{Shape}
use Rattle.mst_versions.specs.declared.reading.PinnedVersion.{PinnedVersion}
use Rattle.mst_versions.specs.declared.parameters.PassParameters.{PassParameters}
use Rattle.mst_versions.specs.Pinned.{HasPinned}
use Rattle.mst_versions.specs.Resting.{IsResting}
-- the limits of a store
pub use Rattle.mst_words.specs.Layout.{most_passes}
pub use Rattle.mst_versions.specs.Known.{most_rows}
-- what its seat shows of a pass, and what is said of a call by it
pub use Rattle.mst_versions.specs.Known.{StoreId, Known, store_of, known, having_asked}
pub use Rattle.mst_versions.specs.Known.{having_missed, IsSamePass, Looks, FindsBusy}
pub use Rattle.mst_versions.specs.Known.{format_seen, made_by}
pub use Rattle.mst_versions.specs.Counting.{AreFree}
pub use Rattle.mst_versions.specs.Writes.{HasRoom, LacksRoom, Wrote, Refuses}

-- What a pinned pass shows to callers: of what it has seen the history at its pin, which lasts
-- until the pin ends
abbrev pub known_at_pin : ℕ → Option ℕ → Seated → Known
known_at_pin number made s = record {
  store = store_of s;
  number = number;
  seen = s.me.0.pinned_history;
  mine = s.me.0.mine;
  asked = s.me.0.asked;
  missed = s.me.0.missed;
  found = s.me.0.found;
  made = made;
}

-- The pass has no pin and not the turn, and its events in what it has seen are its own
pub record IsAtRest (n : PassParameters) (s : Seated) : Type 0 where
  pub rest : IsResting n s.me
  pub low : n.number ≤ n.passes
  pub own : events_of n.number s.me.0.seen ≡ s.me.0.mine

-- The pass pins this version, and its events in the history at the pin are its own
pub record IsPinning (n : PassParameters) (at : PinnedVersion) (s : Seated) : Type 0 where
  pub pinned : HasPinned at s.me.0
  pub pin : IsPinned n.number at.pinned s.me
  pub empty : s.me.1 ≡ []
  pub some : 0 < n.number
  pub low : n.number ≤ n.passes
  pub passes_is : s.me.0.passes ≡ n.passes
  pub few : n.passes ≤ most_passes
  pub rows_is : s.me.0.rows ≡ n.rows
  pub few_rows : n.rows ≤ most_rows
  pub own : events_of n.number s.me.0.pinned_history ≡ s.me.0.mine

-- the sizes that a store may have
abbrev pub IsShape : Shape → Type 0
IsShape shape = (4 ≤ shape.rows) × (shape.rows ≤ most_rows)
    × (1 ≤ shape.passes) × (shape.passes ≤ most_passes)

-- the store has this size, and its version 0 this format
abbrev pub HasShape : Shape → StoreId → Type 0
HasShape shape store = (store.rows ≡ shape.rows) × (store.passes ≡ shape.passes)
    × (store.format ≡ shape.format)

-- a pass that has seen and done nothing
abbrev pub new_pass : StoreId → ℕ → Known
new_pass store number =
    record {
      store = store;
      number = number;
      seen = [];
      mine = [];
      asked = 0;
      missed = 0;
      found = [];
      made = None;
    }

-- the first passes of a store, in the order of their numbers from 1
abbrev pub first_passes : StoreId → ℕ → List Known
first_passes store zero = []
first_passes store (suc n) = first_passes store n ++ new_pass store (suc n) ∷ []

-- all passes of a store before their first call
abbrev pub new_passes : StoreId → List Known
new_passes store = first_passes store store.passes

-- A read returned what this question asks of the map of the history that the pass has now seen, and
-- of the format of its version
pub record Answers {R : Type 0} (question : Format → List Pair → R)
    (p : Known) (answer : R) (q : Known) : Type 0 where
  pub looks : Looks p q
  pub answer_is : answer ≡ question (format_seen q) (after q.seen)
