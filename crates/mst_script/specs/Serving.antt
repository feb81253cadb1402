-- The passes of a store while they serve a script: between two lines the free ones have seen one
-- history, and the others pin a version of it.
use Rattle.std.specs.Prelude.{◌≡◌, ◌≢◌, ℕ, ◌==◌, ◌<◌, ◌≤◌, ◌⊎◌, Bool, true, false, List, [], ◌∷◌, ◌++◌, length, slice_index_or, All, Contains, Option, None, Some}
use Rattle.std.specs.List.{AllByRecursion, count_by, slice_set, swap_remove}
use Rattle.std.specs.List.Sorted.{IsPermutation}
use Rattle.mst_key.specs.declared.format.Format.{Format}
use Rattle.mst_key.specs.Map.{Pair}
use Rattle.mst_key.specs.History.{History, after, events_of, IsPrefix}
use Rattle.mst_store.specs.Passes.{StoreId, Known, format_seen, IsSamePass, Looks}
use Rattle.mst_store.specs.Settling.{numbers, IsOfOne, Settled}
use Rattle.mst_requests.specs.declared.request.Command.{Command}
use Rattle.mst_requests.specs.declared.request.Command.TheVariants.{Pin, Unpin}
use Rattle.mst_node.specs.Tree.{tree}
use Rattle.mst_node.specs.Trail.{proof_text}
use Rattle.mst_script.specs.declared.passes.PassPlace.{PassPlace}
use Rattle.mst_script.specs.declared.passes.PassPlace.TheVariants.{Free, Pinned}
use Rattle.mst_script.specs.Machine.{Machine, LacksMemory, Acts, Recalls, Step, Line, top_words}
use Rattle.mst_requests.specs.Texts.{line_of}

-- the passes are all those of this store, in any order: each number from 1 to the number of its
-- passes is that of one of them
pub record AreAllOf (store : StoreId) (ps : List Known) : Type 0 where
  pub of_one : All (λ p. p.store ≡ store) ps
  pub complete : (n : ℕ) → 0 < n → n ≤ store.passes → Contains (numbers ps) n

-- the history begins with all that each pass has seen, each pass's events in it are its own, and it
-- has no events but theirs
pub record Gathers (h : History) (ps : List Known) : Type 0 where
  pub later : All (λ p. IsPrefix p.seen h) ps
  pub own : All (λ p. events_of p.number h ≡ p.mine) ps
  pub alone : All (IsOfOne ps) h

-- all passes have seen this history, each pass's events in it are its own, and it has no events but
-- theirs
pub record AllSaw (h : History) (ps : List Known) : Type 0 where
  pub seen : All (λ p. p.seen ≡ h) ps
  pub own : All (λ p. events_of p.number h ≡ p.mine) ps
  pub alone : All (IsOfOne ps) h

-- The passes while they serve a script: those that are free, and those that pin a version. A pass
-- that pins one has seen the history at its pin
pub record Roster : Type 0 where
  pub free : List Known
  pub pinned : List Known

abbrev pub roster : List Known → List Known → Roster
roster free pinned = record { free = free; pinned = pinned }

abbrev pub everyone : Roster → List Known
everyone r = r.free ++ r.pinned

-- the pass has seen its own events
abbrev pub SawItself : Known → Type 0
SawItself p = events_of p.number p.seen ≡ p.mine

-- no pass has this number
abbrev pub IsNowhere : List Known → ℕ → Type 0
IsNowhere ps number = All (λ p. p.number ≢ number) ps

-- which version each of these passes pins, and none where no one of them has the number; no two of
-- them have one number
pub record KnowsPins (pinned : ℕ → Option ℕ) (passes : List Known) : Type 0 where
  pub own : All SawItself passes
  pub pins : All (λ p. pinned p.number ≡ Some (length p.seen)) passes
  pub others : (n : ℕ) → IsNowhere passes n → pinned n ≡ None
  pub once : (n : ℕ) → count_by (λ k. k == n) (numbers passes) ≤ 1

-- the passes are in this state of the machine: the free ones have seen its whole history, and the
-- others pin what it says
pub record Shows (m : Machine) (r : Roster) : Type 0 where
  pub seen : All (λ p. p.seen ≡ m.history) r.free
  pub gathered : Gathers m.history (everyone r)
  pub pins : KnowsPins m.pinned r.pinned

-- the pass saw a history that begins with all that it had seen, and added these events to it
pub record Turn (log t : History) (p q : Known) : Type 0 where
  pub same : IsSamePass p q
  pub later : IsPrefix p.seen log
  pub seen : q.seen ≡ log ++ t
  pub mine : q.mine ≡ p.mine ++ t
  pub own : AllByRecursion (λ e. e.pass ≡ p.number) t

-- a pass that pins no version made such a turn, and the text is what the machine answers there
pub record Asked (command : Command) (p : Known) (text : List ℕ) (q : Known) : Type 0 where
  pub log : History
  pub t : History
  pub turn : Turn log t p q
  pub step : Acts p.store p.number command log text q.seen

-- to pin a version
abbrev pub is_pin : Command → Bool
is_pin Pin = true
is_pin _ = false

-- to end a pin
abbrev pub is_unpin : Command → Bool
is_unpin Unpin = true
is_unpin _ = false

-- Of a proof that a map gives for a key in a format, whichever these are, the text is the line of
-- the top node of the map's tree; or memory was refused.
abbrev pub Tops : List ℕ → List ℕ → Type 0
Tops proof text = (f : Format) (m : List Pair) (k : List ℕ) → proof ≡ proof_text f m k
    → (text ≡ line_of (top_words (tree f m))) ⊎ LacksMemory text

-- where the passes are in a state of the machine, the line is answered as the machine does there,
-- and they are then in its next
abbrev pub Serves : StoreId → Roster → Option (List ℕ) → List ℕ → Roster → Type 0
Serves store r line text s =
    (m : Machine) → Shows m r → (new : Machine) × Line store m line text new × Shows new s

-- the same for what the pass p is asked for, once the passes that result have settled
abbrev pub Does : StoreId → ℕ → Command → Roster → List ℕ → Roster → Type 0
Does store p command r text s =
    (m : Machine) → Shows m r → (t : Roster) → Settled s.free s.pinned t.free t.pinned
    → (new : Machine) × Step store p command m text new × Shows new t

-- at this place stands the pass with this number
abbrev pub IsPlace : List Known → ℕ → ℕ → Type 0
IsPlace ps number place =
    (place < length ps) × ((d : Known) → (slice_index_or ps place d).number ≡ number)

-- where the pass with this number was found: among those that pin a version, and where none of them
-- has the number, among the free ones
abbrev pub IsFound : Roster → ℕ → PassPlace → Type 0
IsFound r number (Pinned place) = IsPlace r.pinned number place
IsFound r number (Free place) = IsPlace r.free number place × IsNowhere r.pinned number

-- the free pass at this place did what it was asked for
pub record AsksFree (command : Command) (r : Roster) (place : ℕ) (text : List ℕ)
    (s : Roster) : Type 0 where
  pub p : Known
  pub q : Known
  pub here : (d : Known) → slice_index_or r.free place d ≡ p
  pub asked : Asked command p text q
  pub free : s.free ≡ slice_set r.free place q
  pub pinned : s.pinned ≡ r.pinned

-- the pass at this place read the version that it pins, or was refused
pub record AsksPinned (command : Command) (r : Roster) (place : ℕ) (text : List ℕ)
    (s : Roster) : Type 0 where
  pub p : Known
  pub here : (d : Known) → slice_index_or r.pinned place d ≡ p
  pub recalls : Recalls command (format_seen p) (after p.seen) text
  pub same : s ≡ r

-- the free pass at this place pinned this version
pub record Pins (r : Roster) (place : ℕ) (version : ℕ) (s : Roster) : Type 0 where
  pub p : Known
  pub q : Known
  pub here : p ≡ slice_index_or r.free place p
  pub looks : Looks p q
  pub version_is : version ≡ length q.seen
  pub free : s.free ≡ swap_remove r.free place p
  pub pinned : s.pinned ≡ r.pinned ++ q ∷ []

-- the pass at this place ended its pin
pub record Unpins (r : Roster) (place : ℕ) (s : Roster) : Type 0 where
  pub p : Known
  pub here : p ≡ slice_index_or r.pinned place p
  pub free : s.free ≡ r.free ++ p ∷ []
  pub pinned : s.pinned ≡ swap_remove r.pinned place p

-- all pins were ended
pub record AllFreed (r s : Roster) : Type 0 where
  pub none : s.pinned ≡ []
  pub same : IsPermutation (everyone r) s.free

-- all pins were ended, and then all passes settled
pub record Released (r t : Roster) : Type 0 where
  pub s : Roster
  pub freed : AllFreed r s
  pub settled : Settled s.free s.pinned t.free t.pinned
