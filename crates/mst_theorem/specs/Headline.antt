-- The theorem of a store as one statement: its calls have one order in which the one-thread map
-- gives the answers that they got (sequential consistency: Lamport 1979). Where a pass had seen,
-- when its call began, what another call had seen, the order has the other call first.
-- `specs/ByContract.antt` says which operation each call of a pass is, and which answers the map
-- does not judge.
use Rattle.std.specs.Prelude.{◌≡◌, ◌⊎◌, ◌↔◌, ℕ, ◌+◌, ◌<◌, ◌≤◌, ◌==◌, Bool, true, List, [], ◌∷◌, ◌++◌, length, map, filter, All, Option, Some}
use Rattle.std.specs.List.{AllByRecursion}
use Rattle.mst_key.specs.declared.format.Format.{Format}
use Rattle.mst_key.specs.declared.history.Change.{Change}
use Rattle.mst_key.specs.declared.history.Event.{Event}
use Rattle.mst_key.specs.Map.{Pair, map_get, map_next, map_range}
use Rattle.mst_key.specs.History.{History, Reply, after, format_after, changed, changed_format, reply, reply_of, events_of, IsPrefix}
use Rattle.mst_node.specs.Text as text
use Rattle.mst_node.specs.Trail.{proof_text}
use Rattle.mst_words.specs.declared.view.View.{View}
use Rattle.mst_words.specs.declared.view.Shape.{Shape}
use Rattle.mst_words.specs.Laws.{Table, IsRuled, Tells, HasTurn, IsWordOf}
use Rattle.mst_words.specs.Records.{IsLive}
use Rattle.mst_words.specs.Steps.{IsWritable}
use Rattle.mst_words.specs.Stored.{stored}
use Rattle.mst_words.specs.Notes.{IsOfPasses}
use Rattle.mst_words.specs.World.{SeatAt}
use Rattle.mst_versions.specs.Writes.{rows_of}
use Rattle.mst_store.specs.Passes.{StoreId, Known, made_by, new_pass}

-- ---- the one-thread map

-- its pairs, the format of its tree, and how many changes were made
pub record Single : Type 0 where
  pub format : Format
  pub pairs : List Pair
  pub changes : ℕ

-- what a history leaves, from the empty map in a format on
abbrev pub left_by : Format → History → Single
left_by first h = record { format = format_after first h; pairs = after h; changes = length h }

-- a call that changes nothing, with its answer: a read, a change that was refused, or a call that
-- answers nothing of the map
pub data Reading : Type 0 where
  got : (key : List ℕ) (found : Option (List ℕ)) → Reading
  came_next : (bound : Option (List ℕ)) (found : Option Pair) → Reading
  ranged : (from to : Option (List ℕ)) (limit : ℕ) (found : List Pair) → Reading
  told_format : (found : Format) → Reading
  told_root : (digest : List ℕ) → Reading
  proved : (key proof : List ℕ) → Reading
  told_len : (number : ℕ) → Reading
  told_version : (number : ℕ) → Reading
  has_seen : (number : ℕ) (answer : Bool) → Reading
  counted : (rows : ℕ) → Reading
  refused : (change : Change) → Reading
  silent : Reading

-- what a call asked and was answered
pub data Operation : Type 0 where
  wrote : (change : Change) (answered : Reply) → Operation
  read : (reading : Reading) → Operation

-- the one-thread map gives this answer
abbrev pub IsTold : Single → Reading → Type 0
IsTold s (got k found) = found ≡ map_get s.pairs k
IsTold s (came_next bound found) = found ≡ map_next s.pairs bound
IsTold s (ranged from to limit found) = found ≡ map_range s.pairs from to limit
IsTold s (told_format found) = found ≡ s.format
IsTold s (told_root digest) = digest ≡ text.root s.format s.pairs
IsTold s (proved k proof) = proof ≡ proof_text s.format s.pairs k
IsTold s (told_len number) = number ≡ length s.pairs
IsTold s (told_version number) = number ≡ s.changes
IsTold s (has_seen number answer) = (answer ≡ true) ↔ (number ≤ s.changes)
IsTold s (counted rows) = rows ≡ rows_of s.format s.pairs
IsTold s (refused change) = Unit {0}
IsTold s silent = Unit {0}

abbrev pub IsAnswered : Single → Operation → Type 0
IsAnswered s (wrote change answered) = answered ≡ reply_of s.format s.pairs change
IsAnswered s (read reading) = IsTold s reading

-- what the map is then
abbrev pub then_is : Operation → Single → Single
then_is (wrote change answered) s = record {
  format = changed_format s.format change;
  pairs = changed s.pairs change;
  changes = s.changes + 1;
}
then_is (read reading) s = s

-- asked one call after another, the one-thread map gives these answers, and comes to t
abbrev pub IsServed : Single → List Operation → Single → Type 0
IsServed s [] t = t ≡ s
IsServed s (o ∷ os) t = IsAnswered s o × IsServed (then_is o s) os t

-- ---- the calls of passes

-- A call of a pass with its answer, and what was known of the pass before and after it. A write
-- that is published and has not returned yet is one too
pub record Call : Type 0 where
  pub operation : Operation
  pub old : Known
  pub new : Known

-- Nothing was added to the history, of which the pass may have seen more. Its events in what it has
-- seen are its own, if they were
pub record Stays (p q : Known) : Type 0 where
  pub store : q.store ≡ p.store
  pub number : q.number ≡ p.number
  pub later : IsPrefix p.seen q.seen
  pub mine : q.mine ≡ p.mine
  pub own : events_of p.number p.seen ≡ p.mine → events_of q.number q.seen ≡ q.mine

-- The pass added the event right after a history that begins with all that it had seen, and was
-- answered as that history replies
pub record Adds (e : Event) (answered : Reply) (p q : Known) : Type 0 where
  pub log : History
  pub store : q.store ≡ p.store
  pub number : q.number ≡ p.number
  pub later : IsPrefix p.seen log
  pub seen : q.seen ≡ log ++ e ∷ []
  pub mine : q.mine ≡ p.mine ++ e ∷ []
  pub own : events_of p.number p.seen ≡ p.mine → events_of q.number q.seen ≡ q.mine
  pub answer : answered ≡ reply p.store.format log e

-- What the contract of the call says of its pass (`call_laws`): a write was answered as what it
-- follows on replies, and any other call as what its pass has then seen leaves
abbrev pub IsHonest : Operation → Known → Known → Type 0
IsHonest (wrote change answered) p q = Adds (made_by p change) answered p q
IsHonest (read reading) p q = Stays p q × IsTold (left_by q.store.format q.seen) reading

-- from p a pass comes to q by these calls, each as its contract says
abbrev pub Leads : Known → List Call → Known → Type 0
Leads p [] q = q ≡ p
Leads p (c ∷ cs) q = (c.old ≡ p) × IsHonest c.operation c.old c.new × Leads c.new cs q

-- the calls of one pass, in their order
abbrev pub calls_of : ℕ → List Call → List Call
calls_of n run = filter (λ c. c.old.number == n) run

-- a run of a store: the calls of its passes, as they came back or in any other order in which those
-- of each pass lead from its dealing to what is now known of it
pub record IsRun (store : StoreId) (run : List Call) (now : ℕ → Known) : Type 0 where
  pub of_store : All (λ c. (0 < c.old.number) × (c.old.number ≤ store.passes)) run
  pub leads : (n : ℕ) → 0 < n → n ≤ store.passes → Leads (new_pass store n) (calls_of n run) (now n)

-- the history begins with what each pass has seen, each pass's events in it are its own, and it has
-- no others
pub record IsHistoryOf (store : StoreId) (now : ℕ → Known) (log : History) : Type 0 where
  pub later : (n : ℕ) → 0 < n → n ≤ store.passes → IsPrefix (now n).seen log
  pub own : (n : ℕ) → 0 < n → n ≤ store.passes → events_of n log ≡ (now n).mine
  pub alone : IsOfPasses store.passes log

-- ---- the one order

-- the events of the writes
abbrev pub written_by : ℕ → Operation → History
written_by n (wrote change answered) = record { pass = n; change = change } ∷ []
written_by n (read reading) = []

abbrev pub written : List Call → History
written [] = []
written (c ∷ cs) = written_by c.old.number c.operation ++ written cs

-- How far a call has seen: a write as far as its event, and any other call a little further than
-- the last event that it has seen.
abbrev pub reach : Operation → ℕ → ℕ
reach (wrote change answered) n = n + n
reach (read reading) n = n + n + 1

abbrev pub rank : Call → ℕ
rank c = reach c.operation (length c.new.seen)

-- each call has seen at least as far as those before it
abbrev pub NeverFalls : List Call → Type 0
NeverFalls [] = Unit {0}
NeverFalls (c ∷ cs) = AllByRecursion (λ d. rank c ≤ rank d) cs × NeverFalls cs

-- The order has the calls of the run, those of each pass in their order. The one-thread map, asked
-- in this order, gives their answers, and its changes are the events of the history. And any calls
-- of the run of which each had seen as far as those before it keep their order
pub record IsOneOrder (store : StoreId) (run : List Call) (log : History)
    (order : List Call) : Type 0 where
  pub each : (n : ℕ) → calls_of n order ≡ calls_of n run
  pub served : IsServed (left_by store.format []) (map (λ c. c.operation) order)
      (left_by store.format log)
  pub events : written order ≡ log
  pub keeps : (chosen : Call → Bool) → NeverFalls (filter chosen run)
      → filter chosen order ≡ filter chosen run

-- ---- where the passes are

-- the pass is the one of its number, and of this store
pub record IsNow (store : StoreId) (now : ℕ → Known) (p : Known) : Type 0 where
  pub low : 0 < p.number
  pub high : p.number ≤ store.passes
  pub is : now p.number ≡ p

-- the pass has a seat at the table, which has its events, and has seen or pinned as much
pub record Sits (s : Table) (p : Known) : Type 0 where
  pub id : ℕ
  pub view : View
  pub at : SeatAt s.views id view
  pub number : view.number ≡ p.number
  pub mine : view.mine ≡ p.mine
  pub seen : IsPrefix p.seen view.seen
      ⊎ ((r : ℕ) × (view.pin ≡ Some r) × IsPrefix p.seen view.pinned_history)

-- The theorem, between any two steps of a table: the calls so far have one order; the words tell
-- what the one history leaves, the tree of its map and its root digest; and the holder of the turn
-- may write no word of a live version
pub record Holds (z : Shape) (s : Table) (a : IsRuled z s) (store : StoreId)
    (run : List Call) : Type 0 where
  pub order : List Call
  pub one : IsOneOrder store run a.parts.log order
  pub tells : Tells z s a.parts.log
  pub stays : (v : View) (r i : ℕ) → HasTurn s v → IsLive a.parts.cur s.views r
      → IsWordOf z.rows r (a.parts.used r) i → IsWritable (stored z.format) v i → ⊥
