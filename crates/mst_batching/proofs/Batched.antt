-- From the edits that were made in the rows to the batch that is made, and why one is not made.
use Rattle.std.proofs.Common.{◌≡◌, ℕ, ◌+◌, ◌<◌, List, [], length, false, Result, Ok, Err, refl}
use Rattle.std.specs.Prelude.{IfOk, IfErr}
use Rattle.mst_key.specs.declared.history.Change.TheVariants.{Batch}
use Rattle.mst_key.specs.declared.history.Edit.{Edit}
use Rattle.mst_key.specs.Map.{Pair}
use Rattle.mst_key.specs.History.{after, batched, done as nothing}
use Rattle.mst_node.specs.Cost.{cost}
use Rattle.mst_arena.specs.Lives.{State, free_count, last_version}
use Rattle.mst_arena.specs.Standing.{Stands, numbers}
use Rattle.mst_arena.specs.declared.row.Root.{Root}
use Rattle.mst_path.specs.Changing.{OnlyFreeWritten}
use Rattle.mst_path.specs.Made.{IsMade}
use Rattle.mst_path.specs.Reached.{Changes}
use Rattle.mst_batch.specs.declared.faults.BatchRefusal.{BatchRefusal}
use Rattle.mst_batch.specs.declared.faults.BatchRefusal.TheVariants as batch_refusal
use Rattle.mst_batch.specs.Applying.{LacksBatch}
use Rattle.mst_words.specs.Access.{Seated, IsSameSeat, beside, content_of}
use Rattle.mst_versions.specs.declared.turn.Turn.{Turn}
use Rattle.mst_key.specs.declared.memory.Memory.{Memory}
use Rattle.mst_batching.specs.declared.faults.ApplyFault.TheVariants as fault
use Rattle.mst_versions.specs.Known.{AtSeat}
use Rattle.mst_versions.specs.Turns.{SeatState, HasTurn, Begun}
use Rattle.mst_versions.specs.Writes.{Made}
use Rattle.mst_batching.specs.Applying.{LacksEdits, RefusesBatch}
use Rattle.mst_versions.proofs.Made.{key_aged, change_made}
use Rattle.mst_versions.proofs.Written.{looks_back, given_back}

-- ---- the edits are made

module _ {A : Type 0} (t : Turn A) (s z : Seated) (h : HasTurn t s.me) (es : List Edit) (d : State)
    (same : beside z ≡ beside s) (early : length s.me.0.seen < last_version)
    (written : OnlyFreeWritten t.desk (content_of s.me.0) (content_of z.me.0)) where
  abbrev pairs : List Pair
  pairs = after s.me.0.seen

  pub batch_made : (r : Result Root BatchRefusal) → IfOk r (λ root. (m : List Pair)
      → Stands t.format (content_of s.me.0) t.root m
      → Stands t.format (content_of z.me.0) root (batched m es))
      → IfOk r (λ root. (m : List Pair) → Stands t.format (content_of s.me.0) t.root m
      → free_count d.lives + cost t.format m (batched m es) ≡ free_count t.desk.lives)
      → IfOk r (λ root. (m n : List Pair) (before : Stands t.format (content_of s.me.0) t.root m)
      (now : Stands t.format (content_of z.me.0) root n)
      → Changes t.desk d (numbers before) (numbers now))
      → IfOk r (λ root. (n : List Pair) (now : Stands t.format (content_of z.me.0) root n)
      → IsMade d now.tree.placed)
      → IfOk r (λ root. Made (Batch es) t s.me root nothing (record t { desk = d }) z.me)
  batch_made (Ok root) stands count changes made =
      change_made t s z h root nothing d (Batch es) same early (stands pairs h.stands)
      (λ n now. changes pairs n h.stands now) refl (count pairs h.stands)
      (λ now. key_aged t s.me h (content_of z.me.0) root d (batched pairs es) now
      (changes pairs (batched pairs es) h.stands now) written (made (batched pairs es) now)
      (count pairs h.stands))
  batch_made (Err why) stands count changes made = tt

-- ---- they are not made

lacks_edits : {A : Type 0} (t : Turn A) (m : SeatState) → HasTurn t m → (es : List Edit)
    (why : BatchRefusal)
    → LacksBatch why t.format (content_of m.0) t.desk t.root es → LacksEdits why es t m
lacks_edits t m h es (batch_refusal.Memory refused) lacks = lacks
lacks_edits t m h es batch_refusal.NoRoom lacks = lacks (after m.0.seen) h.stands

pub batch_lacks : {A : Type 0} (t : Turn A) (m : SeatState) → HasTurn t m → (es : List Edit)
    (r : Result Root BatchRefusal)
    → IfErr r (λ why. LacksBatch why t.format (content_of m.0) t.desk t.root es)
    → IfErr r (λ why. LacksEdits why es t m)
batch_lacks t m h es (Ok root) lacks = tt
batch_lacks t m h es (Err why) lacks = lacks_edits t m h es why lacks

-- memory was refused, and the turn given back
pub batch_memory : {A : Type 0} (s : Seated) (m1 : SeatState) (t : Turn A) (b : Begun s.me t m1)
    (number : ℕ) (mine : s.me.0.number ≡ number) (m2 : SeatState) (z : Seated) → IsSameSeat s z
    → m2 ≡ m1 → z.me ≡ (record m2.0 { turn = false }, []) → (es : List Edit) (refused : Memory)
    → length m1.0.seen < last_version → LacksEdits (batch_refusal.Memory refused) es t m1
    → AtSeat (RefusesBatch (fault.Memory refused) es) number s z
batch_memory s m1 t b number mine m2 z same still back es refused early several =
    given_back s m1 t b number mine m2 z same still back (RefusesBatch (fault.Memory refused) es)
    (λ made. (looks_back s m1 t b number mine made, early, b.asked, several))
