-- Edits in a buffer, and what C is told of a batch of them. `batch_laws` and `worked_batches` state
-- what follows from these definitions.
--
-- An edit is a byte for its kind, 1 for a put and 2 for a remove; the lengths of its key and of its
-- value, in two bytes each with the high one first; then the key and the value. A remove has no
-- value. The edits stand one after the other, with no byte left over.
use Rattle.std.specs.Prelude.{◌≡◌, ◌<◌, ◌+◌, ◌==◌, ℕ, zero, suc, ℤ, pos, nat_lt, if◌then◌else◌, List, [], ◌∷◌, ◌++◌, length, take, drop, Option, Some, None, Result, Ok, Err}
use Rattle.std.specs.Int.{w16, from_be_bytes, to_be_bytes}
use Rattle.mst_key.specs.declared.history.Change.TheVariants.{Batch}
use Rattle.mst_key.specs.declared.history.Edit.{Edit}
use Rattle.mst_key.specs.declared.history.Edit.TheVariants.{Put, Remove}
use Rattle.mst_key.specs.History as history
use Rattle.mst_batching.specs.declared.faults.ApplyFault.{ApplyFault}
use Rattle.mst_batching.specs.declared.faults.ApplyFault.TheVariants as apply
use Rattle.mst_store.specs.Passes.{Known, Wrote, made_by}
use Rattle.mst_batching.specs.Applying.{RefusesBatch}
use Rattle.mst_c.specs.Codes.{bad_key, bad_value, closed, wrong_state, memory, busy, versions_spent, no_free_rows, bad_batch}
use Rattle.mst_c.specs.declared.pass_box.State.{State}
use Rattle.mst_c.specs.declared.pass_box.State.TheVariants.{Away, Free, Pinned}
use Rattle.mst_c.specs.declared.pass_box.ApplyRefusal.{ApplyRefusal}
use Rattle.mst_c.specs.declared.pass_box.ApplyRefusal.TheVariants.{Pins, Memory, Store}
use Rattle.mst_c.specs.declared.packing.EditFault.{EditFault}
use Rattle.mst_c.specs.declared.packing.EditFault.TheVariants.{KeySize, ValueSize, Form}
use Rattle.mst_c.specs.declared.packing.BadEdit.{BadEdit}

-- ---- what stands in a buffer

-- the length of a key or a value
abbrev pub size_bytes : List ℕ → List ℕ
size_bytes xs = to_be_bytes w16 (length xs)

abbrev pub edit_bytes : Edit → List ℕ
edit_bytes (Put k v) = 1 ∷ (size_bytes k ++ (size_bytes v ++ (k ++ v)))
edit_bytes (Remove k) = 2 ∷ (size_bytes k ++ (size_bytes [] ++ k))

-- edits, one after the other
abbrev pub edits_bytes : List Edit → List ℕ
edits_bytes [] = []
edits_bytes (e ∷ es) = edit_bytes e ++ edits_bytes es

-- ---- what a buffer spells

-- an edit's kind, key and value by the lengths of these two, and the bytes after it. The lengths
-- alone say whether they are within the limits
abbrev pub parts_by : ℕ → ℕ → ℕ → List ℕ → Result (ℕ × List ℕ × List ℕ × List ℕ) EditFault
parts_by kind k v bytes =
    if nat_lt k 1 then Err KeySize
    else if nat_lt 32 k then Err KeySize
    else if nat_lt 64 v then Err ValueSize
    else if nat_lt (length bytes) (k + v) then Err Form
    else Ok (kind, take k bytes, take v (drop k bytes), drop v (drop k bytes))

-- those of the first edit
unfoldable pub parts_at : List ℕ → Result (ℕ × List ℕ × List ℕ × List ℕ) EditFault
parts_at [] = Err Form
parts_at (kind ∷ []) = Err Form
parts_at (kind ∷ a ∷ []) = Err Form
parts_at (kind ∷ a ∷ b ∷ []) = Err Form
parts_at (kind ∷ a ∷ b ∷ c ∷ []) = Err Form
parts_at (kind ∷ a ∷ b ∷ c ∷ d ∷ bytes) =
    parts_by kind (from_be_bytes w16 (a ∷ b ∷ [])) (from_be_bytes w16 (c ∷ d ∷ [])) bytes

-- the edit of this kind
abbrev pub edit_of : ℕ → List ℕ → List ℕ → Result Edit EditFault
edit_of kind key value =
    if kind == 1 then Ok (Put key value)
    else if kind == 2 then (if length value == 0 then Ok (Remove key) else Err Form)
    else Err Form

-- what is read next, if all was well so far
infixl 10 ◌>>=◌
abbrev pub ◌>>=◌ : {A B : Type 0} → Result A EditFault → (A → Result B EditFault)
    → Result B EditFault
(Ok x) >>= more = more x
(Err fault) >>= more = Err fault

-- the first edit, and the bytes after it
unfoldable pub edit_at : List ℕ → Result (Edit × List ℕ) EditFault
edit_at bytes = parts_at bytes >>= λ x. edit_of x.0 x.1 x.2 >>= λ e. Ok (e, x.3)

-- the edits from here on, or the fault of the one at this place
abbrev pub placed : {A : Type 0} → ℕ → Result A EditFault → (A → Result (List Edit) BadEdit)
    → Result (List Edit) BadEdit
placed place (Ok x) more = more x
placed place (Err fault) more = Err (record { place = place; fault = fault })

-- the edits before and those of the bytes, in at most this many steps
unfoldable pub edits_from : ℕ → List Edit → List ℕ → Result (List Edit) BadEdit
edits_from zero before bytes = Ok before
edits_from (suc n) before [] = Ok before
edits_from (suc n) before (b ∷ bytes) = placed (length before) (edit_at (b ∷ bytes))
    (λ x. edits_from n (before ++ x.0 ∷ []) x.1)

-- the edits of a buffer, or the place of its first bad one, counted from 0, with its fault. An edit
-- takes a byte at least
unfoldable pub edits_in : List ℕ → Result (List Edit) BadEdit
edits_in bytes = edits_from (length bytes) [] bytes

-- the edits of a buffer that has no bad one
abbrev pub edits_or_none : Result (List Edit) BadEdit → List Edit
edits_or_none (Ok es) = es
edits_or_none (Err bad) = []

-- ---- what C is told

-- A batch by a free pass is as the pass's contract says, if there is memory for the list of its
-- edits; otherwise the pass does nothing. A pinned pass makes none of them
abbrev pub Applies : List Edit → State → Result (Unit {0}) ApplyRefusal → State → Type 0
Applies es Away result s = ⊥
Applies es (Free p) (Ok _) s =
    (q : Known) × (s ≡ Free q) × Wrote (made_by p (Batch es)) p history.done q
Applies es (Free p) (Err (Store fault)) s =
    (q : Known) × (s ≡ Free q) × RefusesBatch fault es p q
Applies es (Free p) (Err (Memory refused)) s = (s ≡ Free p) × (0 < length es)
Applies es (Free p) (Err Pins) s = ⊥
Applies es (Pinned p) (Err Pins) s = s ≡ Pinned p
Applies es (Pinned p) (Err (Memory refused)) s = ⊥
Applies es (Pinned p) (Err (Store fault)) s = ⊥
Applies es (Pinned p) (Ok _) s = ⊥

abbrev pub fault_code : EditFault → ℤ
fault_code KeySize = bad_key
fault_code ValueSize = bad_value
fault_code Form = bad_batch

-- the code of a batch that a store was refused
abbrev pub apply_fault_code : ApplyFault → ℤ
apply_fault_code apply.Busy = busy
apply_fault_code apply.VersionsSpent = versions_spent
apply_fault_code (apply.Memory refused) = memory
apply_fault_code apply.NoRoom = no_free_rows

abbrev pub apply_refusal_code : ApplyRefusal → ℤ
apply_refusal_code Pins = wrong_state
apply_refusal_code (Memory refused) = memory
apply_refusal_code (Store fault) = apply_fault_code fault

abbrev pub apply_code : Result (Unit {0}) ApplyRefusal → ℤ
apply_code (Ok _) = pos 0
apply_code (Err fault) = apply_refusal_code fault

-- the place of a bad edit is told before the pass does anything; otherwise what the pass did
abbrev pub SpeltTold : Result (List Edit) BadEdit → State → ℕ → ℤ → ℕ → Option State → Type 0
SpeltTold (Err bad) s place code place' hand =
    (code ≡ fault_code bad.fault) × (place' ≡ bad.place) × (hand ≡ Some s)
SpeltTold (Ok es) s place code place' hand = (r : Result (Unit {0}) ApplyRefusal) × (t : State)
    × (hand ≡ Some t) × Applies es s r t × (code ≡ apply_code r) × (place' ≡ place)

-- -7 for an empty hand, otherwise by what the buffer spells
abbrev pub ApplyTold : Option State → List ℕ → ℕ → ℤ → ℕ → Option State → Type 0
ApplyTold None bytes place code place' hand =
    (code ≡ closed) × (place' ≡ place) × (hand ≡ None)
ApplyTold (Some s) bytes place code place' hand =
    SpeltTold (edits_in bytes) s place code place' hand
