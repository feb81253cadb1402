-- What C is told by a call, and what its hand then holds.
use Rattle.std.specs.Prelude.{◌≡◌, ◌<◌, ◌≤◌, ℕ, ℤ, pos, nat_lt, if◌then◌else◌, List, ◌++◌, length, drop, Bool, true, false, Option, Some, None, Result, Ok, Err}
use Rattle.mst_key.specs.Bytes.{IsKey, IsValue}
use Rattle.mst_key.specs.Map.{Pair, map_get, map_next}
use Rattle.mst_key.specs.declared.history.Change.TheVariants.{Put, Remove}
use Rattle.mst_node.specs.Text.{root}
use Rattle.mst_node.specs.Trail.{proof_text}
use Rattle.mst_versions.specs.declared.faults.WriteFault.TheVariants.{Busy, VersionsSpent, NoRoom}
use Rattle.mst_c.specs.Codes.{absent, short_room, bad_key, bad_value, closed, wrong_state, memory, busy, versions_spent, no_free_rows, rows_pinned}
use Rattle.mst_c.specs.declared.pass_box.State.{State}
use Rattle.mst_c.specs.declared.pass_box.WriteRefusal.{WriteRefusal}
use Rattle.mst_c.specs.declared.pass_box.WriteRefusal.TheVariants.{Pins, Store}
use Rattle.mst_c.specs.declared.pass_box.CountRefusal.{CountRefusal}
use Rattle.mst_c.specs.declared.pass_box.CountRefusal.TheVariants as count_refusal
use Rattle.mst_c.specs.Holding.{Reads, Forgets, Writes, PinsNow, Unpins, Versions, Counts}

-- the length of a value that there is room for, -2 where there is not, -1 for absence
abbrev pub value_code : ℕ → Option (List ℕ) → ℤ
value_code room (Some value) = if nat_lt room (length value) then short_room else pos (length value)
value_code room None = absent

-- a value that there is room for stands first; all else stays
abbrev pub room_after : List ℕ → Option (List ℕ) → List ℕ
room_after room (Some value) =
    if nat_lt (length room) (length value) then room else value ++ drop (length value) room
room_after room None = room

abbrev pub write_refusal_code : WriteRefusal → ℤ
write_refusal_code Pins = wrong_state
write_refusal_code (Store Busy) = busy
write_refusal_code (Store VersionsSpent) = versions_spent
write_refusal_code (Store NoRoom) = no_free_rows

abbrev pub write_code : ℕ → Result (Option (List ℕ)) WriteRefusal → ℤ
write_code room (Ok old) = value_code room old
write_code room (Err fault) = write_refusal_code fault

abbrev pub write_room : List ℕ → Result (Option (List ℕ)) WriteRefusal → List ℕ
write_room room (Ok old) = room_after room old
write_room room (Err fault) = room

-- a call that came to nothing: the hand and the room are as they were
abbrev pub Nothing : ℤ → Option State → List ℕ → ℤ → List ℕ → Option State → Type 0
Nothing wanted hand room code room' hand' = (code ≡ wanted) × (room' ≡ room) × (hand' ≡ hand)

-- a pass returns the key's value, and C is told of it
abbrev pub ValueTold : List ℕ → State → List ℕ → ℤ → List ℕ → State → Type 0
ValueTold key s room code room' t =
    (a : Option (List ℕ)) × Reads (λ _ m. map_get m key) s a t
    × (code ≡ value_code (length room) a) × (room' ≡ room_after room a)

-- -7 for an empty hand, -5 for what is no key, otherwise the answer of the pass
abbrev pub GetTold : Option State → List ℕ → List ℕ → ℤ → List ℕ → Option State → Type 0
GetTold None key room code room' hand = Nothing closed None room code room' hand
GetTold (Some s) key room code room' hand =
    (¬ (IsKey key) → Nothing bad_key (Some s) room code room' hand)
    × (IsKey key → (a : Option (List ℕ)) × (t : State) × (hand ≡ Some t)
    × Reads (λ _ m. map_get m key) s a t
    × (code ≡ value_code (length room) a) × (room' ≡ room_after room a))

-- -7 for an empty hand, -5 for what is no key, -6 for what is no value, otherwise what the pass did
abbrev pub PutTold : Option State → List ℕ → List ℕ → List ℕ → ℤ → List ℕ → Option State → Type 0
PutTold None key value room code room' hand = Nothing closed None room code room' hand
PutTold (Some s) key value room code room' hand =
    (¬ (IsKey key) → Nothing bad_key (Some s) room code room' hand)
    × (IsKey key → ¬ (IsValue value) → Nothing bad_value (Some s) room code room' hand)
    × (IsKey key → IsValue value → (r : Result (Option (List ℕ)) WriteRefusal) × (t : State)
    × (hand ≡ Some t)
    × Writes (Put key value) s r t × (code ≡ write_code (length room) r)
    × (room' ≡ write_room room r))

abbrev pub done_code : Bool → ℤ
done_code true = pos 0
done_code false = wrong_state

abbrev pub PinTold : Option State → ℤ → Option State → Type 0
PinTold None code hand = (code ≡ closed) × (hand ≡ None)
PinTold (Some s) code hand =
    (done : Bool) × (t : State) × (hand ≡ Some t) × PinsNow s done t × (code ≡ done_code done)

abbrev pub UnpinTold : Option State → ℤ → Option State → Type 0
UnpinTold None code hand = (code ≡ closed) × (hand ≡ None)
UnpinTold (Some s) code hand =
    (done : Bool) × (t : State) × (hand ≡ Some t) × Unpins s done t × (code ≡ done_code done)

-- an empty hand stays empty, and any other is then
abbrev pub CloseTold : Option State → ℤ → Option State → Type 0
CloseTold None code hand = (code ≡ closed) × (hand ≡ None)
CloseTold (Some s) code hand = (code ≡ pos 0) × (hand ≡ None)

-- -7 for an empty hand, -2 if the room has less than 32 bytes, otherwise the digest stands first in
-- it
abbrev pub RootTold : Option State → List ℕ → ℤ → List ℕ → Option State → Type 0
RootTold None room code room' hand = Nothing closed None room code room' hand
RootTold (Some s) room code room' hand =
    (length room < 32 → Nothing short_room (Some s) room code room' hand)
    × (32 ≤ length room → (digest : List ℕ) × (t : State) × (hand ≡ Some t) × Reads root s digest t
    × (code ≡ pos 32) × (room' ≡ digest ++ drop 32 room))

-- the answer to a question for a proof: none if memory was refused, and a free pass has asked then
abbrev pub Proves : List ℕ → State → Option (List ℕ) → State → Type 0
Proves key s None t = Forgets s t
Proves key s (Some proof) t = Reads (λ f m. proof_text f m key) s proof t

-- 0 for bytes that there is room for, -2 if there is none, -9 if memory was refused
abbrev pub bytes_code : ℕ → Option (List ℕ) → ℤ
bytes_code room None = memory
bytes_code room (Some bytes) = if nat_lt room (length bytes) then short_room else pos 0

-- how many bytes they are
abbrev pub size_after : ℕ → Option (List ℕ) → ℕ
size_after size None = size
size_after size (Some bytes) = length bytes

-- -7 for an empty hand, -5 for what is no key, otherwise the answer of the pass
abbrev pub ProveTold : Option State → List ℕ → List ℕ → ℕ → ℤ → List ℕ → ℕ → Option State → Type 0
ProveTold None key room size code room' size' hand = Nothing closed None room code room' hand
    × (size' ≡ size)
ProveTold (Some s) key room size code room' size' hand =
    (¬ (IsKey key) → Nothing bad_key (Some s) room code room' hand × (size' ≡ size))
    × (IsKey key → (r : Option (List ℕ)) × (t : State) × (hand ≡ Some t) × Proves key s r t
    × (code ≡ bytes_code (length room) r) × (room' ≡ room_after room r)
    × (size' ≡ size_after size r))

-- -7 for an empty hand, -5 for what is no key, otherwise what the pass did
abbrev pub RemoveTold : Option State → List ℕ → List ℕ → ℤ → List ℕ → Option State → Type 0
RemoveTold None key room code room' hand = Nothing closed None room code room' hand
RemoveTold (Some s) key room code room' hand =
    (¬ (IsKey key) → Nothing bad_key (Some s) room code room' hand)
    × (IsKey key → (r : Result (Option (List ℕ)) WriteRefusal) × (t : State) × (hand ≡ Some t)
    × Writes (Remove key) s r t × (code ≡ write_code (length room) r) × (room' ≡ write_room room r))

-- -7 for an empty hand, otherwise the number of the version is written
abbrev pub VersionTold : Option State → ℕ → ℤ → ℕ → Option State → Type 0
VersionTold None number code number' hand = (code ≡ closed) × (number' ≡ number) × (hand ≡ None)
VersionTold (Some s) number code number' hand =
    (t : State) × (hand ≡ Some t) × Versions s number' t × (code ≡ pos 0)

-- -7 for an empty hand, otherwise the number of the version's pairs is written
abbrev pub LenTold : Option State → ℕ → ℤ → ℕ → Option State → Type 0
LenTold None count code count' hand = (code ≡ closed) × (count' ≡ count) × (hand ≡ None)
LenTold (Some s) count code count' hand =
    (t : State) × (hand ≡ Some t) × Reads (λ _ m. length m) s count' t × (code ≡ pos 0)

abbrev pub count_code : Result (Option ℕ) CountRefusal → ℤ
count_code (Ok (Some n)) = pos 0
count_code (Ok None) = rows_pinned
count_code (Err count_refusal.Pins) = wrong_state
count_code (Err count_refusal.Busy) = busy

-- the rows that were counted, where they were
abbrev pub count_after : ℕ → Result (Option ℕ) CountRefusal → ℕ
count_after number (Ok (Some n)) = n
count_after number (Ok None) = number
count_after number (Err fault) = number

-- -7 for an empty hand, otherwise what the pass found
abbrev pub RowsTold : Option State → ℕ → ℤ → ℕ → Option State → Type 0
RowsTold None number code number' hand = (code ≡ closed) × (number' ≡ number) × (hand ≡ None)
RowsTold (Some s) number code number' hand =
    (r : Result (Option ℕ) CountRefusal) × (t : State) × (hand ≡ Some t) × Counts s r t
    × (code ≡ count_code r) × (number' ≡ count_after number r)

-- what bounds a key: none or the bytes of one; no bytes bind nothing
abbrev pub IsBound : List ℕ → Type 0
IsBound bytes = length bytes ≤ 32

abbrev pub bound_of : List ℕ → Option (List ℕ)
bound_of bytes = if nat_lt 0 (length bytes) then Some bytes else None

-- a pair that there is room for: its key stands first in one room, its value in the other
abbrev pub pair_code : ℕ → ℕ → Option Pair → ℤ
pair_code keys values None = absent
pair_code keys values (Some (key, value)) =
    if nat_lt keys (length key) then short_room else value_code values (Some value)

abbrev pub key_room_after : List ℕ → List ℕ → Option Pair → List ℕ
key_room_after keys values None = keys
key_room_after keys values (Some (key, value)) =
    if nat_lt (length values) (length value) then keys else room_after keys (Some key)

abbrev pub value_room_after : List ℕ → List ℕ → Option Pair → List ℕ
value_room_after keys values None = values
value_room_after keys values (Some (key, value)) =
    if nat_lt (length keys) (length key) then values else room_after values (Some value)

-- how long the key is, if the pair was told
abbrev pub key_size_after : List ℕ → List ℕ → ℕ → Option Pair → ℕ
key_size_after keys values size None = size
key_size_after keys values size (Some (key, value)) =
    if nat_lt (length keys) (length key) then size
    else if nat_lt (length values) (length value) then size else length key

-- -7 for an empty hand, -5 for what is no bound, otherwise the answer of the pass
abbrev pub NextTold : Option State → List ℕ → List ℕ → ℕ → List ℕ → ℤ → List ℕ → ℕ → List ℕ
    → Option State → Type 0
NextTold None key keys size values code keys' size' values' hand =
    Nothing closed None values code values' hand × (keys' ≡ keys) × (size' ≡ size)
NextTold (Some s) key keys size values code keys' size' values' hand =
    (¬ (IsBound key) → Nothing bad_key (Some s) values code values' hand × (keys' ≡ keys)
    × (size' ≡ size))
    × (IsBound key → (pair : Option Pair) × (t : State) × (hand ≡ Some t)
    × Reads (λ _ m. map_next m (bound_of key)) s pair t
    × (code ≡ pair_code (length keys) (length values) pair)
    × (keys' ≡ key_room_after keys values pair) × (size' ≡ key_size_after keys values size pair)
    × (values' ≡ value_room_after keys values pair))
