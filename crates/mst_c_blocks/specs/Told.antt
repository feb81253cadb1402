-- What C is told by a call of a hand of a sharded map, and what the hand then holds.
use Rattle.std.specs.Prelude.{◌≡◌, ℕ, zero, suc, ℤ, pos, nat_lt, if◌then◌else◌, List, ◌++◌, length, drop, Bool, true, false, Option, Some, None, Result, Ok, Err}
use Rattle.mst_key.specs.Bytes.{IsKey}
use Rattle.mst_c.specs.Codes.{short_room, bad_key, closed, wrong_state}
use Rattle.mst_c.specs.Told.{value_code, room_after, done_code}
use Rattle.mst_c_blocks.specs.Codes.{moving, overtaken}
use Rattle.mst_c_blocks.specs.declared.asking.GetRefusal.{GetRefusal}
use Rattle.mst_c_blocks.specs.declared.asking.GetRefusal.TheVariants.{Overtaken, NoMap}
use Rattle.mst_c_blocks.specs.declared.role_box.Role.{Role}
use Rattle.mst_c_blocks.specs.Holding.{shards_in, Numbers, HasRoot, Tries, Releases, Gets}

-- a call that came to nothing: the hand and the room are as they were
abbrev pub Nothing : ℤ → Option Role → List ℕ → ℤ → List ℕ → Option Role → Type 0
Nothing wanted hand room code room' hand' = (code ≡ wanted) × (room' ≡ room) × (hand' ≡ hand)

-- -8 where it is not asked how many shards there are
abbrev pub shards_code : ℕ → ℤ
shards_code zero = wrong_state
shards_code (suc n) = pos (suc n)

-- -7 for an empty hand, otherwise how many shards there are
abbrev pub ShardsTold : Option Role → ℤ → Option Role → Type 0
ShardsTold None code hand = (code ≡ closed) × (hand ≡ None)
ShardsTold (Some r) code hand = (code ≡ shards_code (shards_in r)) × (hand ≡ Some r)

-- ---- numbers and root digests

abbrev pub number_code : Option ℕ → ℤ
number_code (Some n) = pos 0
number_code None = wrong_state

abbrev pub number_after : ℕ → Option ℕ → ℕ
number_after number (Some n) = n
number_after number None = number

-- -7 for an empty hand, otherwise the number of the block is written, if there is one
abbrev pub NumberTold : Option Role → ℕ → ℤ → ℕ → Option Role → Type 0
NumberTold None number code number' hand =
    (code ≡ closed) × (number' ≡ number) × (hand ≡ None)
NumberTold (Some r) number code number' hand =
    (n : Option ℕ) × (hand ≡ Some r) × Numbers r n × (code ≡ number_code n)
    × (number' ≡ number_after number n)

-- -8 without a root digest, -2 if the room has less than 32 bytes; otherwise it stands first there
abbrev pub root_code : ℕ → Option (List ℕ) → ℤ
root_code room (Some root) = if nat_lt room 32 then short_room else pos 32
root_code room None = wrong_state

abbrev pub root_room : List ℕ → Option (List ℕ) → List ℕ
root_room room (Some root) = if nat_lt (length room) 32 then room else root ++ drop 32 room
root_room room None = room

-- -7 for an empty hand, otherwise the root digest of the writer or the snapshot
abbrev pub RootTold : Option Role → List ℕ → ℤ → List ℕ → Option Role → Type 0
RootTold None room code room' hand = Nothing closed None room code room' hand
RootTold (Some r) room code room' hand =
    (a : Option (List ℕ)) × (t : Role) × (hand ≡ Some t) × HasRoot r a t
    × (code ≡ root_code (length room) a) × (room' ≡ root_room room a)

-- ---- snapshots

-- 0 for a snapshot that was taken, -30 while a block is published, -8 for what is no reader
abbrev pub try_code : Option Bool → ℤ
try_code (Some true) = pos 0
try_code (Some false) = moving
try_code None = wrong_state

-- -7 for an empty hand, otherwise whether the reader has taken a snapshot
abbrev pub TryTold : Option Role → ℤ → Option Role → Type 0
TryTold None code hand = (code ≡ closed) × (hand ≡ None)
TryTold (Some r) code hand =
    (a : Option Bool) × (t : Role) × (hand ≡ Some t) × Tries r a t × (code ≡ try_code a)

abbrev pub ReleaseTold : Option Role → ℤ → Option Role → Type 0
ReleaseTold None code hand = (code ≡ closed) × (hand ≡ None)
ReleaseTold (Some r) code hand =
    (done : Bool) × (t : Role) × (hand ≡ Some t) × Releases r done t × (code ≡ done_code done)

-- an empty hand stays empty, and any other is then
abbrev pub CloseTold : Option Role → ℤ → Option Role → Type 0
CloseTold None code hand = (code ≡ closed) × (hand ≡ None)
CloseTold (Some r) code hand = (code ≡ pos 0) × (hand ≡ None)

-- ---- values

abbrev pub get_code : ℕ → Result (Option (List ℕ)) GetRefusal → ℤ
get_code room (Ok answer) = value_code room answer
get_code room (Err Overtaken) = overtaken
get_code room (Err NoMap) = wrong_state

abbrev pub get_room : List ℕ → Result (Option (List ℕ)) GetRefusal → List ℕ
get_room room (Ok answer) = room_after room answer
get_room room (Err why) = room

-- -7 for an empty hand, -5 for what is no key, otherwise the answer, or -29 if the writer has none,
-- and -8 for a block that was begun and a part of one
abbrev pub GetTold : Option Role → List ℕ → List ℕ → ℤ → List ℕ → Option Role → Type 0
GetTold None key room code room' hand = Nothing closed None room code room' hand
GetTold (Some r) key room code room' hand =
    (¬ (IsKey key) → Nothing bad_key (Some r) room code room' hand)
    × (IsKey key → (a : Result (Option (List ℕ)) GetRefusal) × (t : Role) × (hand ≡ Some t)
    × Gets key r a t × (code ≡ get_code (length room) a) × (room' ≡ get_room room a))
