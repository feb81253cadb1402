-- How many rows are free, which versions are pinned, and which one a pass made: what the calls
-- through a hand's pass do, and what C is told.
use Rattle.std.specs.Prelude.{◌≡◌, ℕ, ℤ, pos, ◌+◌, nat_lt, if◌then◌else◌, List, [], length, Option, Some, None, Result, Ok, Err}
use Rattle.mst_key.specs.History.{after}
use Rattle.mst_store.specs.Passes.{Known, format_seen, Looks, FindsBusy, AreFree}
use Rattle.mst_versions.specs.Listing.{IsListing}
use Rattle.mst_versions.specs.Writes.{rows_of, AreFound}
use Rattle.mst_c.specs.Codes.{absent, short_room, closed, wrong_state, busy}
use Rattle.mst_c.specs.declared.pass_box.State.{State}
use Rattle.mst_c.specs.declared.pass_box.State.TheVariants.{Away, Free, Pinned}
use Rattle.mst_c.specs.declared.pass_box.CountRefusal.{CountRefusal}
use Rattle.mst_c.specs.declared.pass_box.CountRefusal.TheVariants.{Pins, Busy}
use Rattle.mst_c.specs.Told.{room_after}

-- The rows that are free are counted by a free pass where no other pass writes, with pinned
-- versions too, in as many steps as the pass's contract says
abbrev pub CountsFree : State → Result ℕ CountRefusal → State → Type 0
CountsFree Away result s = ⊥
CountsFree (Free p) (Ok free) s =
    (q : Known) × (s ≡ Free q) × Looks p q × AreFree free q
    × AreFound p.store.passes q.seen q.found
    × (q.found ≡ [] → free + rows_of (format_seen q) (after q.seen) ≡ q.store.rows)
    × (q.asked ≡ p.asked + p.store.passes + 2)
CountsFree (Free p) (Err Busy) s = (q : Known) × (s ≡ Free q) × FindsBusy p q
CountsFree (Free p) (Err Pins) s = ⊥
CountsFree (Pinned p) (Err Pins) s = s ≡ Pinned p
CountsFree (Pinned p) (Err Busy) s = ⊥
CountsFree (Pinned p) (Ok free) s = ⊥

-- The versions that are found pinned are listed by a free pass where no other pass has the turn, in
-- as many steps as the pass's contract says
abbrev pub ListsPinned : State → Result (List ℕ) CountRefusal → State → Type 0
ListsPinned Away result s = ⊥
ListsPinned (Free p) (Ok versions) s =
    (q : Known) × (s ≡ Free q) × Looks p q × IsListing q.found versions
    × AreFound (p.store.passes + 1) q.seen q.found
    × (q.asked ≡ p.asked + p.store.passes + 4)
ListsPinned (Free p) (Err Busy) s = (q : Known) × (s ≡ Free q) × FindsBusy p q
ListsPinned (Free p) (Err Pins) s = ⊥
ListsPinned (Pinned p) (Err Pins) s = s ≡ Pinned p
ListsPinned (Pinned p) (Err Busy) s = ⊥
ListsPinned (Pinned p) (Ok versions) s = ⊥

-- the version that the pass's last write made, free or pinned; nothing changes
abbrev pub Knows : State → Option ℕ → State → Type 0
Knows Away made s = ⊥
Knows (Free p) made s = (s ≡ Free p) × (made ≡ p.made)
Knows (Pinned p) made s = (s ≡ Pinned p) × (made ≡ p.made)

abbrev pub free_code : Result ℕ CountRefusal → ℤ
free_code (Ok n) = pos 0
free_code (Err Pins) = wrong_state
free_code (Err Busy) = busy

-- the free rows, where they were counted
abbrev pub free_after : ℕ → Result ℕ CountRefusal → ℕ
free_after number (Ok n) = n
free_after number (Err fault) = number

-- -7 for an empty hand, otherwise what the pass found
abbrev pub FreeRowsTold : Option State → ℕ → ℤ → ℕ → Option State → Type 0
FreeRowsTold None number code number' hand =
    (code ≡ closed) × (number' ≡ number) × (hand ≡ None)
FreeRowsTold (Some s) number code number' hand =
    (r : Result ℕ CountRefusal) × (t : State) × (hand ≡ Some t) × CountsFree s r t
    × (code ≡ free_code r) × (number' ≡ free_after number r)

abbrev pub unlisted_code : CountRefusal → ℤ
unlisted_code Pins = wrong_state
unlisted_code Busy = busy

-- 0 for versions that there is room for, -2 if there is none
abbrev pub versions_code : ℕ → Result (List ℕ) CountRefusal → ℤ
versions_code room (Ok versions) = if nat_lt room (length versions) then short_room else pos 0
versions_code room (Err fault) = unlisted_code fault

-- versions that there is room for stand first; all else stays
abbrev pub versions_room : List ℕ → Result (List ℕ) CountRefusal → List ℕ
versions_room room (Ok versions) = room_after room (Some versions)
versions_room room (Err fault) = room

-- how many versions they are
abbrev pub versions_count : ℕ → Result (List ℕ) CountRefusal → ℕ
versions_count count (Ok versions) = length versions
versions_count count (Err fault) = count

-- -7 for an empty hand, otherwise what the pass found
abbrev pub PinnedVersionsTold : Option State → List ℕ → ℕ → ℤ → List ℕ → ℕ → Option State → Type 0
PinnedVersionsTold None room count code room' count' hand =
    (code ≡ closed) × (room' ≡ room) × (count' ≡ count) × (hand ≡ None)
PinnedVersionsTold (Some s) room count code room' count' hand =
    (r : Result (List ℕ) CountRefusal) × (t : State) × (hand ≡ Some t) × ListsPinned s r t
    × (code ≡ versions_code (length room) r) × (room' ≡ versions_room room r)
    × (count' ≡ versions_count count r)

abbrev pub made_code : Option ℕ → ℤ
made_code (Some n) = pos 0
made_code None = absent

-- the version, if the pass made one
abbrev pub made_after : ℕ → Option ℕ → ℕ
made_after number (Some n) = n
made_after number None = number

-- -7 for an empty hand, -1 for a pass that made no version
abbrev pub MadeTold : Option State → ℕ → ℤ → ℕ → Option State → Type 0
MadeTold None number code number' hand = (code ≡ closed) × (number' ≡ number) × (hand ≡ None)
MadeTold (Some s) number code number' hand =
    (made : Option ℕ) × (t : State) × (hand ≡ Some t) × Knows s made t
    × (code ≡ made_code made) × (number' ≡ made_after number made)
