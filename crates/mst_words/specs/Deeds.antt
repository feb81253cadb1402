-- The deeds: all steps of a seat on one word but a publication. Of each: what it tells the seat
-- that does it, what it asks of that seat and of its word, and what the word becomes. The calls of
-- `Board` in `doing.rt` are of any deed, and every step but a publication goes through one of them.
use Rattle.std.specs.Prelude.{◌≡◌, ◌≢◌, ℕ, ◌+◌, ◌-◌, ◌^◌, ◌<◌, ◌==◌, if◌then◌else◌, true, false, bit_xor, Option}
use Rattle.atomic_table.specs.Table.{Me, Step}
use Rattle.mst_key.specs.History.{IsPrefix}
use Rattle.mst_arena.specs.Lists.{In}
use Rattle.mst_arena.specs.Lives as lives
use Rattle.mst_words.specs.declared.view.View.{View}
use Rattle.mst_words.specs.declared.view.DeskState.{DeskState}
use Rattle.mst_words.specs.Layout.{turn_word, current_word, done_word}
use Rattle.mst_words.specs.Steps.{IsFree, IsHolder, IsGiving, IsReadable, IsWritable, IsDoneAtPin, IsDoneAtDue, IsMaskWord, takes_turn, gives_turn, pins_now, unpins, forgets, reads, writes, transfers, asks, notes_current, asks_current, glances}
use Rattle.mst_words.specs.Notes.{sees_all, sees_told}
use Rattle.mst_words.specs.Stored.{stored}

-- what a step tells its seat, of what the seat has before, the word found, and what it has then
abbrev pub Told : Type 1
Told = Step (Option lives.State) → Me (Option lives.State) View → ℕ
    → Me (Option lives.State) View → Type 0

pub data Deed : Type 0 where
  trying : Deed
  giving : Deed
  pinning : Deed
  unpinning : Deed
  forgetting : Deed
  reading : Deed
  writing : Deed
  transferring : Deed
  asking : Deed
  noting : Deed
  asking_current : Deed
  seeing_all : Deed
  seeing_told : Deed
  glancing : Deed

abbrev pub told_by : Deed → Told
told_by trying st m r m' = takes_turn (stored m.0.format) st m r m'
told_by giving st m r m' = gives_turn st m r m'
told_by pinning st m r m' = pins_now (stored m.0.format) st m r m'
told_by unpinning st m r m' = unpins st m r m'
told_by forgetting st m r m' = forgets st m r m'
told_by reading st m r m' = reads st m r m'
told_by writing st m r m' = writes st m r m'
told_by transferring st m r m' = transfers st m r m'
told_by asking st m r m' = asks (stored m.0.format) st m r m'
told_by noting st m r m' = notes_current st m r m'
told_by asking_current st m r m' = asks_current st m r m'
told_by seeing_all st m r m' = sees_all st m r m'
told_by seeing_told st m r m' = sees_told st m r m'
told_by glancing st m r m' = glances st m r m'

-- what a deed on a word asks of the seat that does it
abbrev pub MayDo : Deed → ℕ → Me (Option lives.State) View → Type 0
MayDo trying i m = (i ≡ turn_word) × IsFree m.0.number m
MayDo giving i m = (i ≡ turn_word)
    × ((x : Option lives.State) × (d : DeskState) × IsGiving (stored m.0.format) x d m)
MayDo pinning i m = (i ≡ current_word) × IsFree m.0.number m
MayDo unpinning i m = IsDoneAtPin m.0 i × (m.0.turn ≡ false)
MayDo forgetting i m = IsDoneAtPin m.0 i × (m.0.turn ≡ false)
MayDo reading i m = IsReadable m.0 i
MayDo writing i m = IsHolder m × IsWritable (stored m.0.format) m.0 i
MayDo transferring i m = IsDoneAtDue m.0 i × (m.0.turn ≡ true)
MayDo asking i m = (r : ℕ) × (i ≡ done_word r) × (r < m.0.passes + 2)
    × (r ≢ m.0.desk.current) × (In r m.0.blocked → ⊥) × IsHolder m
MayDo noting i m = (i ≡ current_word) × IsHolder m
MayDo asking_current i m = (i ≡ done_word m.0.desk.current) × IsHolder m
MayDo seeing_all i m = (i ≡ current_word) × (m.0.turn ≡ false)
MayDo seeing_told i m = (i ≡ current_word) × (m.0.turn ≡ false) × IsPrefix m.0.seen m.0.told
MayDo glancing i m = IsMaskWord i

-- What the word of a deed becomes: the turn is taken where it is free, the bit of a pass turns at
-- its pin and at the end of its pin, and a transfer turns the bits of its mask. Every other deed is
-- a load
abbrev pub word_after : Deed → Step (Option lives.State) → View → ℕ → ℕ
word_after trying st v n = if n == 0 then v.number else n
word_after giving st v n = 0
word_after pinning st v n = bit_xor n (2 ^ (v.number - 1))
word_after unpinning st v n = bit_xor n (2 ^ (v.number - 1))
word_after forgetting st v n = bit_xor n (2 ^ (v.number - 1))
word_after writing st v n = st.first
word_after transferring st v n = bit_xor n v.mask
word_after deed st v n = n
