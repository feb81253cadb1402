-- What a pass may read and write of the rows, by what it knows of the words.
use Rattle.std.specs.Prelude.{◌≡◌, ◌≢◌, ◌<◌, length, take, map, slice_index, slice_set, List, [], ℕ, zero, suc, ◌+◌, ◌*◌, is_some, is_none, Bool, true, ◌&&◌, ◌||◌, not, nat_lt, eqb, if◌then◌else◌, Option, None}
use Rattle.std.specs.List.{list_any, range_with_len}
use Rattle.atomic_table.specs.Seated.{TableId}
use Rattle.atomic_table.specs.Table.{Me}
use Rattle.atomic_table.specs.declared.shared.Seat.{Seat}
use Rattle.mst_arena.specs.Content.{Content}
use Rattle.mst_arena.specs.Lives as lives
use Rattle.mst_arena.specs.Words.{length_radix, first_key_word, first_value_word}
use Rattle.mst_words.specs.declared.view.View.{View}
use Rattle.mst_words.specs.Layout.{row_words, child_word, next_word, first_row, row_word, table_words}
use Rattle.mst_words.specs.Records.{row, known_row}
use Rattle.mst_words.specs.Stored.{rows_in, version_of}

-- a seat at a table: which table, its place there, and what the pass knows and holds of the slot
pub record Seated : Type 0 where
  pub table : TableId
  pub id : ℕ
  pub me : Me (Option lives.State) View

-- a table with one slot and the words of a store of so many rows
pub record IsSized (board : TableId) (rows : ℕ) : Type 0 where
  pub slots : board.slots ≡ 1
  pub wide : board.words ≡ table_words rows

-- a seat of this table, which has the words of a store of so many rows
pub record IsAt (board seat : TableId) (rows : ℕ) : Type 0 where
  pub own : seat ≡ board
  pub wide : board.words ≡ table_words rows

-- what a seat is beside the words of the rows: all else that it knows and holds, the words in front
-- of the rows, and how many words it knows
pub record Beside : Type 0 where
  pub seat : Seated
  pub front : List ℕ
  pub long : ℕ

-- the seat, when it knows these words
abbrev pub with_words : List ℕ → Seated → Seated
with_words words s = record s { me = (record s.me.0 { known_words = words }, s.me.1) }

abbrev pub beside : Seated → Beside
beside s =
    record {
      seat = with_words [] s;
      front = take first_row s.me.0.known_words;
      long = length s.me.0.known_words;
    }

-- the same seat of the same table
abbrev pub IsSameSeat : Seated → Seated → Type 0
IsSameSeat p q = (q.table ≡ p.table) × (q.id ≡ p.id)

-- the same token of the same table: what a seat knows and holds there may have changed
abbrev pub IsSameToken : {S V : Type 0} → Seat S V → Seat S V → Type 0
IsSameToken p q = (q.table_id ≡ p.table_id) × (q.id ≡ p.id)

-- the same token, and nothing has changed that its seat knows and holds
abbrev pub IsUnchangedToken : {S V : Type 0} → Seat S V → Seat S V → Type 0
IsUnchangedToken p q = (q.table_id ≡ p.table_id) × (q.id ≡ p.id) × (q.me ≡ p.me)

-- the same token, and nothing has changed that its seat knows and holds but the words
abbrev pub IsSameButWords : {S : Type 0} → Seat S View → Seat S View → Type 0
IsSameButWords p q = (q.table_id ≡ p.table_id) × (q.id ≡ p.id)
    × (q.me ≡ (record p.me.0 { known_words = q.me.0.known_words }, p.me.1))

-- the holder of the turn may read every row, and a pinned pass the rows that stand for its version
abbrev pub may_read : View → ℕ → Bool
may_read v x = nat_lt x v.rows && (v.turn || (is_some v.pin && list_any (eqb x) v.pinned_rows))

-- the rows that it may read, as the words spell them
abbrev pub content_of : View → Content
content_of v x = if may_read v x then rows_in (known_row v) x else None

-- for each number below n
abbrev pub all_below : ℕ → (ℕ → Bool) → Bool
all_below zero p = true
all_below (suc n) p = p n && all_below n p

-- no version of a record reaches the row, but of records that were found drained
abbrev pub is_unreached : View → ℕ → Bool
is_unreached v x = all_below (v.passes + 2) (λ r. list_any (eqb r) v.drained
    || not (lives.reaches v.desk.lives (version_of v.desk r) x))

-- the holder of the turn, which knows the words, may write such rows, before it publishes
abbrev pub may_write : View → ℕ → Bool
may_write v x = eqb (length v.known_words) (table_words v.rows) && nat_lt x v.rows && v.turn
    && is_none v.pin && is_none v.due && is_unreached v x

-- the first n words of a row are those of a list, and no other word has changed, in a table of so
-- many rows
pub record RowStored (rows x n : ℕ) (words old new : List ℕ) : Type 0 where
  pub long : length new ≡ length old
  pub so_far : (k : ℕ) → k < n → row rows new x k ≡ slice_index words k
  pub others : (i : ℕ) → ((k : ℕ) → k < n → i ≢ row_word rows x k)
      → slice_index new i ≡ slice_index old i

-- so many words of a row, from one on, are those of a function, and no other word has changed
pub record PartStored (rows x at n : ℕ) (word : ℕ → ℕ) (old new : List ℕ) : Type 0 where
  pub long : length new ≡ length old
  pub so_far : (k : ℕ) → k < n → row rows new x (at + k) ≡ word (at + k)
  pub others : (i : ℕ) → ((k : ℕ) → k < n → i ≢ row_word rows x (at + k))
      → slice_index new i ≡ slice_index old i

-- the lengths of a key of 16 bytes and a value of 32, as an entry's word has them
abbrev pub common_lengths : ℕ
common_lengths = 16 + length_radix * 32

-- if these are the common lengths, the words behind key and value are 0
pub record IsPadded (lengths : ℕ) (word : ℕ → ℕ) : Type 0 where
  pub key : lengths ≡ common_lengths → (k : ℕ) → k < 2
      → word (first_key_word + 2 + k) ≡ 0
  pub value : lengths ≡ common_lengths → (k : ℕ) → k < 4
      → word (first_value_word + 4 + k) ≡ 0

-- the words of an entry with another child and another next
abbrev pub relinked_list : (ℕ → ℕ) → ℕ → ℕ → List ℕ
relinked_list word child next =
    slice_set (slice_set (map word (range_with_len 0 row_words)) child_word child) next_word next
