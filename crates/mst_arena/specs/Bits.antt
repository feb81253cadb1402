-- A set of rows as bits of words.
use Rattle.std.specs.Prelude.{◌≡◌, ◌≢◌, ◌≤◌, ◌<◌, ◌+◌, ◌*◌, ◌/◌, ◌%◌, ℕ, Bool, eqb, List, length, map, count_by, slice_index}
use Rattle.std.specs.Int.{bit_at}
use Rattle.std.specs.List.{range_with_len}
use Rattle.mst_arena.specs.Limits.{most_rows}

-- bit i of words, 64 a word, the lowest of each word first; a bit past the end is 0
abbrev pub bit : List ℕ → ℕ → ℕ
bit words i = bit_at (slice_index words (i / 64)) (i % 64)

-- for each row, whether its bit is set
abbrev pub flags : ℕ → List ℕ → List Bool
flags rows words = map (λ r. eqb (bit words r) 1) (range_with_len 0 rows)

abbrev pub count_true : List Bool → ℕ
count_true bs = count_by (λ b. b) bs

-- one bit was written, and only words of this bit changed
pub record BitWritten (old new : List ℕ) (index value : ℕ) : Type 0 where
  pub len : length new ≡ length old
  pub here : bit new index ≡ value
  pub others : (i : ℕ) → i ≢ index → bit new i ≡ bit old i
  pub elsewhere : (w : ℕ) → w ≢ index / 64 → slice_index new w ≡ slice_index old w

-- each bit of the summary says whether a word is not 0
pub record Sums (words summary : List ℕ) : Type 0 where
  pub room : length words ≤ 64 * length summary
  pub no : (w : ℕ) → bit summary w ≡ 0 → slice_index words w ≡ 0
  pub yes : (w : ℕ) → bit summary w ≡ 1 → slice_index words w ≢ 0

-- what a set of rows keeps
pub record IsSet (rows count at : ℕ) (words summary : List ℕ) (words_cap summary_cap : ℕ) : Type 0
  where
    pub few : rows ≤ most_rows
    pub room : rows ≤ 64 * length words
    pub few_words : length words ≤ most_rows
    pub few_sums : length summary ≤ most_rows
    pub cursor : at < length words
    pub beyond : (r : ℕ) → rows ≤ r → bit words r ≡ 0
    pub sums : Sums words summary
    pub counted : count ≡ count_true (flags rows words)
    -- as many words as the rows need, and no room for more
    pub fits : 64 * length words < rows + 64
    pub sums_fit : 64 * length summary < length words + 64
    pub words_full : words_cap ≡ length words
    pub summary_full : summary_cap ≡ length summary
