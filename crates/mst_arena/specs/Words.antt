-- The sixteen words of a row.
use Rattle.std.specs.Prelude.{ℕ, ◌+◌, ◌*◌, ◌/◌, ◌%◌, Bool, ◌==◌, nat_le, nat_lt, ◌&&◌, if◌then◌else◌, List, [], ◌∷◌, length, take, flat_map, slice_index, slice_range, Option, Some, None, option_and_then}
use Rattle.std.specs.Int.{w64, from_be_bytes, to_be_bytes}
use Rattle.std.specs.Str.{bytes_eq as same_words}
use Rattle.mst_arena.specs.Limits.{highest_layer, highest_link, most_entries}
use Rattle.mst_arena.specs.declared.row.Root.{Root}
use Rattle.mst_arena.specs.declared.row.Row.{Row}
use Rattle.mst_arena.specs.declared.row.Row.TheVariants.{Entry, Head}

-- eight bytes from an index on; a byte past the end is 0
abbrev pub eight_from : List ℕ → ℕ → List ℕ
eight_from bytes i =
    slice_index bytes i ∷ slice_index bytes (i + 1)
    ∷ slice_index bytes (i + 2) ∷ slice_index bytes (i + 3)
    ∷ slice_index bytes (i + 4) ∷ slice_index bytes (i + 5)
    ∷ slice_index bytes (i + 6) ∷ slice_index bytes (i + 7) ∷ []

-- the word of these eight bytes, the first of them highest
unfoldable pub word_from : List ℕ → ℕ → ℕ
word_from bytes i = from_be_bytes w64 (eight_from bytes i)

-- how many words a row has
abbrev pub row_words : ℕ
row_words = 16

-- the first word of an entry
abbrev pub entry_tag : ℕ
entry_tag = 1

-- the first word of a head
abbrev pub head_tag : ℕ
head_tag = 2

-- the word of an entry that has the lengths of its key and of its value: that of the key, and
-- `length_radix` times that of the value
abbrev pub lengths_word : ℕ
lengths_word = 3

abbrev pub length_radix : ℕ
length_radix = 256

-- the first of the four words of an entry's key
abbrev pub first_key_word : ℕ
first_key_word = 4

-- the first of the eight words of an entry's value
abbrev pub first_value_word : ℕ
first_value_word = 8

-- the first of the four words of a head's digest
abbrev pub first_digest_word : ℕ
first_digest_word = 5

-- the sixteen words of a row: bytes are packed eight a word, and words that are not needed are 0
abbrev pub words_of : Row → List ℕ
words_of (Entry child next key value) =
    entry_tag ∷ child ∷ next ∷ (length key + length_radix * length value)
    ∷ word_from key 0 ∷ word_from key 8 ∷ word_from key 16 ∷ word_from key 24
    ∷ word_from value 0 ∷ word_from value 8 ∷ word_from value 16 ∷ word_from value 24
    ∷ word_from value 32 ∷ word_from value 40 ∷ word_from value 48 ∷ word_from value 56 ∷ []
words_of (Head layer count first tail digest) =
    head_tag ∷ layer ∷ count ∷ first ∷ tail
    ∷ word_from digest 0 ∷ word_from digest 8 ∷ word_from digest 16 ∷ word_from digest 24
    ∷ 0 ∷ 0 ∷ 0 ∷ 0 ∷ 0 ∷ 0 ∷ 0 ∷ []

-- ---- back from words

-- byte i of words, the highest byte of each word first
abbrev pub byte_of_words : List ℕ → ℕ → ℕ
byte_of_words words i = slice_index (to_be_bytes w64 (slice_index words (i / 8))) (i % 8)

-- all bytes of words, in the same order
abbrev pub bytes_in : List ℕ → List ℕ
bytes_in words = flat_map (to_be_bytes w64) words

-- the entry whose parts stand in these words
abbrev pub entry_in : List ℕ → Row
entry_in words = Entry
    (slice_index words 1)
    (slice_index words 2)
    (take (slice_index words lengths_word % length_radix)
    (bytes_in (slice_range words first_key_word first_value_word)))
    (take (slice_index words lengths_word / length_radix)
    (bytes_in (slice_range words first_value_word row_words)))

-- the head whose parts stand in these words
abbrev pub head_in : List ℕ → Row
head_in words = Head
    (slice_index words 1)
    (slice_index words 2)
    (slice_index words 3)
    (slice_index words 4)
    (bytes_in (slice_range words first_digest_word (first_digest_word + 4)))

-- the only row that words may be of: an entry if the first of them is 1, and otherwise a head
abbrev pub candidate : List ℕ → Row
candidate words = if slice_index words 0 == entry_tag then entry_in words else head_in words

-- whether a row is within its limits, and its bytes are as many as those of a key and a value, or
-- of a digest
abbrev pub has_limits : Row → Bool
has_limits (Entry child next key value) =
    nat_le child highest_link && nat_le next highest_link
    && nat_lt 0 (length key) && nat_le (length key) 32 && nat_le (length value) 64
has_limits (Head layer count first tail digest) =
    nat_le layer highest_layer && nat_lt 0 count && nat_le count most_entries
    && nat_lt 0 first && nat_le first highest_link && nat_le tail highest_link
    && length digest == 32

-- the row that sixteen words spell: the only one that they may be of, if it is within its limits
-- and has exactly these words
unfoldable pub row_in : List ℕ → Option Row
row_in words = if has_limits (candidate words) && same_words (words_of (candidate words)) words
    then Some (candidate words) else None

-- a part of the row that words spell, if they spell one that has this part
abbrev pub part_in : {A : Type 0} → (Row → Option A) → List ℕ → Option A
part_in part words = option_and_then part (row_in words)

-- ---- a root

-- the root that five words spell: its link, and its digest in four words
abbrev pub root_in : List ℕ → Root
root_in words = record { link = slice_index words 0; digest = bytes_in (slice_range words 1 5) }
