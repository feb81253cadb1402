-- Where the words of a table lie, and how many there are. Word 0 is the turn, word 1 the current
-- record and the mask of its pins; then follow a word DONE for each of the most records, the words
-- of these records, and the words of the rows.
use Rattle.std.specs.Prelude.{ℕ, ◌+◌, ◌-◌, ◌*◌, nat_lt, if◌then◌else◌}

-- the most passes that a table serves
abbrev pub most_passes : ℕ
most_passes = 32

-- the most records that a table has: one for each pass, and two more
abbrev pub most_records : ℕ
most_records = 34

-- how many words a record has: the number of its version, the link of its root, the four words of
-- its root digest, and the number of its format
abbrev pub record_words : ℕ
record_words = 7

-- the word of a record that has the number of its version
abbrev pub version_word : ℕ
version_word = 0

-- the first of the four words of a record's root digest
abbrev pub first_root_digest_word : ℕ
first_root_digest_word = 2

-- the word of a record that has the number of its format
abbrev pub format_word : ℕ
format_word = 6

-- how many words a row has
abbrev pub row_words : ℕ
row_words = 16

-- the word of an entry that has the link of the tree before it
abbrev pub child_word : ℕ
child_word = 1

-- the word of an entry that has the link of the entry after it
abbrev pub next_word : ℕ
next_word = 2

-- the place of the turn
abbrev pub turn_word : ℕ
turn_word = 0

-- the place of the word of the current record
abbrev pub current_word : ℕ
current_word = 1

-- the place of the word DONE of a record
abbrev pub done_word : ℕ → ℕ
done_word r = r + 2

-- the place of the first word of record 0
abbrev pub first_record : ℕ
first_record = 36

-- the place of the first word of the first row, after the records and four unused words
abbrev pub first_row : ℕ
first_row = 278

-- the place of word k of a record
abbrev pub record_word : ℕ → ℕ → ℕ
record_word r k = r * record_words + k + first_record

-- The place of word k of row x, in a table of so many rows. The words of rows lie in three lanes:
-- words 1 to 4 of all rows, which a search loads; then words 5 to 11 and 0; and then words 12 to 15
unfoldable pub row_word : ℕ → ℕ → ℕ → ℕ
row_word rows x k =
    if nat_lt k 1 then rows * 4 + x * 8 + 7 + first_row
    else if nat_lt k 5 then x * 4 + (k - 1) + first_row
    else if nat_lt k 12 then rows * 4 + x * 8 + (k - 5) + first_row
    else rows * 12 + x * 4 + (k - 12) + first_row

-- how many words a table with so many rows has
abbrev pub table_words : ℕ → ℕ
table_words rows = rows * row_words + first_row
