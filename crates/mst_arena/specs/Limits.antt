-- The limits of an arena.
use Rattle.std.specs.Prelude.{ℕ}

-- the most rows: the link to a row, its number and 1, has 16 bits
abbrev pub most_rows : ℕ
most_rows = 65535

-- the highest link: that to the last of the most rows
abbrev pub highest_link : ℕ
highest_link = 65535

-- the highest layer of a key, that of format 2
abbrev pub highest_layer : ℕ
highest_layer = 128

-- the most entries of a node: each takes a row, and the head of the node one more
abbrev pub most_entries : ℕ
most_entries = 65534
