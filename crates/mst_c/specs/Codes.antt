-- The numbers that calls return to C if they have no answer. `include/mst_store.h` has the same
-- names.
use Rattle.std.specs.Prelude.{ℤ, negsuc}

-- -1: there is no such key, pair or shard
abbrev pub absent : ℤ
absent = negsuc 0

-- -2: a room is too short
abbrev pub short_room : ℤ
short_room = negsuc 1

-- -3: no format has this number
abbrev pub unknown_format : ℤ
unknown_format = negsuc 2

-- -5: a key has 1 to 32 bytes
abbrev pub bad_key : ℤ
bad_key = negsuc 4

-- -6: a value has 0 to 64 bytes
abbrev pub bad_value : ℤ
bad_value = negsuc 5

-- -7: the hand holds no pass, and no handle or snapshot of a sharded map
abbrev pub closed : ℤ
closed = negsuc 6

-- -8: the pass is pinned, or is not; the hand holds a snapshot, or a handle
abbrev pub wrong_state : ℤ
wrong_state = negsuc 7

-- -9: a growth of memory was refused
abbrev pub memory : ℤ
memory = negsuc 8

-- -10: a store has 4 to 65,535 rows and 1 to 32 passes
abbrev pub bad_shape : ℤ
bad_shape = negsuc 9

-- -21: another pass has the turn
abbrev pub busy : ℤ
busy = negsuc 20

-- -22: the version has the last number
abbrev pub versions_spent : ℤ
versions_spent = negsuc 21

-- -23: fewer rows are free than the call takes
abbrev pub no_free_rows : ℤ
no_free_rows = negsuc 22

-- -24: rows are not counted, since some pass pins a version
abbrev pub rows_pinned : ℤ
rows_pinned = negsuc 23

-- -25: the bytes are no list of edits
abbrev pub bad_batch : ℤ
bad_batch = negsuc 24

-- -26: the bytes are no splits of a sharded map
abbrev pub bad_splits : ℤ
bad_splits = negsuc 25

-- -27: the shards of a snapshot are in different formats
abbrev pub mixed_formats : ℤ
mixed_formats = negsuc 26

-- -28: a shard has a key of another
abbrev pub stray_key : ℤ
stray_key = negsuc 27
