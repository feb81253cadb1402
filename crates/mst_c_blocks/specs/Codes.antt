-- The numbers that only calls of sharded maps return if they have no answer. `mst_c` has the rest,
-- and `include/mst_store.h` has the same names.
use Rattle.std.specs.Prelude.{ℤ, negsuc}

-- -29: another than the writer of blocks has written
abbrev pub overtaken : ℤ
overtaken = negsuc 28

-- -30: a block is just being published
abbrev pub moving : ℤ
moving = negsuc 29
