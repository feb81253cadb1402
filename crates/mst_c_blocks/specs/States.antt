-- Whether a hand holds the writer of a sharded map, a reader of it, a snapshot, a block that was
-- begun, or a part of one.
use Rattle.mst_c_blocks.specs.declared.role_box.Role.{Role}
use Rattle.mst_c_blocks.specs.declared.role_box.Role.TheVariants.{Away, Writer, Reader, Snapshot, Block, Part}

-- between calls what a hand holds is there
abbrev pub IsThere : Role → Type 0
IsThere Away = ⊥
IsThere (Writer w) = Unit {0}
IsThere (Reader r) = Unit {0}
IsThere (Snapshot s) = Unit {0}
IsThere (Block b) = Unit {0}
IsThere (Part p) = Unit {0}

-- it is there, and keeps no version's rows from being used again
abbrev pub PinsNone : Role → Type 0
PinsNone Away = ⊥
PinsNone (Writer w) = Unit {0}
PinsNone (Reader r) = Unit {0}
PinsNone (Snapshot s) = ⊥
PinsNone (Block b) = Unit {0}
PinsNone (Part p) = Unit {0}
