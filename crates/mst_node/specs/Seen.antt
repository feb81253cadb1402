-- An entry of a text as contracts see it: without where its bytes lie.
use Rattle.std.specs.Prelude.{option_copied}
use Rattle.mst_node.specs.Text.{FlatEntry}
use Rattle.mst_node.specs.declared.reading.EntryBytes.{EntryBytes}

abbrev pub seen : EntryBytes → FlatEntry
seen e = record { child = option_copied e.child; key = e.key.now; held = e.value.now }
