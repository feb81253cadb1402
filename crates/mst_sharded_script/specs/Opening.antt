-- A new map for a script.
use Rattle.std.specs.Prelude.{◌≡◌, ◌<◌, ◌+◌, ◌-◌, ℕ, List, [], map}
use Rattle.mst_words.specs.declared.view.Shape.{Shape}
use Rattle.mst_store.specs.Passes.{IsShape, most_passes}
use Rattle.mst_shards.specs.BlockHistory.{Whole, whole}
use Rattle.mst_shards.specs.Opening.{Shards, HasShards, Dealt, first_lots}
use Rattle.mst_blocks.specs.Writing.{IsWriterOf, HasMade}
use Rattle.mst_sharded_script.specs.States.{ScriptState, are_free}

-- the shapes that words may name for the shards of a script's map: a pass is left for the writer
abbrev pub IsScriptShape : Shape → Type 0
IsScriptShape shape = IsShape shape × (shape.passes < most_passes)

-- the shape of the shards: with the writer's pass
abbrev pub with_writer : Shape → Shape
with_writer shape =
    record { rows = shape.rows; passes = shape.passes + 1; format = shape.format }

-- the reader of what was dealt to it
abbrev pub reader_of : List (List ℕ) → Dealt → Whole
reader_of splits d = whole splits d.passes d.directory

-- the readers of a map, in the order of their numbers
abbrev pub new_readers : Shards → List Whole
new_readers s =
    map (reader_of s.splits) (first_lots s.stores s.directory (s.directory.passes - 1))

-- the writer and the readers of a map, which has made no block but that of the empty map
pub record AreNewOf (s : Shards) (w : Whole) (readers : List Whole) : Type 0 where
  pub own : IsWriterOf s w
  pub none : HasMade [] w
  pub readers_are : readers ≡ new_readers s

-- such a map with these splits, and with shards of a shape that words may name
pub record Opens (splits : List (List ℕ)) (shape : Shape) (w : Whole) (readers : List Whole)
    : Type 0 where
  pub shards : Shards
  pub shaped : HasShards splits (with_writer shape) shards
  pub new : AreNewOf shards w readers

-- a script over such a map, with passes that have pinned nothing, before its first version
pub record IsNewScript (splits : List (List ℕ)) (shape : Shape) (s : ScriptState) : Type 0 where
  pub readers : List Whole
  pub opened : Opens splits shape s.writer readers
  pub passes : s.passes ≡ are_free readers
  pub layout : s.layout ≡ record { splits = splits; shape = shape; before = 0 }
