-- A script over a sharded map: its writer, its passes, and what its map was opened with.
use Rattle.std.specs.Prelude.{ℕ, List, [], ◌∷◌, Option, Some, None, map}
use Rattle.mst_key.specs.declared.format.Format.{Format}
use Rattle.mst_words.specs.declared.view.Shape.{Shape}
use Rattle.mst_shards.specs.BlockHistory.{Whole}
use Rattle.mst_sharded_script.specs.declared.state.Holding.{Holding}
use Rattle.mst_sharded_script.specs.declared.state.Holding.TheVariants as holds

-- ---- a pass

-- It has pinned nothing, and reads as its reader; or it has pinned a snapshot. If the map has moved
-- since, its reader of the new map stands by
pub data PassState : Type 0 where
  Free : (reader : Whole) → PassState
  Pinned : (snapshot : Whole) → (spare : Option Whole) → PassState

abbrev pub pass_of : {A : Type 0} → Holding A → PassState
pass_of (holds.Free reader) = Free reader
pass_of (holds.Pinned snapshot spare) = Pinned snapshot spare

-- passes that have pinned nothing
abbrev pub are_free : List Whole → List PassState
are_free readers = map (λ r. Free r) readers

-- the reader of a pass that ends its pin
abbrev pub unpinned : Whole → Option Whole → Whole
unpinned snapshot None = snapshot
unpinned snapshot (Some reader) = reader

-- ---- the whole

-- the splits of a map, the shape of its shards without the writer's pass, in the map's format, and
-- how many versions there were before its first block
pub record LayoutState : Type 0 where
  pub splits : List (List ℕ)
  pub shape : Shape
  pub before : ℕ

-- the passes stand in the order of their numbers
pub record ScriptState : Type 0 where
  pub writer : Whole
  pub passes : List PassState
  pub layout : LayoutState

-- ---- a move to a new map

-- the writer and the readers of a map that takes the place of another one, its format, and how many
-- versions there were before its first block
pub record NewMapState : Type 0 where
  pub writer : Whole
  pub readers : List Whole
  pub format : Format
  pub before : ℕ

abbrev pub in_format : Format → Shape → Shape
in_format format shape =
    record { rows = shape.rows; passes = shape.passes; format = format }

-- a pass has this reader from now on, or from the end of its pin on
abbrev pub with_reader : Whole → PassState → PassState
with_reader r (Free reader) = Free r
with_reader r (Pinned snapshot spare) = Pinned snapshot (Some r)

abbrev pub with_readers : List Whole → List PassState → List PassState
with_readers [] passes = []
with_readers (r ∷ readers) [] = []
with_readers (r ∷ readers) (p ∷ passes) = with_reader r p ∷ with_readers readers passes

abbrev pub moved : NewMapState → ScriptState → ScriptState
moved new s = record {
  writer = new.writer;
  passes = with_readers new.readers s.passes;
  layout = record {
    splits = s.layout.splits;
    shape = in_format new.format s.layout.shape;
    before = new.before;
  };
}
