-- What is left of nodes round a gap, once the tree in the gap is made anew: entries in front of it
-- and entries after it, which are moved into a new node, and rows that go.
use Rattle.mst_key.specs.declared.format.Format.{Format}
use Rattle.std.specs.Prelude.{◌≤◌, ◌<◌, ◌+◌, ℕ, false, List, ◌∷◌}
use Rattle.mst_node.specs.Tree.{Tree}
use Rattle.mst_node.specs.Shape.{with_entries}
use Rattle.mst_arena.specs.Content.{Content}
use Rattle.mst_arena.specs.Lives.{State}
use Rattle.mst_arena.specs.Lists.{In, times}
use Rattle.mst_arena.specs.Standing.{Placed, used}
use Rattle.mst_path.specs.declared.frames.Frame.{Frame}
use Rattle.mst_change.specs.Parts.{with_first, node_of}
use Rattle.mst_change.specs.Cost.{side_rows}
use Rattle.mst_path.specs.Moves.{IsAlive, IsOld}
use Rattle.mst_path.specs.Runs.{RunStands, own, gaps_used}
use Rattle.mst_path.specs.Making.{BackRun, cells_of, entries_to, others}
use Rattle.mst_path.specs.Writing.{PlacedEntry, ahead}

-- the rows that go
abbrev pub spare : Frame → List ℕ
spare frame = frame.head ∷ ahead frame.other

-- the rows of the new node: none if it has no entry
abbrev pub frame_rows : Frame → ℕ
frame_rows frame = side_rows (frame.front.count + frame.back.count) false

-- The entries stand, and they and the rows that go are of the current version or older ones. No row
-- is in two of them, nor in one of them and in the rows that are given for the gap, which are
-- alive.
pub record Framed (format : Format) (content : Content) (s : State) (frame : Frame) (given : ℕ → ℕ)
    : Type 0 where
  pub front : List PlacedEntry
  pub behind : ℕ
  pub front_run : RunStands format content s frame.front.first frame.front.count behind front
  pub back : List PlacedEntry
  pub tail : Placed
  pub back_run : BackRun format content s frame.back.first frame.back.count frame.tail back tail
  pub goes : (r : ℕ) → In r (spare frame) → IsOld s r
  pub alive : (r : ℕ) → 0 < given r → IsAlive s r
  pub once : (x : ℕ)
      → given x + times x (own front) + times x (gaps_used front) + times x (own back) + times x
      (gaps_used (others back)) + times x (used tail) + times x (spare frame) ≤ 1

-- how often a row stands in the entries, with the trees in their gaps, and in all of the frame
abbrev pub in_entries : (format : Format) {content : Content} {s : State} {frame : Frame}
    {given : ℕ → ℕ}
    → Framed format content s frame given → ℕ → ℕ
in_entries format f x = times x (own f.front) + times x (gaps_used f.front) + times x (own f.back)
    + times x (gaps_used (others f.back)) + times x (used f.tail)

abbrev pub in_frame : (format : Format) {content : Content} {s : State} {frame : Frame}
    {given : ℕ → ℕ}
    → Framed format content s frame given → ℕ → ℕ
in_frame format {content} {s} {frame} f x = in_entries format f x + times x (spare frame)

-- the tree with this one in the gap
abbrev pub tree_round : (format : Format) {content : Content} {s : State} {frame : Frame}
    {given : ℕ → ℕ}
    → Framed format content s frame given → Tree → Tree
tree_round format {content} {s} {frame} f t = node_of format frame.layer
    (with_entries (cells_of format f.front) (with_first t (entries_to format f.back f.tail)))
