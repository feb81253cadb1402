-- A new node that is made of parts of nodes that stand: entries in front, a tree in the gap after
-- them, and the entries at the back with the tree in the last gap.
use Rattle.mst_key.specs.declared.format.Format.{Format}
use Rattle.std.specs.Prelude.{◌≡◌, ◌≤◌, ◌+◌, min, ℕ, zero, suc, List, [], ◌∷◌, ◌++◌, length, map}
use Rattle.mst_node.specs.Tree.{Tree, node, Entries, last}
use Rattle.mst_node.specs.Shape.{TreeEntry, with_entries}
use Rattle.mst_arena.specs.Content.{Content}
use Rattle.mst_arena.specs.Lives.{State}
use Rattle.mst_arena.specs.Lists.{In, times}
use Rattle.mst_arena.specs.declared.row.Root.{Root}
use Rattle.mst_arena.specs.Standing.{Placed, none, tree_of, link_of, used, HasRows}
use Rattle.mst_path.specs.declared.making.NodeParts.{NodeParts}
use Rattle.mst_path.specs.Takes.{KeepsBut}
use Rattle.mst_path.specs.Moves.{IsOld, Moves, IsNew}
use Rattle.mst_path.specs.Runs.{Piece, OldPiece, RunStands, own_rows, own, gaps_used, EachGap}
use Rattle.mst_change.specs.Parts.{with_first}
use Rattle.mst_path.specs.Writing.{PlacedEntry, link_from, entries_used, ahead, IsRootOf}
use Rattle.mst_path.specs.Copying.{Going}
use Rattle.mst_path.specs.declared.node_writer.NodeWriter.{NodeWriter}

-- an entry as the tree has it, and all of some
abbrev pub cell_of : (format : Format) → PlacedEntry → TreeEntry
cell_of format e = record { child = tree_of format e.child; key = e.key; value = e.value }

abbrev pub cells_of : (format : Format) → List PlacedEntry → List TreeEntry
cells_of format es = map (cell_of format) es

-- entries and the tree in the last gap, as the tree has them
abbrev pub entries_to : (format : Format) → List PlacedEntry → Placed → Entries
entries_to format es tail = with_entries (cells_of format es) (last (tree_of format tail))

-- the entries after the first
abbrev pub others : List PlacedEntry → List PlacedEntry
others [] = []
others (e ∷ es) = es

-- the link of the last tree, if there are so many entries in front of it
abbrev pub tail_behind : ℕ → ℕ → ℕ
tail_behind zero tail = 0
tail_behind (suc n) tail = tail

-- if there are no entries at the back there is no tree after them
abbrev pub HasTail : List PlacedEntry → Placed → Type 0
HasTail [] tail = tail ≡ none
HasTail (e ∷ es) tail = Unit {0}

-- The entries at the back of a node stand from a link on, with the tree in the last gap. The tree
-- before the first of them does not matter.
pub record BackRun (format : Format) (content : Content) (s : State) (link count tail_link : ℕ)
    (es : List PlacedEntry) (tail : Placed) : Type 0 where
  pub counted : length es ≡ count
  pub begins : link_from 0 es ≡ link
  pub rows : HasRows content (own_rows 0 es)
  pub old : (r : ℕ) → In r (own es) → IsOld s r
  pub gaps : EachGap (OldPiece format content s) (others es)
  pub tail_at : link_of tail ≡ tail_link
  pub tail_piece : OldPiece format content s tail
  pub tail_none : HasTail es tail

-- the parts stand, and no row is in two of them
pub record PartsStand (format : Format) (content : Content) (s : State) (parts : NodeParts)
    : Type 0 where
  pub front : List PlacedEntry
  pub behind : ℕ
  pub front_run : RunStands format content s parts.front.first parts.front.count behind front
  pub seam : Placed
  pub seam_at : IsRootOf format seam parts.seam
  pub seam_piece : Piece format content s seam
  pub back : List PlacedEntry
  pub tail : Placed
  pub back_run : BackRun format content s parts.back.first parts.back.count parts.tail back tail
  pub once : (x : ℕ)
      → times x (own front) + times x (gaps_used front) + times x (used seam) + times x (own back)
      + times x (gaps_used (others back)) + times x (used tail) ≤ 1

-- how often a row stands in the parts
abbrev pub in_parts : (format : Format) {content : Content} {s : State} {parts : NodeParts}
    → PartsStand format content s parts → ℕ → ℕ
in_parts format p x = times x (own p.front) + times x (gaps_used p.front) + times x (used p.seam)
    + times x (own p.back) + times x (gaps_used (others p.back)) + times x (used p.tail)

-- The tree stands at the root, on rows of what was given and rows that were taken, so many of
-- these; what was given and is not of the new tree was killed, and only rows that were taken were
-- written.
pub record Grown (format : Format) (c c' : Content) (s s' : State) (t : Tree) (at : Root)
    (given : ℕ → ℕ) (count : ℕ) : Type 0 where
  pub placed : Placed
  pub is : tree_of format placed ≡ t
  pub root : IsRootOf format placed at
  pub piece : Piece format c' s' placed
  pub taken : List ℕ
  pub killed : List ℕ
  pub moves : Moves s s' taken killed
  pub keeps : KeepsBut taken c c'
  pub rows : (x : ℕ) → times x (used placed) + times x killed ≡ given x + times x taken
  pub counted : length taken ≡ count

-- The same for two trees, below and above a key.
pub record Split (format : Format) (c c' : Content) (s s' : State) (t u : Tree) (left right : Root)
    (given : ℕ → ℕ) (count : ℕ) : Type 0 where
  pub lower : Placed
  pub upper : Placed
  pub lower_is : tree_of format lower ≡ t
  pub upper_is : tree_of format upper ≡ u
  pub lower_root : IsRootOf format lower left
  pub upper_root : IsRootOf format upper right
  pub lower_piece : Piece format c' s' lower
  pub upper_piece : Piece format c' s' upper
  pub taken : List ℕ
  pub killed : List ℕ
  pub moves : Moves s s' taken killed
  pub keeps : KeepsBut taken c c'
  pub rows : (x : ℕ)
      → times x (used lower) + times x (used upper) + times x killed ≡ given x + times x taken
  pub counted : length taken ≡ count

-- ---- a node whose front is written

-- What is left of the parts, for a node whose entries in front are written: the rows that were
-- taken for its head and its next entry are new ones, and no row stands twice.
pub record Rest {A : Type 0} (format : Format) (w : NodeWriter A) (content : Content) (s : State)
    (parts : NodeParts)
    : Type 0 where
  pub ws : List PlacedEntry
  pub going : Going format w content s ws
  pub head_new : IsNew s w.head
  pub seam : Placed
  pub seam_at : IsRootOf format seam parts.seam
  pub seam_piece : Piece format content s seam
  pub back : List PlacedEntry
  pub tail : Placed
  pub back_run : BackRun format content s parts.back.first parts.back.count parts.tail back tail
  pub once : (x : ℕ)
      → times x (w.head ∷ []) + times x (ahead w.next) + times x (entries_used ws) + times x
      (used seam) + times x (own back) + times x (gaps_used (others back)) + times x (used tail) ≤ 1

-- the node is written
pub record Finished {A : Type 0} (format : Format) (w : NodeWriter A) (c c' : Content)
    (s s' : State)
    (parts : NodeParts) (r : Rest format w c s parts) (at : Root) : Type 0 where
  pub placed : Placed
  pub is : tree_of format placed ≡ node format w.layer
      (with_entries (cells_of format r.ws)
      (with_first (tree_of format r.seam) (entries_to format r.back r.tail)))
  pub root : IsRootOf format placed at
  pub piece : Piece format c' s' placed
  pub taken : List ℕ
  pub moves : Moves s s' taken (own r.back)
  pub keeps : KeepsBut (w.head ∷ ahead w.next ++ taken) c c'
  pub rows : (x : ℕ)
      → times x (used placed) ≡ times x (w.head ∷ []) + times x (ahead w.next) + times x
      (entries_used r.ws) + times x (used r.seam) + times x (gaps_used (others r.back)) + times x
      (used r.tail) + times x taken
  pub counted : length taken + min 1 w.left ≡ w.left
