-- The top node of a tree that stands, opened where a key falls: the frame round the gap of the key,
-- or round the key's entry.
use Rattle.mst_key.specs.declared.format.Format.{Format}
use Rattle.std.specs.Prelude.{◌≡◌, ◌≤◌, ◌<◌, ◌+◌, ℕ, List}
use Rattle.mst_node.specs.Tree.{Tree, node, Entries, entry_count}
use Rattle.mst_arena.specs.Content.{Content}
use Rattle.mst_arena.specs.Lives.{State}
use Rattle.mst_arena.specs.Standing.{tree_of}
use Rattle.mst_arena.specs.Limits.{highest_layer}
use Rattle.mst_path.specs.declared.frames.Frame.{Frame}
use Rattle.mst_path.specs.declared.joining.Meeting.{Meeting}
use Rattle.mst_path.specs.declared.remove_path.TopStep.{TopStep}
use Rattle.mst_path.specs.declared.remove_path.TopStep.TheVariants.{Down, Here}
use Rattle.mst_change.specs.Parts.{first_child, with_first}
use Rattle.mst_change.specs.Gap.{IsGap, IsAt}
use Rattle.mst_path.specs.Making.{cells_of, entries_to}
use Rattle.mst_path.specs.Frames.{Framed, in_frame}
use Rattle.mst_path.specs.Joining.{TwoTrees, in_both, height}
use Rattle.mst_path.specs.RemovePath.{SearchTree, in_tree}

-- The key falls into a gap of the node: the tree there, and the frame round it.
pub record OpensGap (format : Format) (content : Content) (s : State) (link : ℕ)
    (t : SearchTree format content s link) (k : List ℕ) (child : ℕ) (frame : Frame) : Type 0 where
  pub inner : SearchTree format content s child
  pub framed : Framed format content s frame (in_tree format inner)
  pub entries : Entries
  pub behind : Entries
  pub top : tree_of format t.placed ≡ node format frame.layer entries
  pub gap : IsGap k entries (cells_of format framed.front) behind
  pub first : first_child behind ≡ tree_of format inner.placed
  pub same : (u : Tree)
      → with_first u behind ≡ with_first u (entries_to format framed.back framed.tail)
  pub counted : entry_count entries ≡ frame.front.count + frame.back.count
  pub some : 0 < entry_count entries
  pub given : (x : ℕ) → in_tree format t x ≡ in_tree format inner x + in_frame format framed x
  pub falls : height (tree_of format inner.placed) < height (tree_of format t.placed)
  pub low : frame.layer ≤ highest_layer

-- The key has an entry in the node: the trees beside it, and the frame round it.
pub record OpensEntry (format : Format) (content : Content) (s : State) (link : ℕ)
    (t : SearchTree format content s link) (k : List ℕ) (m : Meeting) : Type 0 where
  pub inner : TwoTrees format content s m.left m.right
  pub framed : Framed format content s m.frame (in_both format inner)
  pub value : List ℕ
  pub entries : Entries
  pub behind : Entries
  pub top : tree_of format t.placed ≡ node format m.frame.layer entries
  pub at : IsAt k entries (cells_of format framed.front) (tree_of format inner.a) value behind
  pub first : first_child behind ≡ tree_of format inner.b
  pub same : (u : Tree)
      → with_first u behind ≡ with_first u (entries_to format framed.back framed.tail)
  pub counted : entry_count entries ≡ m.frame.front.count + m.frame.back.count + 1
  pub given : (x : ℕ) → in_tree format t x ≡ in_both format inner x + in_frame format framed x
  pub low : m.frame.layer ≤ highest_layer

abbrev pub IsOpened : (format : Format) (content : Content) (s : State) (link : ℕ)
    → SearchTree format content s link → List ℕ → TopStep → Type 0
IsOpened format content s link t k (Down child frame) =
    OpensGap format content s link t k child frame
IsOpened format content s link t k (Here meeting) = OpensEntry format content s link t k meeting
