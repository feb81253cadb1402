-- A tree that stands and into which a pair is put: what becomes of its top node, by the key's layer
-- and where the key falls.
use Rattle.mst_key.specs.declared.format.Format.{Format}
use Rattle.std.specs.Prelude.{◌≡◌, ◌≤◌, ◌<◌, ◌+◌, ℕ, List}
use Rattle.mst_key.specs.Map.{IsAscending}
use Rattle.mst_node.specs.Tree.{Tree, node, entry, pairs}
use Rattle.mst_node.specs.Shape.{with_entries}
use Rattle.mst_arena.specs.Content.{Content}
use Rattle.mst_arena.specs.Lives.{State}
use Rattle.mst_arena.specs.Lists.{times}
use Rattle.mst_arena.specs.declared.row.Root.{Root}
use Rattle.mst_arena.specs.Standing.{Placed, tree_of, used}
use Rattle.mst_arena.specs.Limits.{highest_layer}
use Rattle.mst_path.specs.declared.frames.Frame.{Frame}
use Rattle.mst_path.specs.declared.joining.Meeting.{Meeting}
use Rattle.mst_path.specs.declared.put_path.PutStep.{PutStep}
use Rattle.mst_path.specs.declared.put_path.PutStep.TheVariants.{OnTop, Down, Between, Anew}
use Rattle.mst_change.specs.Split.{below, above}
use Rattle.mst_change.specs.Parts.{with_first}
use Rattle.mst_change.specs.Put.{put_at}
use Rattle.mst_change.specs.Cost.{split_rows, put_rows}
use Rattle.mst_path.specs.Runs.{Piece}
use Rattle.mst_path.specs.Writing.{IsRootOf}
use Rattle.mst_path.specs.Making.{cells_of, entries_to}
use Rattle.mst_path.specs.Frames.{Framed, in_frame, tree_round, frame_rows}
use Rattle.mst_path.specs.Joining.{TwoTrees, in_both, height}
use Rattle.mst_path.specs.RemovePath.{SearchTree}
use Rattle.mst_path.specs.Splitting.{ToSplit}

-- two trees stand, and no row is in both of them
pub record TwoStand (format : Format) (content : Content) (s : State) (left right : Root)
    : Type 0 where
  pub lower : Placed
  pub upper : Placed
  pub lower_root : IsRootOf format lower left
  pub upper_root : IsRootOf format upper right
  pub lower_piece : Piece format content s lower
  pub upper_piece : Piece format content s upper
  pub once : (x : ℕ) → times x (used lower) + times x (used upper) ≤ 1

-- how often a row stands in them
abbrev pub in_two : (format : Format) {content : Content} {s : State} {left right : Root}
    → TwoStand format content s left right → ℕ → ℕ
in_two format t x = times x (used t.lower) + times x (used t.upper)

-- the tree with a new entry in the gap, between these two
abbrev pub tree_with : (format : Format) {content : Content} {s : State} {frame : Frame}
    {given : ℕ → ℕ}
    → Framed format content s frame given → List ℕ → List ℕ → Tree → Tree → Tree
tree_with format {content} {s} {frame} f k v t u = node format frame.layer
    (with_entries (cells_of format f.front)
    (entry t k v (with_first u (entries_to format f.back f.tail))))

-- and its rows
abbrev pub with_rows : Frame → ℕ
with_rows frame = frame.front.count + frame.back.count + 2

-- A search tree of the current version stands at the link, and its keys ascend.
pub record RisingTree (format : Format) (content : Content) (s : State) (link : ℕ) : Type 0 where
  pub tree : SearchTree format content s link
  pub rises : IsAscending (pairs (tree_of format tree.placed))

-- how often a row stands in it, the tree with the pair, and the rows of the nodes that are made new
abbrev pub in_rising : (format : Format) {content : Content} {s : State} {link : ℕ}
    → RisingTree format content s link → ℕ → ℕ
in_rising format t x = times x (used t.tree.placed)

abbrev pub with_pair : (format : Format) {content : Content} {s : State} {link : ℕ}
    → RisingTree format content s link → ℕ → List ℕ → List ℕ → Tree
with_pair format t l k v = put_at format l k v (tree_of format t.tree.placed)

abbrev pub pair_rows : (format : Format) {content : Content} {s : State} {link : ℕ}
    → RisingTree format content s link → ℕ → List ℕ → List ℕ → ℕ
pair_rows format t l k v = put_rows l k v (tree_of format t.tree.placed)

-- ---- what becomes of the top node

-- The key falls into a gap of a node of a higher layer: the pair is put into the tree there.
pub record PutsDown (format : Format) (content : Content) (s : State) (link : ℕ)
    (t : RisingTree format content s link) (l : ℕ) (k : List ℕ) (child : ℕ) (frame : Frame)
    : Type 0 where
  pub inner : RisingTree format content s child
  pub framed : Framed format content s frame (in_rising format inner)
  pub is : (v : List ℕ)
      → with_pair format t l k v ≡ tree_round format framed (with_pair format inner l k v)
  pub rows : (v : List ℕ)
      → pair_rows format t l k v ≡ pair_rows format inner l k v + frame_rows frame
  pub given : (x : ℕ) → in_rising format t x ≡ in_rising format inner x + in_frame format framed x
  pub falls : height (tree_of format inner.tree.placed) < height (tree_of format t.tree.placed)
  pub low : frame.layer ≤ highest_layer

-- The key falls into a gap of a node of its layer: the tree there is split, and the pair stands
-- between its sides.
pub record PutsBetween (format : Format) (content : Content) (s : State) (link : ℕ)
    (t : RisingTree format content s link) (l : ℕ) (k : List ℕ) (child : ℕ) (frame : Frame)
    : Type 0 where
  pub inner : ToSplit format content s child k
  pub framed : Framed format content s frame (λ x. times x (used inner.tree.placed))
  pub is : (v : List ℕ)
      → with_pair format t l k v
      ≡ tree_with format framed k v (below k (tree_of format inner.tree.placed))
      (above k (tree_of format inner.tree.placed))
  pub rows : (v : List ℕ)
      → pair_rows format t l k v ≡ split_rows k (tree_of format inner.tree.placed) + with_rows frame
  pub given : (x : ℕ)
      → in_rising format t x ≡ times x (used inner.tree.placed) + in_frame format framed x
  pub low : frame.layer ≤ highest_layer

-- The key has an entry in the node: it is written anew, with the value, between the trees beside
-- it.
pub record PutsAnew (format : Format) (content : Content) (s : State) (link : ℕ)
    (t : RisingTree format content s link) (l : ℕ) (k : List ℕ) (m : Meeting) : Type 0 where
  pub inner : TwoTrees format content s m.left m.right
  pub framed : Framed format content s m.frame (in_both format inner)
  pub is : (v : List ℕ)
      → with_pair format t l k v
      ≡ tree_with format framed k v (tree_of format inner.a) (tree_of format inner.b)
  pub rows : (v : List ℕ) → pair_rows format t l k v ≡ with_rows m.frame
  pub given : (x : ℕ) → in_rising format t x ≡ in_both format inner x + in_frame format framed x
  pub low : m.frame.layer ≤ highest_layer

-- if the pair stands on top, all keys are of lower layers
abbrev pub IsPutStep : (format : Format) (content : Content) (s : State) (link : ℕ)
    → RisingTree format content s link → ℕ → List ℕ → PutStep → Type 0
IsPutStep format content s link t l k OnTop = height (tree_of format t.tree.placed) ≤ l
IsPutStep format content s link t l k (Down child frame) =
    PutsDown format content s link t l k child frame
IsPutStep format content s link t l k (Between child frame) =
    PutsBetween format content s link t l k child frame
IsPutStep format content s link t l k (Anew meeting) = PutsAnew format content s link t l k meeting
