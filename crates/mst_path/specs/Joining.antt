-- Two trees that stand and are to be joined, and what is left of them round the gap in which they
-- meet.
use Rattle.mst_key.specs.declared.format.Format.{Format}
use Rattle.std.specs.Prelude.{◌≡◌, ◌≤◌, ◌<◌, ◌+◌, ◌-◌, ℕ, zero, suc, Some, None}
use Rattle.std.specs.Option.{option_map_or}
use Rattle.mst_node.specs.Tree.{Tree, empty, node, IsMst}
use Rattle.mst_arena.specs.Content.{Content, part_at}
use Rattle.mst_arena.specs.Row.{head_links}
use Rattle.mst_arena.specs.Lives.{State}
use Rattle.mst_arena.specs.declared.row.HeadLinks.{HeadLinks}
use Rattle.mst_arena.specs.Lists.{times}
use Rattle.mst_arena.specs.Standing.{Placed, tree_of, link_of, used}
use Rattle.mst_arena.specs.Limits.{highest_layer}
use Rattle.mst_path.specs.declared.joining.Meeting.{Meeting}
use Rattle.mst_change.specs.Join.{join}
use Rattle.mst_change.specs.Cost.{join_rows}
use Rattle.mst_path.specs.Runs.{OldPiece}
use Rattle.mst_path.specs.Frames.{Framed, in_frame, tree_round, frame_rows}

-- Two search trees of the current version stand at the links, and no row is in both of them or
-- twice in one.
pub record TwoTrees (format : Format) (content : Content) (s : State) (left right : ℕ)
    : Type 0 where
  pub a : Placed
  pub b : Placed
  pub a_at : link_of a ≡ left
  pub b_at : link_of b ≡ right
  pub a_piece : OldPiece format content s a
  pub b_piece : OldPiece format content s b
  pub a_search : IsMst format (tree_of format a)
  pub b_search : IsMst format (tree_of format b)
  pub once : (x : ℕ) → times x (used a) + times x (used b) ≤ 1

-- the two trees at the links of a meeting
abbrev pub MetTrees : Format → Content → State → Meeting → Type 0
MetTrees format content s m = TwoTrees format content s m.left m.right

-- how often a row stands in them
abbrev pub in_both : (format : Format) {content : Content} {s : State} {left right : ℕ}
    → TwoTrees format content s left right → ℕ → ℕ
in_both format t x = times x (used t.a) + times x (used t.b)

-- the tree of both, and the rows of the nodes that are made new
abbrev pub both_joined : (format : Format) {content : Content} {s : State} {left right : ℕ}
    → TwoTrees format content s left right → Tree
both_joined format t = join (tree_of format t.a) (tree_of format t.b)

abbrev pub both_rows : (format : Format) {content : Content} {s : State} {left right : ℕ}
    → TwoTrees format content s left right → ℕ
both_rows format t = join_rows (tree_of format t.a) (tree_of format t.b)

-- how many layers there may be in a tree, and in the one at a link by its head
abbrev pub height : Tree → ℕ
height empty = 0
height (node g l es) = l + 1

abbrev pub height_at : Content → ℕ → ℕ
height_at content zero = 0
height_at content (suc row) = option_map_or (λ h. h.layer + 1) (part_at head_links content row) 0

-- The trees that meet, and the frame round them: their join in the frame's gap makes the join of
-- the two.
pub record Met (format : Format) (content : Content) (s : State) (left right : ℕ)
    (t : TwoTrees format content s left right) (m : Meeting) : Type 0 where
  pub inner : MetTrees format content s m
  pub framed : Framed format content s m.frame (in_both format inner)
  pub is : both_joined format t ≡ tree_round format framed (both_joined format inner)
  pub rows : both_rows format t ≡ both_rows format inner + frame_rows m.frame
  pub given : (x : ℕ) → in_both format t x ≡ in_both format inner x + in_frame format framed x
  pub falls : height (tree_of format inner.a) + height (tree_of format inner.b)
      < height (tree_of format t.a) + height (tree_of format t.b)
  pub low : m.frame.layer ≤ highest_layer

-- ---- where they meet, by the layers of their nodes

abbrev pub above_right : ℕ → ℕ → HeadLinks → Meeting
above_right left right left_head = record {
  left = left_head.tail;
  right = right;
  frame = record {
    layer = left_head.layer;
    front = record { first = left_head.first; count = left_head.count };
    back = record { first = 0; count = 0 };
    tail = 0;
    head = left - 1;
    other = None;
  };
}

abbrev pub below_right : ℕ → ℕ → HeadLinks → ℕ → Meeting
below_right left right right_head child = record {
  left = left;
  right = child;
  frame = record {
    layer = right_head.layer;
    front = record { first = 0; count = 0 };
    back = record { first = right_head.first; count = right_head.count };
    tail = right_head.tail;
    head = right - 1;
    other = None;
  };
}

abbrev pub beside_right : ℕ → ℕ → HeadLinks → HeadLinks → ℕ → Meeting
beside_right left right left_head right_head child = record {
  left = left_head.tail;
  right = child;
  frame = record {
    layer = left_head.layer;
    front = record { first = left_head.first; count = left_head.count };
    back = record { first = right_head.first; count = right_head.count };
    tail = right_head.tail;
    head = left - 1;
    other = Some (right - 1);
  };
}
