-- Two trees that are joined: if one of them is empty, and if the trees that meet are already
-- joined.
use Rattle.mst_path.proofs.Names.{Format, ◌≡◌, ℕ, ◌+◌, ◌<◌, [], refl, sym, ◌∙◌, ap, arith, Tree, empty, Content, State, times, Root, Placed, tree_of, link_of, used, Meeting, join, join_rows, Grown, Piece, OldPiece, IsRootOf, TwoTrees, in_both, both_joined, both_rows, height_at, Met}
use Rattle.mst_arena.specs.Standing.{none as no_tree, head as tree_head}
use Rattle.mst_path.proofs.lemmas.rows.Moving.{moves_none}
use Rattle.mst_path.proofs.lemmas.trees.Made.{made_old}
use Rattle.mst_change.proofs.Join.Steps.{join_empty}
use Rattle.mst_path.proofs.lemmas.trees.Meetings.{height_there}

pub placed_none : (p : Placed) (link : ℕ) → link_of p ≡ link → link ≡ 0 → p ≡ no_tree
placed_none no_tree link at zero_link = refl
placed_none (tree_head i l chain) link at zero_link = absurd (omega (arith, at, zero_link))

pub old_piece : (format : Format) (c : Content) (s : State) (p : Placed) → OldPiece format c s p
    → Piece format c s p
old_piece format c s p is = record { rows = is.rows; made = made_old s p is.old }

-- the tree stays as it is
pub unchanged : (format : Format) (c : Content) (s : State) (p : Placed) (at : Root)
    → OldPiece format c s p → IsRootOf format p at → (t : Tree) → tree_of format p ≡ t
    → (given : ℕ → ℕ) → ((x : ℕ) → times x (used p) ≡ given x) → (n : ℕ) → n ≡ 0
    → Grown format c c s s t at given n
unchanged format c s p at piece root t is given all n zero_rows = record {
  placed = p;
  is = is;
  root = root;
  piece = old_piece format c s p piece;
  taken = [];
  killed = [];
  moves = moves_none s;
  keeps = λ x out. refl;
  rows = λ x. omega (arith, all x);
  counted = sym zero_rows;
}

rows_empty : (t : Tree) → join_rows t empty ≡ 0
rows_empty empty = refl
rows_empty (Rattle.mst_node.specs.Tree.node g l es) = refl

module _ (format : Format) (c : Content) (s : State) (left right : ℕ)
    (t : TwoTrees format c s left right) where
  pub left_none : left ≡ 0 → (at : Root) → IsRootOf format t.b at → Grown format c c s s
      (both_joined format t) at (in_both format t) (both_rows format t)
  left_none no_left at root =
      let gone = placed_none t.a left t.a_at no_left in
      unchanged format c s t.b at t.b_piece root (both_joined format t)
      (sym (ap (λ p. join (tree_of format p) (tree_of format t.b)) gone)) (in_both format t)
      (λ x. omega (arith, ap (λ p. times x (used p)) gone)) (both_rows format t)
      (ap (λ p. join_rows (tree_of format p) (tree_of format t.b)) gone)

  pub right_none : right ≡ 0 → (at : Root) → IsRootOf format t.a at → Grown format c c s s
      (both_joined format t) at (in_both format t) (both_rows format t)
  right_none no_right at root =
      let gone = placed_none t.b right t.b_at no_right in
      unchanged format c s t.a at t.a_piece root (both_joined format t)
      (sym (ap (λ p. join (tree_of format t.a) (tree_of format p)) gone
      ∙ join_empty (tree_of format t.a))) (in_both format t)
      (λ x. omega (arith, ap (λ p. times x (used p)) gone)) (both_rows format t)
      (ap (λ p. join_rows (tree_of format t.a) (tree_of format p)) gone
      ∙ rows_empty (tree_of format t.a))

  module _ (m : Meeting) (met : Met format c s left right t m) where
    -- a step down is a step to less
    pub lower_trees : height_at c m.left + height_at c m.right < height_at c left + height_at c
        right
    lower_trees = omega (
      arith,
      met.falls,
      height_there format c met.inner.a m.left met.inner.a_at met.inner.a_piece.rows,
      height_there format c met.inner.b m.right met.inner.b_at met.inner.b_piece.rows,
      height_there format c t.a left t.a_at t.a_piece.rows,
      height_there format c t.b right t.b_at t.b_piece.rows,
    )
