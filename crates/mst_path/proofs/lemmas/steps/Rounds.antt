-- A tree is made in a gap, and the frame round it is closed.
use Rattle.mst_path.proofs.Names.{Format, ◌≡◌, ℕ, ◌+◌, ◌<◌, ◌≤◌, List, refl, sym, ◌∙◌, ap, arith, Tree, Content, State, free_count, times, Root, tree_of, used, Frame, tree_remove, remove_rows, Grown, IsRootOf, Framed, in_frame, tree_round, frame_rows, height_at, SearchTree, in_tree, without, without_rows, OpensGap}
use Rattle.mst_path.proofs.lemmas.steps.Framing.{framed_after, grown_round}
use Rattle.mst_path.proofs.lemmas.trees.Meetings.{height_there}
use Rattle.mst_path.proofs.lemmas.trees.Joined.{placed_none, unchanged}

-- the same, seen in other words
pub regrown : (format : Format) (c c1 : Content) (s s1 : State) (t u : Tree) (at : Root)
    (given other : ℕ → ℕ) (n m : ℕ) → Grown format c c1 s s1 t at given n → u ≡ t
    → ((x : ℕ) → other x ≡ given x) → m ≡ n → Grown format c c1 s s1 u at other m
regrown format c c1 s s1 t u at given other n m g same all count = record {
  placed = g.placed;
  is = g.is ∙ sym same;
  root = g.root;
  piece = g.piece;
  taken = g.taken;
  killed = g.killed;
  moves = g.moves;
  keeps = g.keeps;
  rows = λ x. omega (arith, g.rows x, all x);
  counted = omega (arith, g.counted, count);
}

module _ (format : Format) {c c1 : Content} {s s1 : State} {u : Tree} {at : Root} {given : ℕ → ℕ}
    {n : ℕ} (g : Grown format c c1 s s1 u at given n) {frame : Frame}
    (f : Framed format c s frame given) where
  abbrev pub frame_after : Framed format c1 s1 frame (λ x. times x (used g.placed))
  frame_after = framed_after format c c1 s s1 u at given n g frame f

  pub room_after : n + frame_rows frame ≤ free_count s.lives → frame_rows frame ≤ free_count
      s1.lives
  room_after room = omega (arith, room, g.moves.room, g.counted)

  pub closed_round : {c2 : Content} {s2 : State} {root : Root} → Grown format c1 c2 s1 s2
      (tree_round format frame_after (tree_of format g.placed)) root
      (λ x. times x (used g.placed) + in_frame format frame_after x) (frame_rows frame)
      → Grown format c c2 s s2 (tree_round format f u) root (λ x. given x + in_frame format f x)
      (n + frame_rows frame)
  closed_round {c2 = c2} {s2 = s2} {root = root} h =
      let all = grown_round format c c1 s s1 u at given n g frame f c2 s2
      (tree_round format frame_after (tree_of format g.placed)) root (frame_rows frame) h in
      regrown format c c2 s s2 (tree_round format f (tree_of format g.placed))
      (tree_round format f u) root (λ x. given x + in_frame format f x)
      (λ x. given x + in_frame format f x) (n + frame_rows frame) (n + frame_rows frame) all
      (sym (ap (tree_round format f) g.is)) (λ x. refl) refl

-- ---- a key goes

module _ (format : Format) (c : Content) (s : State) (link : ℕ) (t : SearchTree format c s link)
    (k : List ℕ) where
  pub none_without : link ≡ 0 → (at : Root) → IsRootOf format t.placed at → Grown format c c s s
      (without format t k) at (in_tree format t) (without_rows format t k)
  none_without no_link at root =
      let gone = placed_none t.placed link t.at no_link in
      unchanged format c s t.placed at t.piece root (without format t k)
      (ap (tree_of format) gone ∙ sym (ap (λ p. tree_remove (tree_of format p) k) gone))
      (in_tree format t) (λ x. refl) (without_rows format t k)
      (ap (λ p. remove_rows (tree_of format p) k) gone)

  module _ (child : ℕ) (frame : Frame) (down : OpensGap format c s link t k child frame) where
    pub lower_tree : height_at c child < height_at c link
    lower_tree =
        omega (
          arith,
          down.falls,
          height_there format c down.inner.placed child down.inner.at
              down.inner.piece.rows,
          height_there format c t.placed link t.at t.piece.rows,
        )
