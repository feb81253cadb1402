-- The frame of a gap stays while the tree in the gap is split, and is closed round a new entry.
use Rattle.mst_path.proofs.Names.{Format, ℕ, ◌+◌, ◌<◌, ◌≤◌, List, refl, ◌∙◌, ap, arith, inl, inr, Tree, Content, State, times, Root, Placed, tree_of, used, Frame, PartsStand, Grown, Split, IsAlive, Framed, in_frame, TwoTrees, IsRootOf, TwoStand, in_two, tree_with, with_rows}
use Rattle.mst_path.proofs.lemmas.trees.Joined.{old_piece}
use Rattle.mst_path.proofs.lemmas.rows.CopyRows.{old_alive}
use Rattle.mst_path.proofs.lemmas.steps.Framing.{frame_old}
use Rattle.mst_path.proofs.lemmas.trees.NodeRuns.{some_of}
use Rattle.mst_path.proofs.lemmas.steps.NewEntry.{sides_stand, grown_as}
use Rattle.mst_path.proofs.lemmas.trees.Made.{piece_alive}
use Rattle.mst_path.proofs.lemmas.steps.Steps.{Step, step_grown, step_split, step_then, run_after, back_after, old_after, apart_after}

-- what a node with a new entry is made of
abbrev pub frame_parts : (format : Format) (c : Content) (s : State) (frame : Frame)
    (lower upper : Root) (t : TwoStand format c s lower upper) → Framed format c s frame
    (in_two format t) → PartsStand format c s
    (record {
      layer = frame.layer;
      front = frame.front;
      seam = upper;
      back = frame.back;
      tail =
          frame.tail;
    })
frame_parts format c s frame lower upper t f = record {
  front = f.front;
  behind = f.behind;
  front_run = f.front_run;
  seam = t.upper;
  seam_at = t.upper_root;
  seam_piece = t.upper_piece;
  back = f.back;
  tail = f.tail;
  back_run = f.back_run;
  once = λ x. omega (arith, f.once x);
}

module _ (format : Format) (c c1 : Content) (s s1 : State) (given spent : ℕ → ℕ) (n : ℕ)
    (one : Step c c1 s s1 given spent n) (frame : Frame) (f : Framed format c s frame given)
    (alive : (x : ℕ) → 0 < spent x → IsAlive s1 x) where
  frame_alive : (x : ℕ) → 0 < in_frame format f x + given x → IsAlive s x
  frame_alive x i = elim (some_of (in_frame format f x) (given x) i) [
    | inl k ↦ old_alive s x (frame_old format c s frame given f x k)
    | inr k ↦ f.alive x k
  ]

  pub apart : (x : ℕ) → in_frame format f x + spent x ≤ 1
  apart = apart_after format c c1 s s1 given spent n one (in_frame format f)
      (λ x. omega (arith, f.once x)) frame_alive

  abbrev pub frame_step : Framed format c1 s1 frame spent
  frame_step = record {
    front = f.front;
    behind = f.behind;
    front_run = run_after format c c1 s s1 given spent n one frame.front.first frame.front.count
        f.behind f.front (λ x. omega (arith, f.once x)) f.front_run;
    back = f.back;
    tail = f.tail;
    back_run = back_after format c c1 s s1 given spent n one frame.back.first frame.back.count
        frame.tail f.back f.tail (λ x. omega (arith, f.once x)) f.back_run;
    goes = λ x i. old_after format c c1 s s1 given spent n one x (f.goes x i)
        (omega (arith, i, f.once x));
    alive = alive;
    once = λ x. omega (arith, apart x);
  }

  pub frame_then : (c2 : Content) (s2 : State) (t : Tree) (at : Root) (m : ℕ)
      → Grown format c1 c2 s1 s2 t at (λ x. spent x + in_frame format f x) m
      → Grown format c c2 s s2 t at (λ x. given x + in_frame format f x) (n + m)
  frame_then c2 s2 t at m g =
      let two = step_grown format c1 c2 s1 s2 t at (λ x. spent x + in_frame format f x) m g in
      let whole = step_then c c1 c2 s s1 s2 given (λ x. spent x + in_frame format f x) spent
      (λ x. times x (used g.placed)) (λ x. given x + in_frame format f x)
      (λ x. times x (used g.placed)) n m one two (λ x. omega arith) in
      record {
        placed = g.placed;
        is = g.is;
        root = g.root;
        piece = g.piece;
        taken = whole.taken;
        killed = whole.killed;
        moves = whole.moves;
        keeps = whole.keeps;
        rows = whole.rows;
        counted = whole.counted;
      }

-- ---- the tree in the gap is split, and a new entry stands between its sides

module _ (format : Format) (c c1 : Content) (s s1 : State) (t u : Tree) (left right : Root)
    (p : Placed) (n : ℕ) (once : (x : ℕ) → times x (used p) ≤ 1)
    (alive : (x : ℕ) → 0 < times x (used p) → IsAlive s x)
    (r : Split format c c1 s s1 t u left right (λ x. times x (used p)) n) (frame : Frame)
    (f : Framed format c s frame (λ x. times x (used p))) where
  abbrev pub two : TwoStand format c1 s1 left right
  two = sides_stand format c c1 s s1 t u left right p n once alive r

  pub two_alive : (x : ℕ) → 0 < times x (used r.lower) + times x (used r.upper) → IsAlive s1 x
  two_alive x i = elim (some_of (times x (used r.lower)) (times x (used r.upper)) i) [
    | inl k ↦ piece_alive format r.lower_piece x k
    | inr k ↦ piece_alive format r.upper_piece x k
  ]

  pub halves : Step c c1 s s1 (λ x. times x (used p))
      (λ x. times x (used r.lower) + times x (used r.upper)) n
  halves = step_split format c c1 s s1 t u left right (λ x. times x (used p)) n r

  abbrev pub level_frame : Framed format c1 s1 frame (in_two format two)
  level_frame = frame_step format c c1 s s1 (λ x. times x (used p))
      (λ x. times x (used r.lower) + times x (used r.upper)) n halves frame f two_alive

  pub level_made : (c2 : Content) (s2 : State) (k v : List ℕ) (at : Root) → Grown format c1 c2 s1 s2
      (tree_with format level_frame k v (tree_of format r.lower) (tree_of format r.upper)) at
      (λ x. in_two format two x + in_frame format level_frame x) (with_rows frame)
      → Grown format c c2 s s2 (tree_with format f k v t u) at
      (λ x. times x (used p) + in_frame format f x) (n + with_rows frame)
  level_made c2 s2 k v at g =
      let whole = frame_then format c c1 s s1 (λ x. times x (used p))
      (λ x. times x (used r.lower) + times x (used r.upper)) n halves frame f two_alive c2 s2
      (tree_with format f k v (tree_of format r.lower) (tree_of format r.upper)) at
      (with_rows frame) g in
      grown_as format c c2 s s2
      (tree_with format f k v (tree_of format r.lower) (tree_of format r.upper))
      (tree_with format f k v t u) at (λ x. times x (used p) + in_frame format f x)
      (λ x. times x (used p) + in_frame format f x) (n + with_rows frame) (n + with_rows frame)
      (ap (λ (y : Tree). tree_with format f k v y (tree_of format r.upper)) r.lower_is
      ∙ ap (λ (y : Tree). tree_with format f k v t y) r.upper_is) (λ x. refl) refl whole

-- ---- the trees beside an entry that is written anew

abbrev pub beside : (format : Format) (c : Content) (s : State) (left right : ℕ)
    (t : TwoTrees format c s left right) (lower upper : Root) → IsRootOf format t.a lower
    → IsRootOf format t.b upper → TwoStand format c s lower upper
beside format c s left right t lower upper low high = record {
  lower = t.a;
  upper = t.b;
  lower_root = low;
  upper_root = high;
  lower_piece = old_piece format c s t.a t.a_piece;
  upper_piece = old_piece format c s t.b t.b_piece;
  once = t.once;
}
