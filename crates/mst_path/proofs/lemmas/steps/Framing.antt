-- The frame of a gap stays while the tree in the gap is made anew, and is closed round it.
use Rattle.mst_path.proofs.Names.{Format, ◌≡◌, ℕ, zero, suc, ◌+◌, ◌<◌, ◌≤◌, Bool, false, eqb, List, [], ◌∷◌, ◌++◌, length, Option, Some, None, refl, sym, ◌∙◌, ap, subst, arith, inl, inr, ◌⊎◌, length-append, ◌==◌, ◌||◌, slice_get, if◌then◌else◌, nat_tests, length-map, Tree, node, Entries, last, entry, entry_count, TreeEntry, with_entries, Content, State, next, with_life, ended_life, In, times, bit, Root, Placed, tree_of, used, times-append, placed_frame, Frame, with_first, node_of, side_rows, IsOld, Moves, Piece, own, gaps_used, HasTail, Grown, cell_of, cells_of, entries_to, others, Framed, spare, frame_rows, in_entries, in_frame, tree_round, PlacedEntry, IsRootOf, ahead, with_first_count, with_entries_count}
use Rattle.mst_arena.specs.Standing.{none as no_tree}
use Rattle.mst_path.proofs.lemmas.rows.Moving.{times_of_out, moves_none, moves_kill, moves_then, old_stays, alive_out}
use Rattle.mst_path.proofs.lemmas.trees.Made.{made_stays, piece_alive}
use Rattle.mst_path.proofs.lemmas.rows.CopyRows.{all_in, kept_at, old_alive, own_frame, gaps_frame, gaps_old, at_self}

-- ---- two rows die

pub kill_moves : (s s' : State) (r : ℕ) → IsOld s r → s' ≡ with_life s r
    (ended_life (next s) (slice_get s.lives r)) → Moves s s' [] (r ∷ [])
kill_moves s s' r old is = subst (λ (z : State). Moves s z [] (r ∷ [])) (sym is)
    (moves_kill s r old.0 old.1 old.2)

module _ (s s1 : State) (r q : ℕ) (other : Option ℕ) (is : other ≡ Some q)
    (old : (x : ℕ) → In x (r ∷ ahead other) → IsOld s x)
    (once : (x : ℕ) → times x (r ∷ ahead other) ≤ 1)
    (dead : s1 ≡ with_life s r (ended_life (next s) (slice_get s.lives r))) where
  ahead_q : (x : ℕ) → times x (ahead other) ≡ bit (eqb x q) + 0
  ahead_q x = ap (λ (o : Option ℕ). times x (ahead o)) is

  first_dies : Moves s s1 [] (r ∷ [])
  first_dies = kill_moves s s1 r (old r (omega (arith, at_self r))) dead

  pub second_old : IsOld s1 q
  second_old = old_stays s s1 [] (r ∷ []) first_dies q (old q (omega (arith, ahead_q q, at_self q)))
      (omega (arith, once q, ahead_q q, at_self q))

  pub both_die : (s2 : State) → s2 ≡ with_life s1 q (ended_life (next s1) (slice_get s1.lives q))
      → Moves s s2 [] (r ∷ ahead other)
  both_die s2 more = subst (λ (o : Option ℕ). Moves s s2 [] (r ∷ ahead o)) (sym is)
      (moves_then s s1 s2 [] (r ∷ []) [] (q ∷ []) first_dies (kill_moves s1 s2 q second_old more))

pub one_dies : (s s1 : State) (r : ℕ) (other : Option ℕ) → other ≡ None
    → ((x : ℕ) → In x (r ∷ ahead other) → IsOld s x) → s1 ≡ with_life s r
    (ended_life (next s) (slice_get s.lives r)) → Moves s s1 [] (r ∷ ahead other)
one_dies s s1 r other is old dead = subst (λ (o : Option ℕ). Moves s s1 [] (r ∷ ahead o)) (sym is)
    (kill_moves s s1 r (old r (omega (arith, at_self r))) dead)

-- ---- what stands in a frame

some_of : (a b : ℕ) → 0 < a + b → (0 < a) ⊎ (0 < b)
some_of zero b h = inr (omega (arith, h))
some_of (suc a) b h = inl (omega arith)

module _ (format : Format) (c : Content) (s : State) (frame : Frame) (given : ℕ → ℕ)
    (f : Framed format c s frame given) where
  pub entries_old : (x : ℕ) → 0 < in_entries format f x → IsOld s x
  entries_old x i =
      elim (some_of (times x (own f.front) + times x (gaps_used f.front) + times x (own f.back)
      + times x (gaps_used (others f.back))) (times x (used f.tail)) i) [
        | inr k ↦ f.back_run.tail_piece.old x k
        | inl i ↦ elim (some_of
            (times x (own f.front) + times x (gaps_used f.front) + times x (own f.back))
            (times x (gaps_used (others f.back))) i) [
              | inr k ↦ gaps_old format c s x (others f.back) f.back_run.gaps k
              | inl i ↦ elim (some_of (times x (own f.front) + times x (gaps_used f.front))
                  (times x (own f.back)) i) [
                    | inr k ↦ f.back_run.old x k
                    | inl i ↦ elim (some_of (times x (own f.front)) (times x (gaps_used f.front))
                        i) [
                          | inr k ↦ gaps_old format c s x f.front f.front_run.gaps k
                          | inl k ↦ f.front_run.old x k
                        ]
                  ]
            ]
      ]

  pub frame_old : (x : ℕ) → 0 < in_frame format f x → IsOld s x
  frame_old x i = elim (some_of (in_entries format f x) (times x (spare frame)) i) [
    | inl k ↦ entries_old x k
    | inr k ↦ f.goes x k
  ]

-- ---- the tree in the gap is made

module _ (format : Format) (c c1 : Content) (s s1 : State) (u : Tree) (at : Root) (given : ℕ → ℕ)
    (n : ℕ) (g : Grown format c c1 s s1 u at given n) (frame : Frame)
    (f : Framed format c s frame given) where
  pub rest_taken : (x : ℕ) → 0 < in_frame format f x → times x g.taken ≡ 0
  rest_taken x i = alive_out s s1 g.taken g.killed g.moves x
      (old_alive s x (frame_old format c s frame given f x i))

  pub rest_killed : (x : ℕ) → 0 < in_frame format f x → times x g.killed ≡ 0
  rest_killed x i = omega (arith, i, f.once x, g.rows x, rest_taken x i)

  pub rest_kept : (x : ℕ) → 0 < in_frame format f x → c1 x ≡ c x
  rest_kept x i = kept_at c c1 g.taken x g.keeps (rest_taken x i)

  pub rest_old : (x : ℕ) → 0 < in_frame format f x → IsOld s x → IsOld s1 x
  rest_old x i old = old_stays s s1 g.taken g.killed g.moves x old (rest_killed x i)

  pub given_taken : (x : ℕ) → given x + times x g.taken ≤ 1
  given_taken x = go (given x) refl
    where
      go : (k : ℕ) → given x ≡ k → given x + times x g.taken ≤ 1
      go zero e = omega (arith, e, g.moves.once x)
      go (suc k) e =
          omega (
            arith,
            f.once x,
            alive_out s s1 g.taken g.killed g.moves x
                (f.alive x (omega (arith, e))),
          )

  pub seam_once : (x : ℕ) → times x (used g.placed) + in_frame format f x ≤ 1
  seam_once x = go (in_frame format f x) refl
    where
      go : (k : ℕ) → in_frame format f x ≡ k → times x (used g.placed) + in_frame format f x ≤ 1
      go zero e = omega (arith, e, g.rows x, given_taken x)
      go (suc k) e = omega (arith, f.once x, g.rows x, rest_taken x (omega (arith, e)))

  pub own_in : (x : ℕ) → In x (own f.front) → 0 < in_frame format f x
  own_in x i = omega (arith, i)

  pub gaps_in : (x : ℕ) → In x (gaps_used f.front) → 0 < in_frame format f x
  gaps_in x i = omega (arith, i)

  pub back_in : (x : ℕ) → In x (own f.back) → 0 < in_frame format f x
  back_in x i = omega (arith, i)

  pub others_in : (x : ℕ) → In x (gaps_used (others f.back)) → 0 < in_frame format f x
  others_in x i = omega (arith, i)

  pub tail_in : (x : ℕ) → In x (used f.tail) → 0 < in_frame format f x
  tail_in x i = omega (arith, i)

  pub spare_in : (x : ℕ) → In x (spare frame) → 0 < in_frame format f x
  spare_in x i = omega (arith, i)

  abbrev pub framed_after : Framed format c1 s1 frame (λ x. times x (used g.placed))
  framed_after = record {
    front = f.front;
    behind = f.behind;
    front_run = record {
      counted = f.front_run.counted;
      begins = f.front_run.begins;
      rows = own_frame c c1 f.behind f.front (λ x i. rest_kept x (own_in x i)) f.front_run.rows;
      old = λ x i. rest_old x (own_in x i) (f.front_run.old x i);
      gaps = gaps_frame format c c1 s s1 f.front (λ x i. rest_kept x (gaps_in x i))
          (λ x i old. rest_old x (gaps_in x i) old) f.front_run.gaps;
    };
    back = f.back;
    tail = f.tail;
    back_run = record {
      counted = f.back_run.counted;
      begins = f.back_run.begins;
      rows = own_frame c c1 0 f.back (λ x i. rest_kept x (back_in x i)) f.back_run.rows;
      old = λ x i. rest_old x (back_in x i) (f.back_run.old x i);
      gaps = gaps_frame format c c1 s s1 (others f.back) (λ x i. rest_kept x (others_in x i))
          (λ x i old. rest_old x (others_in x i) old) f.back_run.gaps;
      tail_at = f.back_run.tail_at;
      tail_piece = record {
        rows =
            placed_frame format c c1 f.tail
            (all_in (used f.tail) (λ x i. rest_kept x (tail_in x i))) f.back_run.tail_piece.rows;
        old = λ x i. rest_old x (tail_in x i) (f.back_run.tail_piece.old x i);
      };
      tail_none = f.back_run.tail_none;
    };
    goes = λ x i. rest_old x (spare_in x i) (f.goes x i);
    alive = λ x i. piece_alive format g.piece x i;
    once = λ x. omega (arith, seam_once x);
  }

  -- what is made round it
  pub grown_round : (c2 : Content) (s2 : State) (t : Tree) (at2 : Root) (m : ℕ)
      → Grown format c1 c2 s1 s2 t at2 (λ x. times x (used g.placed) + in_frame format f x) m
      → Grown format c c2 s s2 t at2 (λ x. given x + in_frame format f x) (n + m)
  grown_round c2 s2 t at2 m h = record {
    placed = h.placed;
    is = h.is;
    root = h.root;
    piece = h.piece;
    taken = g.taken ++ h.taken;
    killed = g.killed ++ h.killed;
    moves = moves_then s s1 s2 g.taken g.killed h.taken h.killed g.moves h.moves;
    keeps = λ x out.
        let nowhere = times_of_out x (g.taken ++ h.taken) out in
        let both = times-append x g.taken h.taken in
        kept_at c1 c2 h.taken x h.keeps (omega (arith, nowhere, both)) ∙ kept_at c c1 g.taken x
        g.keeps (omega (arith, nowhere, both));
    rows =
        λ x. omega (
          arith,
          g.rows x,
          h.rows x,
          times-append x g.taken h.taken,
          times-append x
              g.killed h.killed,
        );
    counted = omega (arith, length-append g.taken h.taken, g.counted, h.counted);
  }

-- ---- the frame is closed

module _ (format : Format) (c : Content) (s : State) (frame : Frame) (p : Placed)
    (f : Framed format c s frame (λ x. times x (used p))) where
  -- nothing is left but the tree in the gap
  pub alone : (at : Root) → IsRootOf format p at → Piece format c s p → frame.front.count
      + frame.back.count ≡ 0 → Grown format c c s s (tree_round format f (tree_of format p)) at
      (λ x. times x (used p) + in_entries format f x) (frame_rows frame)
  alone at root piece none_left = go f.front refl f.back refl
    where
      rows_none : frame_rows frame ≡ 0
      rows_none = ap (λ (n : ℕ). side_rows n false) none_left

      go : (es : List PlacedEntry) → f.front ≡ es → (bs : List PlacedEntry) → f.back ≡ bs
          → Grown format c c s s (tree_round format f (tree_of format p)) at
          (λ x. times x (used p) + in_entries format f x) (frame_rows frame)
      go (e ∷ es) a bs b =
          absurd (omega
          (arith, none_left, f.front_run.counted, ap (λ (l : List PlacedEntry). length l) a))
      go [] a (e ∷ bs) b =
          absurd (omega
          (arith, none_left, f.back_run.counted, ap (λ (l : List PlacedEntry). length l) b))
      go [] a [] b =
          let gone : f.tail ≡ no_tree = subst (λ (l : List PlacedEntry). HasTail l f.tail) b
          f.back_run.tail_none in
          record {
            placed = p;
            is =
                sym (ap (λ (l : List PlacedEntry). node_of format frame.layer
                (with_entries (cells_of format l)
                (with_first (tree_of format p) (entries_to format f.back f.tail)))) a
                ∙ ap (λ (l : List PlacedEntry). node_of format frame.layer
                (with_first (tree_of format p) (entries_to format l f.tail))) b);
            root = root;
            piece = piece;
            taken = [];
            killed = [];
            moves = moves_none s;
            keeps = λ x out. refl;
            rows =
                λ x. omega (
                  arith,
                  ap (λ (l : List PlacedEntry). times x (own l)) a,
                  ap (λ (l : List PlacedEntry). times x (gaps_used l)) a,
                  ap (λ (l : List PlacedEntry). times x (own l)) b,
                  ap (λ (l : List PlacedEntry). times x (gaps_used (others l))) b,
                  ap (λ (q : Placed). times x (used q)) gone,
                );
            counted = sym rows_none;
          }

  -- there is an entry
  some_node : (es : Entries) → 0 < entry_count es → node_of format frame.layer es ≡ node format
      frame.layer es
  some_node (last child) h = absurd (omega (arith, h))
  some_node (entry child key value rest) h = refl

  some_rows : (k : ℕ) → 0 < k → side_rows k false ≡ k + 1
  some_rows zero h = absurd (omega (arith, h))
  some_rows (suc k) h = let e : (suc k == 0) ≡ false = grind (arith, nat_tests) in
      ap (λ (b : Bool). if b || false then 0 else suc k + 1) e

  pub filled : (c1 : Content) (s1 : State) (at : Root) → 0 < frame.front.count + frame.back.count
      → Grown format c c1 s s1
      (node format frame.layer
      (with_entries (cells_of format f.front)
      (with_first (tree_of format p) (entries_to format f.back f.tail)))) at
      (λ x. times x (own f.front) + times x (gaps_used f.front) + times x (used p) + times x
      (own f.back) + times x (gaps_used (others f.back)) + times x (used f.tail))
      (frame.front.count + frame.back.count + 1)
      → Grown format c c1 s s1 (tree_round format f (tree_of format p)) at
      (λ x. times x (used p) + in_entries format f x) (frame_rows frame)
  filled c1 s1 at some g =
      let es =
      with_entries (cells_of format f.front)
      (with_first (tree_of format p) (entries_to format f.back f.tail)) in
      let front = with_entries_count (cells_of format f.front)
      (with_first (tree_of format p) (entries_to format f.back f.tail)) in
      let first = with_first_count (entries_to format f.back f.tail) (tree_of format p) in
      let back = with_entries_count (cells_of format f.back) (last (tree_of format f.tail)) in
      let counts : entry_count es ≡ frame.front.count + frame.back.count =
      omega (
        arith,
        front,
        first,
        back,
        length-map {B = TreeEntry} f.front (cell_of format),
        length-map {B = TreeEntry} f.back (cell_of format),
        f.front_run.counted,
        f.back_run.counted,
      ) in
      record {
        placed = g.placed;
        is = g.is ∙ sym (some_node es (omega (arith, counts, some)));
        root = g.root;
        piece = g.piece;
        taken = g.taken;
        killed = g.killed;
        moves = g.moves;
        keeps = g.keeps;
        rows = λ x. omega (arith, g.rows x);
        counted = g.counted ∙ sym (some_rows (frame.front.count + frame.back.count) some);
      }

-- the rows that the frame names die
module _ (format : Format) (c : Content) (s : State) (frame : Frame) (given : ℕ → ℕ)
    (f : Framed format c s frame given) (c1 : Content) (s1 : State) (t : Tree) (at : Root) (n : ℕ)
    (g : Grown format c c1 s s1 t at (λ x. given x + in_entries format f x) n) where
  spare_taken : (x : ℕ) → In x (spare frame) → times x g.taken ≡ 0
  spare_taken x i = alive_out s s1 g.taken g.killed g.moves x (old_alive s x (f.goes x i))

  spare_nowhere : (x : ℕ) → In x (spare frame) → times x (used g.placed) + times x g.killed ≡ 0
  spare_nowhere x i = omega (arith, i, f.once x, g.rows x, spare_taken x i)

  pub spare_old : (x : ℕ) → In x (spare frame) → IsOld s1 x
  spare_old x i = old_stays s s1 g.taken g.killed g.moves x (f.goes x i)
      (omega (arith, spare_nowhere x i))

  pub closed : (s2 : State) → Moves s1 s2 [] (spare frame) → Grown format c c1 s s2 t at
      (λ x. given x + in_frame format f x) n
  closed s2 m = record {
    placed = g.placed;
    is = g.is;
    root = g.root;
    piece = record {
      rows = g.piece.rows;
      made = made_stays s1 s2 [] (spare frame) m g.placed
          (λ x i. go x i (times x (spare frame)) refl) g.piece.made;
    };
    taken = g.taken ++ [];
    killed = g.killed ++ spare frame;
    moves = moves_then s s1 s2 g.taken g.killed [] (spare frame) g.moves m;
    keeps = λ x out. kept_at c c1 g.taken x g.keeps
        (omega (arith, times_of_out x (g.taken ++ []) out, times-append x g.taken []));
    rows =
        λ x. omega (
          arith,
          g.rows x,
          times-append x g.taken [],
          times-append x g.killed
              (spare frame),
        );
    counted = omega (arith, length-append g.taken [], g.counted);
  }
    where
      go : (x : ℕ) → In x (used g.placed) → (k : ℕ) → times x (spare frame) ≡ k
          → times x (spare frame) ≡ 0
      go x i zero e = e
      go x i (suc k) e = absurd (omega (arith, i, spare_nowhere x (omega (arith, e))))
