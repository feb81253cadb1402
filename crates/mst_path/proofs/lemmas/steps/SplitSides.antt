-- One node of a split: what both sides are made of.
use Rattle.mst_path.proofs.Names.{Format, ◌≡◌, ℕ, ◌+◌, ◌<◌, ◌≤◌, ◌==◌, ◌&&◌, Bool, true, false, List, [], ◌∷◌, None, refl, sym, ◌∙◌, ap, subst, arith, and_parts, layer_in, map_get, Tree, empty, last, pairs, TreeEntry, with_entries, Content, State, free_count, times, Root, Placed, none, tree_of, used, EntryRun, Frame, with_first, node_of, is_empty, below, above, side_rows, split_rows, IsAlive, Piece, IsRootOf, ahead, cells_of, entries_to, Split, in_frame, spare, OpensGap, ToSplit, BothStand, side_of}
use Rattle.mst_path.specs.Splitting.{in_both}
use Rattle.mst_path.proofs.lemmas.rows.Moving.{moves_none}
use Rattle.mst_path.proofs.lemmas.trees.Made.{made_old}
use Rattle.mst_path.proofs.lemmas.rows.CopyRows.{at_self, old_alive}
use Rattle.mst_change.proofs.Cost.Split.{absent_under, below_whole, above_whole}
use Rattle.mst_path.proofs.lemmas.steps.Steps.{Step, step_split, step_then, run_after, back_after, old_after, apart_after}
use Rattle.mst_path.proofs.lemmas.steps.Splitting.{empty_link, empty_is, side_whole, side_nothing, below_is, above_is, rows_are, below_tree, above_tree}

module _ (format : Format) {c : Content} {s : State} {link : ℕ} {k : List ℕ}
    (t : ToSplit format c s link k) {child : ℕ} {frame : Frame}
    (o : OpensGap format c s link t.tree k child frame) (alone : frame.other ≡ None) where
  abbrev whole_tree : Tree
  whole_tree = tree_of format t.tree.placed

  abbrev inside : Tree
  inside = tree_of format o.inner.placed

  abbrev given : ℕ → ℕ
  given x = times x (used o.inner.placed)

  module _ {c1 : Content} {s1 : State} {lower upper : Root} {n : ℕ}
      (r : Split format c c1 s s1 (below k inside) (above k inside) lower upper given n) where
    abbrev spent : ℕ → ℕ
    spent x = times x (used r.lower) + times x (used r.upper)

    -- whether all is on one side
    pub all_below : is_empty (above k whole_tree) ≡ ((frame.back.count == 0) && (upper.link == 0))
    all_below = above_is format c s link k t child frame o
        ∙ ap (λ (b : Bool). (frame.back.count == 0) && b)
        (ap is_empty (sym r.upper_is) ∙ empty_link format r.upper upper r.upper_root)

    pub all_above : is_empty (below k whole_tree) ≡ ((frame.front.count == 0) && (lower.link == 0))
    all_above = below_is format c s link k t child frame o
        ∙ ap (λ (b : Bool). (frame.front.count == 0) && b)
        (ap is_empty (sym r.lower_is) ∙ empty_link format r.lower lower r.lower_root)

    abbrev inner : Step c c1 s s1 given spent n
    inner = step_split format c c1 s s1 (below k inside) (above k inside) lower upper given n r

    pub round_apart : (x : ℕ) → in_frame format o.framed x + given x ≤ 1
    round_apart x = omega (arith, o.framed.once x)

    round_alive : (x : ℕ) → 0 < in_frame format o.framed x + given x → IsAlive s x
    round_alive x i = old_alive s x (t.tree.piece.old x (omega (arith, i, o.given x)))

    pub apart_now : (x : ℕ) → in_frame format o.framed x + spent x ≤ 1
    apart_now = apart_after format c c1 s s1 given spent n inner (in_frame format o.framed)
        round_apart round_alive

    -- of the rows that go there is the head alone
    pub head_alone : (x : ℕ) → times x (spare frame) ≡ times x (frame.head ∷ [])
    head_alone x = ap (λ other. times x (frame.head ∷ ahead other)) alone

    module _ {none_l none_r : EntryRun} (none_l_is : none_l ≡ record { first = 0; count = 0 })
        (none_r_is : none_r ≡ record { first = 0; count = 0 }) where
      abbrev pub both : BothStand format c1 s1 frame.head
          (record {
            layer = frame.layer;
            front = frame.front;
            seam = lower;
            back = none_l;
            tail = 0;
          })
          (record {
            layer = frame.layer;
            front = none_r;
            seam = upper;
            back = frame.back;
            tail = frame.tail;
          })
      both = record {
        head_old = old_after format c c1 s s1 given spent n inner frame.head
            (o.framed.goes frame.head (omega (arith, at_self frame.head)))
            (omega (arith, round_apart frame.head, at_self frame.head));
        lower = record {
          front = o.framed.front;
          behind = o.framed.behind;
          front_run = run_after format c c1 s s1 given spent n inner frame.front.first
              frame.front.count o.framed.behind o.framed.front (λ x. omega (arith, round_apart x))
              o.framed.front_run;
          seam = r.lower;
          seam_at = r.lower_root;
          seam_piece = r.lower_piece;
          back = [];
          tail = none;
          back_run = record {
            counted = sym (ap (λ (e : EntryRun). e.count) none_l_is);
            begins = sym (ap (λ (e : EntryRun). e.first) none_l_is);
            rows = tt;
            old = λ x i. absurd (omega arith);
            gaps = tt;
            tail_at = refl;
            tail_piece = record { rows = tt; old = λ x i. absurd (omega arith) };
            tail_none = refl;
          };
          once = λ x. omega (arith, apart_now x);
        };
        upper = record {
          front = [];
          behind = none_r.first;
          front_run = record {
            counted = sym (ap (λ (e : EntryRun). e.count) none_r_is);
            begins = refl;
            rows = tt;
            old = λ x i. absurd (omega arith);
            gaps = tt;
          };
          seam = r.upper;
          seam_at = r.upper_root;
          seam_piece = r.upper_piece;
          back = o.framed.back;
          tail = o.framed.tail;
          back_run = back_after format c c1 s s1 given spent n inner frame.back.first
              frame.back.count frame.tail o.framed.back o.framed.tail
              (λ x. omega (arith, round_apart x)) o.framed.back_run;
          once = λ x. omega (arith, apart_now x);
        };
        once = λ x. omega (arith, apart_now x, head_alone x);
      }

      lower_side : side_of format both.lower ≡ below k whole_tree
      lower_side =
          ap (λ (u : Tree). node_of format frame.layer
          (with_entries (cells_of format o.framed.front) (last u))) r.lower_is
          ∙ sym (below_tree format c s link k t child frame o)

      upper_side : side_of format both.upper ≡ above k whole_tree
      upper_side =
          ap (λ (u : Tree). node_of format frame.layer
          (with_first u (entries_to format o.framed.back o.framed.tail))) r.upper_is
          ∙ sym (above_tree format c s link k t child frame o)

      module _ (not_below : ((frame.back.count == 0) && (upper.link == 0)) ≡ false)
          (not_above : ((frame.front.count == 0) && (lower.link == 0)) ≡ false) where
        pub count_is : side_rows (frame.front.count + none_l.count) false + side_rows
            (none_r.count + frame.back.count) false + split_rows k inside ≡ split_rows k whole_tree
        count_is =
            let a : side_rows (frame.front.count + none_l.count) false ≡ side_rows
            frame.front.count (is_empty (above k whole_tree)) =
            ap (λ m. side_rows m false)
            (omega (arith, ap (λ (e : EntryRun). e.count) none_l_is))
            ∙ ap (side_rows frame.front.count) (sym (all_below ∙ not_below)) in
            let b : side_rows (none_r.count + frame.back.count) false ≡ side_rows
            frame.back.count (is_empty (below k whole_tree)) =
            ap (λ m. side_rows m false)
            (omega (arith, ap (λ (e : EntryRun). e.count) none_r_is))
            ∙ ap (side_rows frame.back.count) (sym (all_above ∙ not_above)) in
            omega (arith, a, b, rows_are format c s link k t child frame o)

        pub split_made : n ≡ split_rows k inside → (c2 : Content) (s2 : State) (left right : Root)
            → Split format c1 c2 s1 s2 (side_of format both.lower) (side_of format both.upper)
            left right (in_both format both)
            (side_rows (frame.front.count + none_l.count) false + side_rows
            (none_r.count + frame.back.count) false)
            → Split format c c2 s s2 (below k whole_tree) (above k whole_tree) left right
            (λ x. times x (used t.tree.placed)) (split_rows k whole_tree)
        split_made n_is c2 s2 left right m =
            let count = side_rows (frame.front.count + none_l.count) false + side_rows
            (none_r.count + frame.back.count) false in
            let outer = step_split format c1 c2 s1 s2 (side_of format both.lower)
            (side_of format both.upper) left right (in_both format both) count m in
            let whole = step_then c c1 c2 s s1 s2 given (in_both format both) spent
            (λ x. times x (used m.lower) + times x (used m.upper))
            (λ x. times x (used t.tree.placed))
            (λ x. times x (used m.lower) + times x (used m.upper)) n count inner outer
            (λ x. omega (arith, o.given x, head_alone x)) in
            record {
              lower = m.lower;
              upper = m.upper;
              lower_is = m.lower_is ∙ lower_side;
              upper_is = m.upper_is ∙ upper_side;
              lower_root = m.lower_root;
              upper_root = m.upper_root;
              lower_piece = m.lower_piece;
              upper_piece = m.upper_piece;
              taken = whole.taken;
              killed = whole.killed;
              moves = whole.moves;
              keeps = whole.keeps;
              rows = whole.rows;
              counted = omega (arith, whole.counted, n_is, count_is);
            }

    module _ (still : s1 ≡ s) (n_is : n ≡ split_rows k inside) where
      nothing_taken : split_rows k inside ≡ 0
      nothing_taken =
          omega (
            arith,
            r.counted,
            r.moves.room,
            ap (λ (u : State). free_count u.lives) still,
            n_is,
          )

      whole_piece : Piece format c s t.tree.placed
      whole_piece = record {
        rows = t.tree.piece.rows;
        made = made_old s t.tree.placed t.tree.piece.old;
      }

      no_piece : Piece format c s none
      no_piece = record { rows = tt; made = tt }

      lacks : map_get (pairs whole_tree) k ≡ None
      lacks = absent_under whole_tree format k (layer_in format k) t.tree.search t.under refl

      -- the tree stays on one side
      shared : (p q : Placed) (left right : Root) → tree_of format p ≡ below k whole_tree
          → tree_of format q ≡ above k whole_tree → IsRootOf format p left
          → IsRootOf format q right → Piece format c s p → Piece format c s q
          → ((x : ℕ) → times x (used p) + times x (used q) ≡ times x (used t.tree.placed))
          → split_rows k whole_tree ≡ 0 → (c2 : Content) → c2 ≡ c
          → Split format c c2 s s1 (below k whole_tree) (above k whole_tree) left right
          (λ x. times x (used t.tree.placed)) (split_rows k whole_tree)
      shared p q left right p_is q_is p_root q_root p_piece q_piece all none_new c2 c_is =
          let base : Split format c c s s (below k whole_tree) (above k whole_tree) left right
          (λ x. times x (used t.tree.placed)) (split_rows k whole_tree) = record {
            lower = p;
            upper = q;
            lower_is = p_is;
            upper_is = q_is;
            lower_root = p_root;
            upper_root = q_root;
            lower_piece = p_piece;
            upper_piece = q_piece;
            taken = [];
            killed = [];
            moves = moves_none s;
            keeps = λ x out. refl;
            rows = λ x. omega (arith, all x);
            counted = sym none_new;
          } in
          subst (λ (x : Content). Split format c x s s1 (below k whole_tree) (above k whole_tree)
          left right (λ x. times x (used t.tree.placed)) (split_rows k whole_tree)) (sym c_is)
          (subst (λ (u : State). Split format c c s u (below k whole_tree) (above k whole_tree)
          left right (λ x. times x (used t.tree.placed)) (split_rows k whole_tree)) (sym still)
          base)

      -- the tree is all below the key
      pub shared_made_below : is_empty (above k whole_tree) ≡ true → (c2 : Content) → c2 ≡ c
          → (left right : Root) → IsRootOf format t.tree.placed left → IsRootOf format none right
          → Split format c c2 s s1 (below k whole_tree) (above k whole_tree) left right
          (λ x. times x (used t.tree.placed)) (split_rows k whole_tree)
      shared_made_below e c2 c_is left right l_root r_root =
          let no_back : (frame.back.count == 0) ≡ true =
          (and_parts (frame.back.count == 0) (is_empty (above k inside))
          (sym (above_is format c s link k t child frame o) ∙ e)).0 in
          let zero_front : side_rows frame.front.count (is_empty (above k whole_tree)) ≡ 0 =
          ap (side_rows frame.front.count) e ∙ side_whole frame.front.count in
          let zero_back = side_nothing frame.back.count (is_empty (below k whole_tree)) no_back in
          let gone : above k whole_tree ≡ empty = empty_is (above k whole_tree) e in
          shared t.tree.placed none left right
          (sym (below_whole whole_tree format k t.rises t.tree.search lacks gone)) (sym gone)
          l_root r_root whole_piece no_piece (λ x. omega arith)
          (omega (
            arith,
            rows_are format c s link k t child frame o,
            zero_front,
            zero_back,
            nothing_taken,
          )) c2 c_is

      -- the tree is all above the key
      pub shared_made_above : is_empty (below k whole_tree) ≡ true → (c2 : Content) → c2 ≡ c
          → (left right : Root) → IsRootOf format none left → IsRootOf format t.tree.placed right
          → Split format c c2 s s1 (below k whole_tree) (above k whole_tree) left right
          (λ x. times x (used t.tree.placed)) (split_rows k whole_tree)
      shared_made_above e c2 c_is left right l_root r_root =
          let no_front_run : (frame.front.count == 0) ≡ true =
          (and_parts (frame.front.count == 0) (is_empty (below k inside))
          (sym (below_is format c s link k t child frame o) ∙ e)).0 in
          let zero_back : side_rows frame.back.count (is_empty (below k whole_tree)) ≡ 0 =
          ap (side_rows frame.back.count) e ∙ side_whole frame.back.count in
          let zero_front = side_nothing frame.front.count (is_empty (above k whole_tree))
          no_front_run in
          let gone : below k whole_tree ≡ empty = empty_is (below k whole_tree) e in
          shared none t.tree.placed left right (sym gone)
          (sym (above_whole whole_tree format k t.rises t.tree.search lacks gone))
          l_root r_root no_piece whole_piece (λ x. omega arith)
          (omega (
            arith,
            rows_are format c s link k t child frame o,
            zero_front,
            zero_back,
            nothing_taken,
          )) c2 c_is
