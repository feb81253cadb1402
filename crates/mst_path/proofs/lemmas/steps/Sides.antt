-- Both sides of a node, one after the other.
use Rattle.mst_path.proofs.Names.{Format, ◌≡◌, ℕ, zero, suc, ◌+◌, ◌<◌, ◌≤◌, false, List, [], ◌∷◌, length, refl, sym, ap, subst, arith, slice_get, with_entries, Content, State, next, with_life, ended_life, times, Root, Placed, tree_of, used, node_of, with_first, side_rows, IsAlive, IsOld, Piece, own, gaps_used, PlacedEntry, others, HasTail, PartsStand, in_parts, cells_of, entries_to, Grown, Split, side_of, BothStand, NodeParts, one_row}
use Rattle.mst_path.specs.Splitting.{in_both}
use Rattle.mst_path.proofs.lemmas.rows.CopyRows.{at_self, old_alive}
use Rattle.mst_path.proofs.lemmas.rows.Moving.{moves_none}
use Rattle.mst_path.proofs.lemmas.trees.Made.{piece_alive}
use Rattle.mst_path.proofs.lemmas.steps.Steps.{Step, step_grown, step_kill, step_then, piece_after, old_after, apart_after, parts_after, parts_alive}

-- parts with no entries
pub seam_alone : (format : Format) (c : Content) (s : State) (parts : NodeParts)
    (p : PartsStand format c s parts) → parts.front.count + parts.back.count ≡ 0
    → Grown format c c s s (side_of format p) parts.seam (in_parts format p)
    (side_rows (parts.front.count + parts.back.count) false)
seam_alone format c s parts p empty = go p.front p.front_run.counted p.back p.back_run.counted
    p.tail p.back_run.tail_none
  where
    go : (front : List PlacedEntry) → length front ≡ parts.front.count → (back : List PlacedEntry)
        → length back ≡ parts.back.count → (tail : Placed) → HasTail back tail
        → Grown format c c s s
        (node_of format parts.layer
        (with_entries (cells_of format front)
        (with_first (tree_of format p.seam) (entries_to format back tail)))) parts.seam
        (λ x. times x (own front) + times x (gaps_used front) + times x (used p.seam) + times x
        (own back) + times x (gaps_used (others back)) + times x (used tail))
        (side_rows (parts.front.count + parts.back.count) false)
    go (e ∷ front) n back m tail last = absurd (omega (arith, n, empty))
    go [] n (e ∷ back) m tail last = absurd (omega (arith, m, empty))
    go [] n [] m tail last = record {
      placed = p.seam;
      is = refl;
      root = p.seam_at;
      piece = p.seam_piece;
      taken = [];
      killed = [];
      moves = moves_none s;
      keeps = λ x out. refl;
      rows = λ x. omega (arith, ap (λ (q : Placed). times x (used q)) last);
      counted = sym (ap (λ n. side_rows n false) empty);
    }

module _ (format : Format) (c0 c1 : Content) (s0 s1 : State) (row : ℕ) (left right : NodeParts)
    (b : BothStand format c0 s0 row left right) (lower : Root) (n : ℕ)
    (one : Grown format c0 c1 s0 s1 (side_of format b.lower) lower (in_parts format b.lower) n)
  where
    abbrev pub first : Step c0 c1 s0 s1 (in_parts format b.lower) (λ x. times x (used one.placed)) n
    first = step_grown format c0 c1 s0 s1 (side_of format b.lower) lower (in_parts format b.lower) n
        one

    row_alive : (x : ℕ) → 0 < times x (row ∷ []) → IsAlive s0 x
    row_alive x i = subst (IsAlive s0) (sym (one_row x row i)) (old_alive s0 row b.head_old)

    rest_alive : (x : ℕ) → 0 < (times x (row ∷ []) + in_parts format b.upper x) + in_parts format
        b.lower x → IsAlive s0 x
    rest_alive x i = go (times x (row ∷ [])) refl (in_parts format b.upper x) refl
      where
        go : (n : ℕ) → times x (row ∷ []) ≡ n → (m : ℕ) → in_parts format b.upper x ≡ m
            → IsAlive s0 x
        go (suc n) e m f = row_alive x (omega (arith, e))
        go zero e (suc m) f = parts_alive format c0 s0 right b.upper x (omega (arith, f))
        go zero e zero f = parts_alive format c0 s0 left b.lower x (omega (arith, i, e, f))

    -- the upper parts stand when the lower side is made
    abbrev pub upper_stands : PartsStand format c1 s1 right
    upper_stands = parts_after format c0 c1 s0 s1 (in_parts format b.lower)
        (λ x. times x (used one.placed)) n first right b.upper (λ x. omega (arith, b.once x))

    apart : (x : ℕ) → (times x (row ∷ []) + in_parts format b.upper x) + times x (used one.placed)
        ≤ 1
    apart = apart_after format c0 c1 s0 s1 (in_parts format b.lower)
        (λ x. times x (used one.placed))
        n first (λ x. times x (row ∷ []) + in_parts format b.upper x) (λ x. omega (arith, b.once x))
        rest_alive

    row_old : IsOld s1 row
    row_old = old_after format c0 c1 s0 s1 (in_parts format b.lower)
        (λ x. times x (used one.placed))
        n first row b.head_old (omega (arith, b.once row, at_self row))

    module _ (c2 : Content) (s2 : State) (upper : Root) (m : ℕ)
        (two : Grown format c1 c2 s1 s2 (side_of format b.upper) upper (in_parts format b.upper) m)
      where
        second : Step c1 c2 s1 s2 (in_parts format b.upper) (λ x. times x (used two.placed)) m
        second = step_grown format c1 c2 s1 s2 (side_of format b.upper) upper
            (in_parts format b.upper)
            m two

        pub row_still_old : IsOld s2 row
        row_still_old = old_after format c1 c2 s1 s2 (in_parts format b.upper)
            (λ x. times x (used two.placed)) m second row row_old
            (omega (arith, b.once row, at_self row))

        lower_piece : Piece format c2 s2 one.placed
        lower_piece = piece_after format c1 c2 s1 s2 (in_parts format b.upper)
            (λ x. times x (used two.placed)) m second one.placed (λ x. omega (arith, apart x))
            one.piece

        now_alive : (x : ℕ) → 0 < (times x (row ∷ []) + times x (used one.placed)) + in_parts format
            b.upper x → IsAlive s1 x
        now_alive x i = go (times x (row ∷ [])) refl (times x (used one.placed)) refl
          where
            go : (n : ℕ) → times x (row ∷ []) ≡ n → (m : ℕ) → times x (used one.placed) ≡ m
                → IsAlive s1 x
            go (suc n) e m f = subst (IsAlive s1) (sym (one_row x row (omega (arith, e))))
                (old_alive s1 row row_old)
            go zero e (suc m) f = piece_alive format one.piece x (omega (arith, f))
            go zero e zero f = parts_alive format c1 s1 right upper_stands x
                (omega (arith, i, e, f))

        apart_both : (x : ℕ) → (times x (row ∷ []) + times x (used one.placed)) + times x
            (used two.placed) ≤ 1
        apart_both = apart_after format c1 c2 s1 s2 (in_parts format b.upper)
            (λ x. times x (used two.placed)) m second
            (λ x. times x (row ∷ []) + times x (used one.placed)) (λ x. omega (arith, apart x))
            now_alive

        module _ (s3 : State)
            (killed : s3 ≡ with_life s2 row (ended_life (next s2) (slice_get s2.lives row))) where
          third : Step c2 c2 s2 s3 (λ x. times x (row ∷ [])) (λ x. 0) 0
          third = step_kill c2 s2 s3 row row_still_old killed

          whole : Step c0 c2 s0 s3 (in_both format b)
              (λ x. times x (used one.placed) + times x (used two.placed)) ((n + m) + 0)
          whole =
              step_then c0 c2 c2 s0 s2 s3
              (λ x. in_parts format b.lower x + in_parts format b.upper x)
              (λ x. times x (row ∷ [])) (λ x. times x (used one.placed) + times x (used two.placed))
              (λ x. 0) (in_both format b)
              (λ x. times x (used one.placed) + times x (used two.placed)) (n + m) 0
              (step_then c0 c1 c2 s0 s1 s2 (in_parts format b.lower) (in_parts format b.upper)
              (λ x. times x (used one.placed)) (λ x. times x (used two.placed))
              (λ x. in_parts format b.lower x + in_parts format b.upper x)
              (λ x. times x (used one.placed) + times x (used two.placed)) n m first second
              (λ x. omega arith))
              third (λ x. omega arith)

          pub both_made : (count : ℕ) → n + m ≡ count → Split format c0 c2 s0 s3
              (side_of format b.lower) (side_of format b.upper) lower upper (in_both format b) count
          both_made count is = record {
            lower = one.placed;
            upper = two.placed;
            lower_is = one.is;
            upper_is = two.is;
            lower_root = one.root;
            upper_root = two.root;
            lower_piece = piece_after format c2 c2 s2 s3 (λ x. times x (row ∷ [])) (λ x. 0) 0 third
                one.placed (λ x. omega (arith, apart_both x)) lower_piece;
            upper_piece = piece_after format c2 c2 s2 s3 (λ x. times x (row ∷ [])) (λ x. 0) 0 third
                two.placed (λ x. omega (arith, apart_both x)) two.piece;
            taken = whole.taken;
            killed = whole.killed;
            moves = whole.moves;
            keeps = whole.keeps;
            rows = whole.rows;
            counted = omega (arith, whole.counted, is);
          }
