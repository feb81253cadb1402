-- A node that is made of parts, from the first row that is taken to its head.
use Rattle.mst_path.proofs.Names.{Format, ◌≡◌, ℕ, zero, suc, ◌+◌, ◌<◌, ◌≤◌, min, eqb, List, [], ◌∷◌, ◌++◌, length, Option, Some, refl, sym, ◌∙◌, ap, subst, arith, length-append, node, TreeEntry, with_entries, Content, State, version, next, In, times, bit, Root, Born, Placed, tree_of, used, times-append, with_first, Takes, IsOut, IsAlive, Moves, IsNew, Piece, own, gaps_used, entries_used, ahead, IsWritten, Going, Copying, Copied, cells_of, entries_to, others, PartsStand, in_parts, Grown, Rest, Finished, NodeParts, NodeWriter}
use Rattle.mst_path.proofs.lemmas.rows.Moving.{not_in, out_of_times, times_of_out, moves_takes, moves_then, alive_out, old_stays}
use Rattle.mst_path.proofs.lemmas.rows.CopyRows.{at_self, new_not_old, old_alive, gaps_old}
use Rattle.mst_path.proofs.lemmas.trees.Made.{new_stays, piece_alive}
use Rattle.mst_path.proofs.lemmas.steps.Finishing.{used_entries, copies_gaps, copies_cells}
use Rattle.mst_path.proofs.lemmas.steps.Untouched.{piece_later, run_later, back_later}

-- ---- a node begins

-- a node is begun: rows were taken for its head and its next entry
pub record Begun {A : Type 0} (format : Format) (w : NodeWriter A) (c : Content) (s s1 : State) :
    Type 0 where
  pub moves : Moves s s1 (w.head ∷ ahead w.next) []
  pub written : IsWritten format w c []

pub begun_by : {A : Type 0} (format : Format) {w : NodeWriter A} {s s1 : State}
    → Takes s s1 (w.head ∷ ahead w.next) → ((c : Content) → IsWritten format w c []) → (c : Content)
    → Begun format w c s s1
begun_by format {w = w} {s = s} {s1 = s1} takes written c =
    record { moves = moves_takes s s1 (w.head ∷ ahead w.next) takes; written = written c }

module _ {A : Type 0} (format : Format) {w : NodeWriter A} {c : Content} {s s1 : State}
    {parts : NodeParts}
    (p : PartsStand format c s parts) (begun : Begun format w c s s1) where
  begin_next : next s1 ≡ next s
  begin_next = let v : version s1 ≡ version s = rw (begun.moves.current, begun.moves.versions) in
      ap (λ (n : ℕ). n + 1) v

  pub begin_new : (x : ℕ) → In x (w.head ∷ ahead w.next) → IsNew s1 x
  begin_new x i = begun.moves.born x i ∙ ap (λ (v : ℕ). Some (Born v)) (sym begin_next)

  pub begins_going : Going format w c s1 []
  begins_going = record {
    written = begun.written;
    once = λ x. omega (arith, begun.moves.once x);
    alive = λ x i. absurd (omega arith);
    made = tt;
    new = λ x i. begin_new x (omega (arith, i));
  }

  unfoldable pub begins_copying : Copying format w c s1 parts.front.first parts.front.count
  begins_copying = record {
    behind = p.behind;
    es = p.front;
    ws = [];
    run = run_later format c c s s1 (w.head ∷ ahead w.next) [] [] begun.moves (λ x out. refl)
        (λ x alive. refl) parts.front.first parts.front.count p.behind p.front (λ x i. refl)
        (λ x i. refl) p.front_run;
    going = begins_going;
    once = λ x. omega (arith, p.once x);
  }

  -- a row of a part is alive
  pub part_alive : (x : ℕ) → 0 < in_parts format p x → IsAlive s x
  part_alive x some = go (times x (own p.front)) refl (times x (gaps_used p.front)) refl
      (times x (used p.seam)) refl (times x (own p.back)) refl (times x (gaps_used (others p.back)))
      refl
    where
      go : (a : ℕ) → times x (own p.front) ≡ a → (b : ℕ) → times x (gaps_used p.front) ≡ b → (d : ℕ)
          → times x (used p.seam) ≡ d → (e : ℕ) → times x (own p.back) ≡ e → (f : ℕ)
          → times x (gaps_used (others p.back)) ≡ f → IsAlive s x
      go (suc a) ae b be d de e ee f fe = old_alive s x (p.front_run.old x (omega (arith, ae)))
      go zero ae (suc b) be d de e ee f fe =
          old_alive s x (gaps_old format c s x p.front p.front_run.gaps (omega (arith, be)))
      go zero ae zero be (suc d) de e ee f fe =
          piece_alive format p.seam_piece x (omega (arith, de))
      go zero ae zero be zero de (suc e) ee f fe =
          old_alive s x (p.back_run.old x (omega (arith, ee)))
      go zero ae zero be zero de zero ee (suc f) fe =
          old_alive s x
          (gaps_old format c s x (others p.back) p.back_run.gaps (omega (arith, fe)))
      go zero ae zero be zero de zero ee zero fe =
          old_alive s x (p.back_run.tail_piece.old x (omega (arith, some, ae, be, de, ee, fe)))

  module _ {w2 : NodeWriter A} {c2 : Content} {s2 : State}
      (copied : Copied format w w2 c c2 s1 s2 [] p.front) (same_head : w2.head ≡ w.head) where
    -- the rows that are taken up to here
    pub all_taken : Moves s s2 ((w.head ∷ ahead w.next) ++ copied.taken) ([] ++ own p.front)
    all_taken = moves_then s s1 s2 (w.head ∷ ahead w.next) [] copied.taken (own p.front) begun.moves
        copied.moves

    pub taken_times : (x : ℕ) → times x ((w.head ∷ ahead w.next) ++ copied.taken) ≡ times x
        (w.head ∷ []) + times x (ahead w.next) + times x copied.taken
    taken_times x = omega (arith, times-append x (w.head ∷ ahead w.next) copied.taken)

    pub unwritten : (x : ℕ) → IsAlive s x → times x (ahead w.next ++ copied.taken) ≡ 0
    unwritten x alive =
        omega (
          arith,
          alive_out s s2 ((w.head ∷ ahead w.next) ++ copied.taken) ([] ++ own p.front)
              all_taken x alive,
          taken_times x,
          times-append x (ahead w.next) copied.taken,
        )

    pub front_used : (x : ℕ) → times x (entries_used copied.copies) ≡ times x (own copied.copies)
        + times x (gaps_used p.front)
    front_used x =
        omega (arith, used_entries x copied.copies, copies_gaps x copied.copies p.front copied.same)

    pub front_once : (x : ℕ) → times x (w2.head ∷ []) + times x (ahead w2.next) + times x
        (entries_used copied.copies) + times x (used p.seam) + times x (own p.back) + times x
        (gaps_used (others p.back)) + times x (used p.tail) ≤ 1
    front_once x = go (in_parts format p x) refl
      where
        heads : times x (w2.head ∷ []) ≡ times x (w.head ∷ [])
        heads = ap (λ (h : ℕ). times x (h ∷ [])) same_head

        go : (n : ℕ) → in_parts format p x ≡ n → times x (w2.head ∷ []) + times x (ahead w2.next)
            + times x (entries_used copied.copies) + times x (used p.seam) + times x (own p.back)
            + times x (gaps_used (others p.back)) + times x (used p.tail) ≤ 1
        go zero none_in =
            omega (
              arith,
              none_in,
              heads,
              front_used x,
              copied.rows x,
              taken_times x,
              all_taken.once
                  x,
            )
        go (suc n) some =
            let alive = part_alive x (omega (arith, some)) in
            let untaken = alive_out s s2 ((w.head ∷ ahead w.next) ++ copied.taken)
            ([] ++ own p.front) all_taken x alive in
            omega (arith, heads, front_used x, copied.rows x, taken_times x, untaken, p.once x)

    unfoldable pub front_rest : Rest format w2 c2 s2 parts
    front_rest = record {
      ws = copied.copies;
      going = copied.going;
      head_new =
          subst (IsNew s2) (sym same_head)
          (new_stays s1 s2 copied.taken (own p.front) copied.moves w.head (begin_new w.head head_in)
          (not_in w.head (own p.front)
          (λ i. new_not_old s1 w.head (begin_new w.head head_in)
          (old_stays s s1 (w.head ∷ ahead w.next) [] begun.moves w.head (p.front_run.old w.head i)
          refl))));
      seam = p.seam;
      seam_at = p.seam_at;
      seam_piece = piece_later format c c2 s s2 ((w.head ∷ ahead w.next) ++ copied.taken)
          ([] ++ own p.front) (ahead w.next ++ copied.taken) all_taken copied.keeps unwritten p.seam
          (λ x i. omega (arith, i, p.once x)) p.seam_piece;
      back = p.back;
      tail = p.tail;
      back_run = back_later format c c2 s s2 ((w.head ∷ ahead w.next) ++ copied.taken)
          ([] ++ own p.front) (ahead w.next ++ copied.taken) all_taken copied.keeps unwritten
          parts.back.first parts.back.count parts.tail p.back p.tail
          (λ x i. omega (arith, i, p.once x)) (λ x i. omega (arith, i, p.once x))
          (λ x i. omega (arith, i, p.once x)) p.back_run;
      once = front_once;
    }
      where
        head_in : In w.head (w.head ∷ ahead w.next)
        head_in = omega (arith, at_self w.head)

    module _ {c3 : Content} {s3 : State} {at : Root}
        (f : Finished format w2 c2 c3 s2 s3 parts front_rest at) where
      pub made : w2.layer ≡ parts.layer → w2.left ≡ parts.back.count → length (ahead w.next) ≡ 1
          → length (ahead w2.next) ≡ min 1 w2.left → Grown format c c3 s s3
          (node format parts.layer
          (with_entries (cells_of format p.front)
          (with_first (tree_of format p.seam) (entries_to format p.back p.tail)))) at
          (in_parts format p) (parts.front.count + parts.back.count + 1)
      unfolding front_rest
      made layer left one some = record {
        placed = f.placed;
        is =
            f.is ∙ ap (λ (l : ℕ). node format l
            (with_entries (cells_of format copied.copies)
            (with_first (tree_of format p.seam) (entries_to format p.back p.tail)))) layer
            ∙ ap (λ (cs : List TreeEntry). node format parts.layer
            (with_entries cs
            (with_first (tree_of format p.seam) (entries_to format p.back p.tail))))
            (copies_cells format copied.copies p.front copied.same);
        root = f.root;
        piece = f.piece;
        taken = ((w.head ∷ ahead w.next) ++ copied.taken) ++ f.taken;
        killed = ([] ++ own p.front) ++ own p.back;
        moves = moves_then s s2 s3 ((w.head ∷ ahead w.next) ++ copied.taken) ([] ++ own p.front)
            f.taken (own p.back) all_taken f.moves;
        keeps = λ x out.
            let none_in = times_of_out x (((w.head ∷ ahead w.next) ++ copied.taken) ++ f.taken) out
            in
            let a = times-append x ((w.head ∷ ahead w.next) ++ copied.taken) f.taken in
            let heads : times x (w2.head ∷ []) ≡ times x (w.head ∷ []) =
            ap (λ (h : ℕ). times x (h ∷ [])) same_head in
            f.keeps x (out_of_times x (w2.head ∷ ahead w2.next ++ f.taken)
            (omega (
              arith,
              none_in,
              a,
              taken_times x,
              heads,
              copied.rows x,
              times-append x
                  (ahead w2.next) f.taken,
            )))
            ∙ copied.keeps x
            (out_of_times x (ahead w.next ++ copied.taken)
            (omega (
              arith,
              none_in,
              a,
              taken_times x,
              times-append x (ahead w.next)
                  copied.taken,
            )));
        rows = λ x.
            let heads : times x (w2.head ∷ []) ≡ times x (w.head ∷ []) =
            ap (λ (h : ℕ). times x (h ∷ [])) same_head in
            omega (
              arith,
              f.rows x,
              heads,
              front_used x,
              copied.rows x,
              taken_times x,
              times-append x ((w.head ∷ ahead w.next) ++ copied.taken) f.taken,
              times-append x
                  (own p.front) (own p.back),
            );
        counted =
            omega (
              arith,
              length-append ((w.head ∷ ahead w.next) ++ copied.taken) f.taken,
              length-append (w.head ∷ ahead w.next) copied.taken,
              one,
              some,
              copied.counted,
              f.counted,
              left,
              p.front_run.counted,
            );
      }

    -- the tree of a new entry stays, and the row for that entry is none of those that are written
    pub child_later : {child : Placed} → Piece format c s child
        → ((x : ℕ) → in_parts format p x + times x (used child) ≤ 1) → Piece format c2 s2 child
    child_later {child = child} piece apart =
        piece_later format c c2 s s2 ((w.head ∷ ahead w.next) ++ copied.taken) ([] ++ own p.front)
        (ahead w.next ++ copied.taken) all_taken copied.keeps unwritten child
        (λ x i. omega (arith, i, apart x)) piece

    pub with_out : {child : Placed} {r2 : ℕ} → w2.next ≡ Some r2 → Piece format c s child
        → ((x : ℕ) → in_parts format p x + times x (used child) ≤ 1)
        → IsOut r2 (entries_used copied.copies ++ used child)
    with_out {child = child} {r2 = r2} next2 piece apart =
        let row : times r2 (ahead w2.next) ≡ bit (eqb r2 r2) + 0 =
        ap (λ (o : Option ℕ). times r2 (ahead o)) next2 in
        let none_of : times r2 (used child) ≡ 0 =
        not_in r2 (used child)
        (λ i. let untaken = alive_out s s2 ((w.head ∷ ahead w.next) ++ copied.taken)
        ([] ++ own p.front) all_taken r2 (piece_alive format piece r2 i) in
        absurd (omega (arith, untaken, taken_times r2, copied.rows r2, row, at_self r2))) in
        out_of_times r2 (entries_used copied.copies ++ used child)
        (omega (
          arith,
          times-append r2 (entries_used copied.copies) (used child),
          copied.going.once r2,
          row,
          at_self r2,
          none_of,
        ))
