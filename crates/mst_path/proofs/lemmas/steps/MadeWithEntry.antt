-- A node that is made of parts with a new entry after the front, up to its head.
use Rattle.mst_path.proofs.Names.{Format, ◌≡◌, ℕ, zero, suc, ◌+◌, ◌<◌, ◌≤◌, min, List, [], ◌∷◌, ◌++◌, length, Some, refl, sym, ◌∙◌, ap, subst, arith, length-append, node, Entries, entry, TreeEntry, with_entries, Content, State, next, times, Root, Placed, tree_of, used, times-append, with_first, KeepsBut, IsAlive, Moves, IsNew, Piece, own, gaps_used, entries_used, ahead, IsWritten, Going, Copied, cells_of, entries_to, others, PartsStand, in_parts, Grown, Rest, Finished, NodeParts, NodeWriter, with_entries-append}
use Rattle.mst_path.proofs.lemmas.rows.Moving.{out_of_times, times_of_out, moves_then, alive_out}
use Rattle.mst_path.proofs.lemmas.trees.Made.{new_stays, piece_alive}
use Rattle.mst_path.proofs.lemmas.steps.Finishing.{used_more, going_more, copies_cells}
use Rattle.mst_path.proofs.lemmas.steps.Untouched.{piece_later, back_later}
use Rattle.mst_path.proofs.lemmas.steps.Whole.{Begun, part_alive, all_taken, taken_times, unwritten, front_used, front_rest}
use Rattle.mst_path.proofs.lemmas.trees.Cutting.{cells-append}

module _ {A : Type 0} (format : Format) {w : NodeWriter A} {c : Content} {s s1 : State}
    {parts : NodeParts}
    (p : PartsStand format c s parts) (begun : Begun format w c s s1) where
  module _ {w2 : NodeWriter A} {c2 : Content} {s2 : State}
      (copied : Copied format w w2 c c2 s1 s2 [] p.front) (same_head : w2.head ≡ w.head) where
    -- ---- with a new entry after the front
    module _ {child : Placed} (key value : List ℕ) {r2 : ℕ} (next2 : w2.next ≡ Some r2)
        (child_piece : Piece format c s child)
        (apart : (x : ℕ) → in_parts format p x + times x (used child) ≤ 1) {w3 : NodeWriter A}
        {c3 : Content} {s3 : State} (moves3 : Moves s2 s3 (ahead w3.next) [])
        (keeps3 : KeepsBut (ahead w2.next) c2 c3)
        (written3 : IsWritten format w3 c3
        (copied.copies ++ record { at = r2; child = child; key = key; value = value } ∷ []))
        (head3 : w3.head ≡ w2.head) where
      pub all_three : Moves s s3 (((w.head ∷ ahead w.next) ++ copied.taken) ++ ahead w3.next)
          (([] ++ own p.front) ++ [])
      all_three = moves_then s s2 s3 ((w.head ∷ ahead w.next) ++ copied.taken) ([] ++ own p.front)
          (ahead w3.next) [] (all_taken format p begun copied same_head) moves3

      pub three_times : (x : ℕ)
          → times x (((w.head ∷ ahead w.next) ++ copied.taken) ++ ahead w3.next) ≡ times x
          (w.head ∷ []) + times x (ahead w.next) + times x copied.taken + times x (ahead w3.next)
      three_times x =
          omega (
            arith,
            taken_times format p begun copied same_head x,
            times-append x ((w.head ∷ ahead w.next) ++ copied.taken)
                (ahead w3.next),
          )

      -- a row of a part, or of the new entry's tree, is alive
      either_alive : (x : ℕ) → 0 < in_parts format p x + times x (used child) → IsAlive s x
      either_alive x some = go (in_parts format p x) refl
        where
          go : (n : ℕ) → in_parts format p x ≡ n → IsAlive s x
          go zero none_in = piece_alive format child_piece x (omega (arith, some, none_in))
          go (suc n) is = part_alive format p begun x (omega (arith, is))

      pub keeps_three : KeepsBut (ahead w.next ++ copied.taken) c c3
      keeps_three x out =
          let none_in = times_of_out x (ahead w.next ++ copied.taken) out in
          keeps3 x (out_of_times x (ahead w2.next)
          (omega (arith, none_in, times-append x (ahead w.next) copied.taken, copied.rows x)))
          ∙ copied.keeps x out

      pub unwritten_three : (x : ℕ) → IsAlive s x → times x (ahead w.next ++ copied.taken) ≡ 0
      unwritten_three = unwritten format p begun copied same_head

      pub child_two : Piece format c2 s2 child
      child_two = piece_later format c c2 s s2 ((w.head ∷ ahead w.next) ++ copied.taken)
          ([] ++ own p.front) (ahead w.next ++ copied.taken)
          (all_taken format p begun copied same_head) copied.keeps
          (unwritten format p begun copied same_head) child
          (λ x i. omega (arith, i, apart x)) child_piece

      pub with_once : (x : ℕ) → times x (ahead w2.next) + times x (entries_used copied.copies)
          + times x (used child) ≤ 1
      with_once x = go (in_parts format p x + times x (used child)) refl
        where
          go : (n : ℕ) → in_parts format p x + times x (used child) ≡ n → times x (ahead w2.next)
              + times x (entries_used copied.copies) + times x (used child) ≤ 1
          go zero none_in =
              omega (
                arith,
                none_in,
                front_used format p begun copied same_head x,
                copied.rows x,
                taken_times format p begun copied same_head x,
                (all_taken format p begun copied same_head).once x,
              )
          go (suc n) some =
              let untaken = alive_out s s2 ((w.head ∷ ahead w.next) ++ copied.taken)
              ([] ++ own p.front) (all_taken format p begun copied same_head) x
              (either_alive x (omega (arith, some))) in
              omega (
                arith,
                front_used format p begun copied same_head x,
                copied.rows x,
                taken_times format p begun copied same_head x,
                untaken,
                apart x,
              )

      pub going_three : Going format w3 c3 s3
          (copied.copies ++ record { at = r2; child = child; key = key; value = value } ∷ [])
      going_three = going_more format w2 w3 c2 c3 s2 s3 copied.copies r2 child key value
          [] copied.going next2 moves3 (piece_alive format child_two) child_two.made with_once
          (λ x i. absurd (omega (arith, i))) written3

      pub used_three : (x : ℕ)
          → times x (entries_used
          (copied.copies ++ record { at = r2; child = child; key = key; value = value } ∷ []))
          ≡ times x (ahead w2.next) + times x (entries_used copied.copies) + times x (used child)
      used_three = used_more format w2 w3 c2 c3 s2 s3 copied.copies r2 child key value
          [] copied.going next2 moves3 (piece_alive format child_two) child_two.made with_once
          (λ x i. absurd (omega (arith, i)))

      pub heads_three : (x : ℕ) → times x (w3.head ∷ []) ≡ times x (w.head ∷ [])
      heads_three x = ap (λ (h : ℕ). times x (h ∷ [])) (head3 ∙ same_head)

      pub three_once : (x : ℕ) → times x (w3.head ∷ []) + times x (ahead w3.next) + times x
          (entries_used
          (copied.copies ++ record { at = r2; child = child; key = key; value = value } ∷ []))
          + times x (used p.seam) + times x (own p.back) + times x (gaps_used (others p.back))
          + times x (used p.tail) ≤ 1
      three_once x = go (in_parts format p x + times x (used child)) refl
        where
          go : (n : ℕ) → in_parts format p x + times x (used child) ≡ n → times x (w3.head ∷ [])
              + times x (ahead w3.next) + times x
              (entries_used
              (copied.copies ++ record { at = r2; child = child; key = key; value = value } ∷ []))
              + times x (used p.seam) + times x (own p.back) + times x (gaps_used (others p.back))
              + times x (used p.tail) ≤ 1
          go zero none_in =
              omega (
                arith,
                none_in,
                heads_three x,
                used_three x,
                front_used format p begun copied same_head x,
                copied.rows x,
                three_times x,
                all_three.once x,
              )
          go (suc n) some =
              let untaken =
              alive_out s s3 (((w.head ∷ ahead w.next) ++ copied.taken) ++ ahead w3.next)
              (([] ++ own p.front) ++ []) all_three x (either_alive x (omega (arith, some))) in
              omega (
                arith,
                heads_three x,
                used_three x,
                front_used format p begun copied same_head x,
                copied.rows x,
                three_times x,
                untaken,
                apart x,
              )

      unfoldable pub rest_three : Rest format w3 c3 s3 parts
      unfolding front_rest
      rest_three = record {
        ws = copied.copies ++ record { at = r2; child = child; key = key; value = value } ∷ [];
        going = going_three;
        head_new =
            subst (IsNew s3) (sym head3)
            (new_stays s2 s3 (ahead w3.next) [] moves3 w2.head
            (front_rest format p begun copied same_head).head_new refl);
        seam = p.seam;
        seam_at = p.seam_at;
        seam_piece =
            piece_later format c c3 s s3
            (((w.head ∷ ahead w.next) ++ copied.taken) ++ ahead w3.next) (([] ++ own p.front) ++ [])
            (ahead w.next ++ copied.taken) all_three keeps_three unwritten_three p.seam
            (λ x i. omega (arith, i, p.once x, times-append x ([] ++ own p.front) [])) p.seam_piece;
        back = p.back;
        tail = p.tail;
        back_run =
            back_later format c c3 s s3 (((w.head ∷ ahead w.next) ++ copied.taken) ++ ahead w3.next)
            (([] ++ own p.front) ++ []) (ahead w.next ++ copied.taken) all_three keeps_three
            unwritten_three parts.back.first parts.back.count parts.tail p.back p.tail
            (λ x i. omega (arith, i, p.once x, times-append x ([] ++ own p.front) []))
            (λ x i. omega (arith, i, p.once x, times-append x ([] ++ own p.front) []))
            (λ x i. omega (arith, i, p.once x, times-append x ([] ++ own p.front) [])) p.back_run;
        once = three_once;
      }

      module _ {c4 : Content} {s4 : State} {at : Root}
          (f : Finished format w3 c3 c4 s3 s4 parts rest_three at) where
        pub made_with : w3.layer ≡ parts.layer → w3.left ≡ parts.back.count → length (ahead w.next)
            ≡ 1 → length (ahead w2.next) ≡ 1 → length (ahead w3.next) ≡ min 1 w3.left
            → Grown format c c4 s s4
            (node format parts.layer
            (with_entries (cells_of format p.front)
            (entry (tree_of format child) key value
            (with_first (tree_of format p.seam) (entries_to format p.back p.tail))))) at
            (λ x. in_parts format p x + times x (used child))
            (parts.front.count + parts.back.count + 2)
        unfolding rest_three
        made_with layer left one two some = record {
          placed = f.placed;
          is =
              f.is ∙ ap (λ (l : ℕ). node format l
              (with_entries
              (cells_of format
              (copied.copies ++ record { at = r2; child = child; key = key; value = value } ∷ []))
              (with_first (tree_of format p.seam) (entries_to format p.back p.tail)))) layer
              ∙ ap (λ (fs : Entries). node format parts.layer fs)
              (ap (λ (cs : List TreeEntry). with_entries cs
              (with_first (tree_of format p.seam) (entries_to format p.back p.tail)))
              (cells-append format copied.copies
              (record { at = r2; child = child; key = key; value = value } ∷ []))
              ∙ with_entries-append (cells_of format copied.copies)
              (cells_of format
              (record { at = r2; child = child; key = key; value = value } ∷ []))
              (with_first (tree_of format p.seam) (entries_to format p.back p.tail))
              ∙ ap (λ (cs : List TreeEntry). with_entries cs
              (entry (tree_of format child) key value
              (with_first (tree_of format p.seam) (entries_to format p.back p.tail))))
              (copies_cells format copied.copies p.front copied.same));
          root = f.root;
          piece = f.piece;
          taken = (((w.head ∷ ahead w.next) ++ copied.taken) ++ ahead w3.next) ++ f.taken;
          killed = (([] ++ own p.front) ++ []) ++ own p.back;
          moves = moves_then s s3 s4 (((w.head ∷ ahead w.next) ++ copied.taken) ++ ahead w3.next)
              (([] ++ own p.front) ++ []) f.taken (own p.back) all_three f.moves;
          keeps = λ x out.
              let none_in =
              times_of_out x
              ((((w.head ∷ ahead w.next) ++ copied.taken) ++ ahead w3.next) ++ f.taken) out in
              let a = times-append x (((w.head ∷ ahead w.next) ++ copied.taken) ++ ahead w3.next)
              f.taken in
              f.keeps x (out_of_times x (w3.head ∷ ahead w3.next ++ f.taken)
              (omega (
                arith,
                none_in,
                a,
                three_times x,
                heads_three x,
                times-append x
                    (ahead w3.next) f.taken,
              )))
              ∙ keeps_three x
              (out_of_times x (ahead w.next ++ copied.taken)
              (omega (
                arith,
                none_in,
                a,
                three_times x,
                times-append x (ahead w.next)
                    copied.taken,
              )));
          rows =
              λ x. omega (
                arith,
                f.rows x,
                heads_three x,
                used_three x,
                front_used format p begun copied same_head x,
                copied.rows x,
                three_times x,
                times-append x
                    (((w.head ∷ ahead w.next) ++ copied.taken) ++ ahead w3.next) f.taken,
                times-append x
                    (([] ++ own p.front) ++ []) (own p.back),
                times-append x ([] ++ own p.front) [],
              );
          counted =
              omega (
                arith,
                length-append
                    (((w.head ∷ ahead w.next) ++ copied.taken) ++ ahead w3.next) f.taken,
                length-append
                    ((w.head ∷ ahead w.next) ++ copied.taken) (ahead w3.next),
                length-append
                    (w.head ∷ ahead w.next) copied.taken,
                one,
                two,
                some,
                copied.counted,
                f.counted,
                left,
                p.front_run.counted,
              );
        }
