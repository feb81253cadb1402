-- A node whose front is written, up to its head, with no entries at the back.
use Rattle.mst_path.proofs.Names.{Format, ◌≡◌, ℕ, zero, suc, ◌+◌, ◌-◌, ◌<◌, ◌≤◌, eqb, List, [], ◌∷◌, ◌++◌, length, Option, Some, None, refl, sym, ◌∙◌, ap, subst, arith, inr, node, Entries, last, entry, with_entries, Content, State, version, next, In, times, bit, Root, Born, Placed, head, tree_of, entries_of, rows_of, used, HasRows, times-append, with_first, IsOut, KeepsBut, IsAlive, Moves, IsNew, IsMade, Piece, own, gaps_used, AreCopies, PlacedEntry, chain_of, entries_used, ahead, IsAhead, IsWriter, IsWritten, IsRootOf, Going, cell_of, cells_of, entries_to, others, HasTail, Rest, Finished, NodeParts, NodeWriter}
use Rattle.mst_arena.specs.Standing.{none as no_tree}
use Rattle.mst_path.proofs.lemmas.rows.Entries.{entries_used-push, used_chain}
use Rattle.mst_path.proofs.lemmas.rows.Moving.{not_in, out_of_times, moves_none, alive_stays}
use Rattle.mst_path.proofs.lemmas.trees.Made.{made_chain, made-append, new_stays, made_stays, entries_stay}
use Rattle.mst_path.proofs.lemmas.rows.CopyRows.{at_self, new_alive}

-- ---- one more entry, with any tree before it

module _ {A : Type 0} (format : Format) (w w' : NodeWriter A) (c c' : Content) (s s' : State)
    (ws : List PlacedEntry) (r : ℕ) (child : Placed) (key value : List ℕ) (killed : List ℕ)
    (going : Going format w c s ws) (is : w.next ≡ Some r)
    (moves : Moves s s' (ahead w'.next) killed)
    (child_alive : (x : ℕ) → In x (used child) → IsAlive s x) (child_made : IsMade s child)
    (once : (x : ℕ) → times x (ahead w.next) + times x (entries_used ws) + times x (used child) ≤ 1)
    (spared : (x : ℕ) → In x killed → times x (ahead w.next) + times x (entries_used ws) + times x
    (used child) ≡ 0) where
  row_there : (x : ℕ) → times x (ahead w.next) ≡ bit (eqb x r) + 0
  row_there x = ap (λ (o : Option ℕ). times x (ahead o)) is

  pub used_more : (x : ℕ)
      → times x (entries_used (ws ++ record { at = r; child = child; key = key; value = value }
      ∷ [])) ≡ times x (ahead w.next) + times x (entries_used ws) + times x (used child)
  used_more x =
      let e : PlacedEntry = record { at = r; child = child; key = key; value = value } in
      let push : times x (entries_used (ws ++ e ∷ [])) ≡ times x (entries_used ws)
      + (bit (eqb x r) + times x (used child)) = ap (times x) (entries_used-push ws e)
      ∙ times-append x (entries_used ws) (r ∷ used child) in
      omega (arith, push, row_there x)

  alive_before : (x : ℕ) → 0 < times x (ahead w.next) + times x (entries_used ws) + times x
      (used child) → IsAlive s x
  alive_before x some = go (times x (ahead w.next)) refl (times x (entries_used ws)) refl
    where
      go : (n : ℕ) → times x (ahead w.next) ≡ n → (m : ℕ) → times x (entries_used ws) ≡ m
          → IsAlive s x
      go (suc n) e m f = new_alive s x (going.new x (omega (arith, e)))
      go zero e (suc m) f = going.alive x (omega (arith, f))
      go zero e zero f = child_alive x (omega (arith, some, e, f))

  same_next : next s' ≡ next s
  same_next = let v : version s' ≡ version s = rw (moves.current, moves.versions) in
      ap (λ (n : ℕ). n + 1) v

  pub going_more : IsWritten format w' c'
      (ws ++ record { at = r; child = child; key = key; value = value } ∷ [])
      → Going format w' c' s' (ws ++ record { at = r; child = child; key = key; value = value }
      ∷ [])
  going_more written = record {
    written = written;
    once = λ x. go x (times x (ahead w'.next)) refl;
    alive = λ x i. alive_stays s s' (ahead w'.next) killed moves x
        (alive_before x (omega (arith, i, used_more x)))
        (not_in x killed (λ k. absurd (omega (arith, spared x k, i, used_more x))));
    made = made-append s' ws (record { at = r; child = child; key = key; value = value } ∷ [])
        (entries_stay s s' (ahead w'.next) killed moves ws
        (λ x i. not_in x killed (λ k. absurd (omega (arith, spared x k, i)))) going.made) (
          new_stays s s' (ahead w'.next) killed moves r
              (going.new r (omega (arith, row_there r, at_self r)))
              (not_in r killed (λ k. absurd (omega (arith, spared r k, row_there r, at_self r)))),
          made_stays s s' (ahead w'.next) killed moves child
              (λ x i. not_in x killed (λ k. absurd (omega (arith, spared x k, i)))) child_made,
          tt,
        );
    new = λ x i. moves.born x i ∙ ap (λ (v : ℕ). Some (Born v)) (sym same_next);
  }
    where
      e : PlacedEntry
      e = record { at = r; child = child; key = key; value = value }

      go : (x n : ℕ) → times x (ahead w'.next) ≡ n → times x (ahead w'.next) + times x
          (entries_used (ws ++ record { at = r; child = child; key = key; value = value } ∷ [])) ≤ 1
      go x zero none = omega (arith, none, used_more x, once x)
      go x (suc n) some =
          let free = moves.free x (omega (arith, some)) in
          let out : times x (ahead w.next) + times x (entries_used ws) + times x (used child) ≡ 0 =
          zero_of (times x (ahead w.next) + times x (entries_used ws) + times x (used child))
          (λ i. let a = (alive_before x i).1 in cc) in
          omega (arith, moves.once x, used_more x, out)
        where
          zero_of : (n : ℕ) → (0 < n → ⊥) → n ≡ 0
          zero_of zero out = refl
          zero_of (suc n) out = absurd (out (omega arith))

-- ---- trees and their entries

pub copies_cells : (format : Format) (copies es : List PlacedEntry) → AreCopies copies es
    → cells_of format copies ≡ cells_of format es
copies_cells format [] [] same = refl
copies_cells format [] (e ∷ es) same = absurd same
copies_cells format (c ∷ cs) [] same = absurd same
copies_cells format (c ∷ cs) (e ∷ es) same =
    let here : cell_of format c ≡ cell_of format e = rw (same.0, same.1, same.2) in
    let rest = copies_cells format cs es same.3 in
    cc

pub chain_entries : (format : Format) (es : List PlacedEntry) (tail : Placed) → entries_of format
    (chain_of es tail) ≡ entries_to format es tail
chain_entries format [] tail = refl
chain_entries format (e ∷ es) tail =
    ap (λ (fs : Entries). entry (tree_of format e.child) e.key e.value fs)
    (chain_entries format es tail)

-- ---- the head is written

module _ {A : Type 0} (format : Format) (w : NodeWriter A) (c c' : Content) (s : State)
    (es : List PlacedEntry)
    (tail : Placed) (going : Going format w c s es) (tail_piece : Piece format c s tail)
    (head_new : IsNew s w.head) where
  placed : Placed
  placed = head w.head w.layer (chain_of es tail)

  pub all_used : (x : ℕ) → times x (used (head w.head w.layer (chain_of es tail))) ≡ times x
      (w.head ∷ []) + times x (entries_used es) + times x (used tail)
  all_used x =
      omega (arith, ap (times x) (used_chain es tail), times-append x (entries_used es) (used tail))

  pub head_piece : HasRows c' (rows_of format (head w.head w.layer (chain_of es tail)))
      → Piece format c' s (head w.head w.layer (chain_of es tail))
  head_piece rows = record {
    rows = rows;
    made = inr (head_new, made_chain s es tail going.made tail_piece.made);
  }

-- ---- rows in lists of entries

pub used_entries : (x : ℕ) (es : List PlacedEntry) → times x (entries_used es) ≡ times x (own es)
    + times x (gaps_used es)
used_entries x [] = omega arith
used_entries x (e ∷ es) =
    omega (
      arith,
      used_entries x es,
      times-append x (used e.child) (entries_used es),
      times-append x
          (used e.child) (gaps_used es),
    )

pub entries_used-append : (x : ℕ) (es fs : List PlacedEntry) → times x (entries_used (es ++ fs))
    ≡ times x (entries_used es) + times x (entries_used fs)
entries_used-append x [] fs = omega arith
entries_used-append x (e ∷ es) fs =
    omega (
      arith,
      entries_used-append x es fs,
      times-append x (used e.child)
          (entries_used (es ++ fs)),
      times-append x (used e.child) (entries_used es),
    )

pub copies_gaps : (x : ℕ) (copies es : List PlacedEntry) → AreCopies copies es
    → times x (gaps_used copies) ≡ times x (gaps_used es)
copies_gaps x [] [] same = refl
copies_gaps x [] (e ∷ es) same = absurd same
copies_gaps x (c ∷ cs) [] same = absurd same
copies_gaps x (c ∷ cs) (e ∷ es) same =
    let here : times x (used c.child) ≡ times x (used e.child) =
    ap (λ (p : Placed). times x (used p)) same.0 in
    omega (
      arith,
      here,
      copies_gaps x cs es same.3,
      times-append x (used c.child) (gaps_used cs),
      times-append x (used e.child) (gaps_used es),
    )

pub none_ahead : (o : Option ℕ) (left : ℕ) → IsAhead o left → left ≡ 0 → (x : ℕ) → times x (ahead o)
    ≡ 0
none_ahead None left ahead all x = refl
none_ahead (Some r) left ahead all x = absurd (omega (arith, ahead, all))

no_entries : (es : List PlacedEntry) (tail : Placed) → length es ≡ 0 → HasTail es tail → (es ≡ [])
    × (tail ≡ no_tree)
no_entries [] tail len has = (refl, has)
no_entries (e ∷ es) tail len has = absurd (omega (arith, len))

-- ---- no entries at the back

module _ {A : Type 0} (format : Format) (w : NodeWriter A) (c c' : Content) (s : State)
    (parts : NodeParts)
    (r : Rest format w c s parts) (at : Root) where
  pub at_seam : IsWriter w → w.left ≡ parts.back.count → parts.back.count ≡ 0 → IsRootOf format
      (head w.head w.layer (chain_of r.ws r.seam)) at
      → HasRows c' (rows_of format (head w.head w.layer (chain_of r.ws r.seam)))
      → KeepsBut (w.head ∷ []) c c' → Finished format w c c' s s parts r at
  at_seam writer left zero_count root rows keeps =
      let nothing = no_entries r.back r.tail (r.back_run.counted ∙ zero_count) r.back_run.tail_none
      in
      let ahead_none = none_ahead w.next w.left writer.reserved (left ∙ zero_count) in
      let behind : with_first (tree_of format r.seam) (entries_to format r.back r.tail) ≡ last
      (tree_of format r.seam) =
      ap (λ (es : List PlacedEntry). with_first (tree_of format r.seam)
      (entries_to format es r.tail)) nothing.0 in
      record {
        placed = head w.head w.layer (chain_of r.ws r.seam);
        is = ap (λ (fs : Entries). node format w.layer fs)
            (chain_entries format r.ws r.seam ∙ ap (with_entries (cells_of format r.ws))
            (sym behind));
        root = root;
        piece = head_piece format w c c' s r.ws r.seam r.going r.seam_piece r.head_new rows;
        taken = [];
        moves = subst (λ (es : List PlacedEntry). Moves s s [] (own es)) (sym nothing.0)
            (moves_none s);
        keeps = λ x out. keeps x (out.0, tt);
        rows =
            λ x. omega (
              arith,
              all_used format w c c' s r.ws r.seam r.going r.seam_piece r.head_new
                  x,
              ahead_none x,
              ap (λ (es : List PlacedEntry). times x (gaps_used (others es)))
                  nothing.0,
              ap (λ (p : Placed). times x (used p)) nothing.1,
            );
        counted = omega (arith, left, zero_count);
      }

pub head_out : {A : Type 0} (format : Format) (w : NodeWriter A) (c : Content) (s : State)
    (parts : NodeParts)
    (r : Rest format w c s parts) → IsOut w.head (entries_used r.ws ++ used r.seam)
head_out format w c s parts r = out_of_times w.head (entries_used r.ws ++ used r.seam)
    (omega (
      arith,
      r.once w.head,
      at_self w.head,
      times-append w.head (entries_used r.ws)
          (used r.seam),
    ))
