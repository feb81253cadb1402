-- Entries that are copied one after another.
use Rattle.mst_path.proofs.Names.{Format, ◌≡◌, ℕ, zero, suc, ◌+◌, ◌-◌, ◌≤◌, Bool, true, false, eqb, List, [], ◌∷◌, ◌++◌, length, Option, Some, refl, sym, ◌∙◌, ap, subst, arith, append_assoc, length-append, nat_tests, append-nil, Content, State, version, next, In, times, bit, Born, used, times-append, IsOut, KeepsBut, IsAlive, IsOld, Moves, IsNew, AreMade, RunStands, own, gaps_used, AreCopies, PlacedEntry, link_from, entries_used, ahead, IsWritten, Going, Copied, NodeWriter}
use Rattle.mst_path.proofs.lemmas.trees.Made.{made_old, made-append, new_stays, made_stays, entries_stay}
use Rattle.mst_path.proofs.lemmas.rows.Entries.{entries_used-push}
use Rattle.mst_path.proofs.lemmas.rows.Moving.{not_in, out_of_times, times_of_out, moves_none, moves_then, alive_stays, old_stays}
use Rattle.mst_path.proofs.lemmas.rows.CopyRows.{kept_at, new_not_old, new_alive, old_alive, own-append, own_frame, gaps_frame, gaps_old, at_self}

-- ---- one entry

-- the entry in another row
abbrev pub copy_in : ℕ → PlacedEntry → PlacedEntry
copy_in r e = record { at = r; child = e.child; key = e.key; value = e.value }

module _ {A : Type 0} (format : Format) (w w' : NodeWriter A) (c c' : Content) (s s' : State)
    (e : PlacedEntry)
    (rest ws : List PlacedEntry) (behind link count r : ℕ)
    (run : RunStands format c s link count behind (e ∷ rest)) (going : Going format w c s ws)
    (once : (x : ℕ) → times x (entries_used ws) + times x (own (e ∷ rest)) + times x
    (gaps_used (e ∷ rest)) ≤ 1) (is : w.next ≡ Some r)
    (moves : Moves s s' (ahead w'.next) (e.at ∷ [])) (keeps : KeepsBut (ahead w.next) c c') where
  pub row_ahead : (x : ℕ) → times x (ahead w.next) ≡ bit (eqb x r) + 0
  row_ahead x = ap (λ (o : Option ℕ). times x (ahead o)) is

  new_row : IsNew s r
  new_row = going.new r (omega (arith, row_ahead r, at_self r))

  -- an old row is not the new one
  old_out : (x : ℕ) → IsOld s x → times x (ahead w.next) ≡ 0
  old_out x old = not_in x (ahead w.next) (λ i. new_not_old s x (going.new x i) old)

  gap_old : (x : ℕ) → In x (used e.child) → IsOld s x
  gap_old x i = run.gaps.0.old x i

  used_push : (x : ℕ) → times x (entries_used (ws ++ copy_in r e ∷ [])) ≡ times x (entries_used ws)
      + (bit (eqb x r) + times x (used e.child))
  used_push x = ap (times x) (entries_used-push ws (copy_in r e)) ∙ times-append x (entries_used ws)
      (r ∷ used e.child)

  gaps_both : (x : ℕ) → times x (gaps_used (e ∷ rest)) ≡ times x (used e.child) + times x
      (gaps_used rest)
  gaps_both x = times-append x (used e.child) (gaps_used rest)

  pub next_once : (x : ℕ) → times x (ahead w'.next) + times x
      (entries_used (ws ++ copy_in r e ∷ []))
      ≤ 1
  next_once x = go (times x (ahead w'.next)) refl
    where
      child_none : IsNew s x → times x (used e.child) ≡ 0
      child_none new = not_in x (used e.child) (λ i. new_not_old s x new (gap_old x i))

      go : (n : ℕ) → times x (ahead w'.next) ≡ n → times x (ahead w'.next) + times x
          (entries_used (ws ++ copy_in r e ∷ [])) ≤ 1
      go zero none = here (eqb x r) refl
        where
          here : (t : Bool) → eqb x r ≡ t → times x (ahead w'.next) + times x
              (entries_used (ws ++ copy_in r e ∷ [])) ≤ 1
          here true same =
              let x_is : x ≡ r = grind (arith, nat_tests) in
              let one : bit (eqb x r) ≡ 1 = ap bit same in
              omega (
                arith,
                none,
                used_push x,
                going.once x,
                row_ahead x,
                child_none
                    (subst (IsNew s) (sym x_is) new_row),
              )
          here false other =
              let zero_bit : bit (eqb x r) ≡ 0 = ap bit other in
              omega (arith, none, used_push x, once x, gaps_both x)
      go (suc n) some =
          let free = moves.free x (omega (arith, some)) in
          let out_ws : times x (entries_used ws) ≡ 0 =
          not_in x (entries_used ws) (λ i. let a = (going.alive x i).1 in cc) in
          let out_row : times x (ahead w.next) ≡ 0 =
          not_in x (ahead w.next) (λ i. let a = going.new x i in cc) in
          let out_child : times x (used e.child) ≡ 0 =
          not_in x (used e.child) (λ i. let a = (gap_old x i).1 in cc) in
          omega (arith, moves.once x, used_push x, out_ws, out_row, row_ahead x, out_child)

  -- what is written is not killed
  pub not_killed : (x : ℕ) → In x (entries_used (ws ++ copy_in r e ∷ [])) → IsAlive s x
      × (times x (e.at ∷ []) ≡ 0)
  not_killed x i = go (times x (entries_used ws)) refl (eqb x r) refl
    where
      go : (n : ℕ) → times x (entries_used ws) ≡ n → (t : Bool) → eqb x r ≡ t → IsAlive s x
          × (times x (e.at ∷ []) ≡ 0)
      go (suc n) some t b = (going.alive x (omega (arith, some)), omega (arith, some, once x))
      go zero none true same =
          let x_is : x ≡ r = grind (arith, nat_tests) in
          let new : IsNew s x = subst (IsNew s) (sym x_is) new_row in (
            new_alive s x new,
            not_in x (e.at ∷ [])
                (λ k. new_not_old s x new (run.old x (omega (arith, k)))),
          )
      go zero none false other =
          let zero_bit : bit (eqb x r) ≡ 0 = ap bit other in (
            old_alive s x (gap_old x (omega (arith, i, used_push x, none, zero_bit))),
            omega (arith, i, used_push x, none, zero_bit, once x, gaps_both x),
          )

  pub same_next : next s' ≡ next s
  same_next = let v : version s' ≡ version s = rw (moves.current, moves.versions) in
      ap (λ (n : ℕ). n + 1) v

  -- the copy is written in the new row, and what is in its gap stays
  pub copied_made : AreMade s' (ws ++ copy_in r e ∷ [])
  copied_made = made-append s' ws (copy_in r e ∷ [])
      (entries_stay s s' (ahead w'.next) (e.at ∷ []) moves ws
      (λ x i. (not_killed x (omega (arith, i, used_push x))).1) going.made) (
        new_stays s s' (ahead w'.next) (e.at ∷ []) moves r new_row
            (not_killed r (omega (arith, used_push r, at_self r))).1,
        made_stays s s' (ahead w'.next) (e.at ∷ []) moves e.child
            (λ x i. (not_killed x (omega (arith, i, used_push x))).1) (made_old s e.child gap_old),
        tt,
      )

  abbrev pub one_copied : IsWritten format w' c' (ws ++ copy_in r e ∷ []) → Copied format w w' c c'
      s s'
      ws (e ∷ [])
  one_copied written = record {
    copies = copy_in r e ∷ [];
    same = (refl, refl, refl, tt);
    going = record {
      written = written;
      once = next_once;
      alive = λ x i. let k = not_killed x i in alive_stays s s' (ahead w'.next) (e.at ∷ []) moves x
          k.0 k.1;
      made = copied_made;
      new = λ x i. moves.born x i ∙ ap (λ (v : ℕ). Some (Born v)) (sym same_next);
    };
    taken = ahead w'.next;
    moves = moves;
    keeps = λ x out. keeps x (out_first x (ahead w.next) (ahead w'.next) out);
    rows = λ x. omega (arith, row_ahead x);
    counted = omega (arith, ap (λ (o : Option ℕ). length (ahead o)) is);
  }
    where
      out_first : (x : ℕ) (xs ys : List ℕ) → IsOut x (xs ++ ys) → IsOut x xs
      out_first x [] ys out = tt
      out_first x (y ∷ xs) ys out = (out.0, out_first x xs ys out.1)

  -- what is left to be copied
  pub rest_runs : (n : ℕ) → n + 1 ≡ count → RunStands format c' s' (link_from behind rest) n behind
      rest
  rest_runs n less =
      let own_kept : (x : ℕ) → In x (own rest) → c' x ≡ c x =
      λ x i. kept_at c c' (ahead w.next) x keeps (old_out x (run.old x (omega (arith, i)))) in
      let gap_in : (x : ℕ) → In x (gaps_used rest) → In x (gaps_used (e ∷ rest)) =
      λ x i. omega (arith, i, gaps_both x) in
      record {
        counted = omega (arith, run.counted, less);
        begins = refl;
        rows = own_frame c c' behind rest own_kept run.rows.1;
        old = λ x i. old_stays s s' (ahead w'.next) (e.at ∷ []) moves x
            (run.old x (omega (arith, i))) (omega (arith, i, once x));
        gaps = gaps_frame format c c' s s' rest
            (λ x i. kept_at c c' (ahead w.next) x keeps
            (old_out x (gaps_old format c s x rest run.gaps.1 i)))
            (λ x i old. old_stays s s' (ahead w'.next) (e.at ∷ []) moves x old
            (omega (arith, gap_in x i, once x)))
            run.gaps.1;
      }

  pub rest_once : (x : ℕ) → times x (entries_used (ws ++ copy_in r e ∷ [])) + times x (own rest)
      + times x (gaps_used rest) ≤ 1
  rest_once x = go (eqb x r) refl
    where
      go : (t : Bool) → eqb x r ≡ t → times x (entries_used (ws ++ copy_in r e ∷ [])) + times x
          (own rest) + times x (gaps_used rest) ≤ 1
      go true same =
          let x_is : x ≡ r = grind (arith, nat_tests) in
          let new : IsNew s x = subst (IsNew s) (sym x_is) new_row in
          let one : bit (eqb x r) ≡ 1 = ap bit same in
          let no_child : times x (used e.child) ≡ 0 =
          not_in x (used e.child) (λ i. new_not_old s x new (gap_old x i)) in
          let no_own : times x (own rest) ≡ 0 =
          not_in x (own rest) (λ i. new_not_old s x new (run.old x (omega (arith, i)))) in
          let no_gaps : times x (gaps_used rest) ≡ 0 =
          not_in x (gaps_used rest)
          (λ i. new_not_old s x new (gaps_old format c s x rest run.gaps.1 i)) in
          omega (arith, used_push x, going.once x, row_ahead x, one, no_child, no_own, no_gaps)
      go false other =
          let zero_bit : bit (eqb x r) ≡ 0 = ap bit other in
          omega (arith, used_push x, zero_bit, once x, gaps_both x)

-- ---- one after another

pub copies-append : (cs ds es fs : List PlacedEntry) → AreCopies cs es → AreCopies ds fs
    → AreCopies (cs ++ ds) (es ++ fs)
copies-append [] ds [] fs same more = more
copies-append [] ds (e ∷ es) fs same more = absurd same
copies-append (c ∷ cs) ds [] fs same more = absurd same
copies-append (c ∷ cs) ds (e ∷ es) fs same more =
    (same.0, same.1, same.2, copies-append cs ds es fs same.3 more)

abbrev pub copied_none : {A : Type 0} (format : Format) (w : NodeWriter A) (c : Content) (s : State)
    (ws : List PlacedEntry) → Going format w c s ws → Copied format w w c c s s ws []
copied_none format w c s ws going = record {
  copies = [];
  same = tt;
  going = subst (Going format w c s) (sym (append-nil ws)) going;
  taken = [];
  moves = moves_none s;
  keeps = λ x out. refl;
  rows = λ x. omega arith;
  counted = omega arith;
}

module _ {A : Type 0} (format : Format) (w0 w1 w2 : NodeWriter A) (c0 c1 c2 : Content)
    (s0 s1 s2 : State)
    (ws es fs : List PlacedEntry) (one : Copied format w0 w1 c0 c1 s0 s1 ws es)
    (two : Copied format w1 w2 c1 c2 s1 s2 (ws ++ one.copies) fs) where
  abbrev pub copied_then : Copied format w0 w2 c0 c2 s0 s2 ws (es ++ fs)
  copied_then = record {
    copies = one.copies ++ two.copies;
    same = copies-append one.copies two.copies es fs one.same two.same;
    going = subst (Going format w2 c2 s2) (append_assoc ws one.copies two.copies) two.going;
    taken = one.taken ++ two.taken;
    moves = subst (Moves s0 s2 (one.taken ++ two.taken)) (sym (own-append es fs))
        (moves_then s0 s1 s2 one.taken (own es) two.taken (own fs) one.moves two.moves);
    keeps = λ x out.
        let none = times_of_out x (ahead w0.next ++ (one.taken ++ two.taken)) out in
        let parts = times-append x (ahead w0.next) (one.taken ++ two.taken) in
        let taken = times-append x one.taken two.taken in
        two.keeps x (out_of_times x (ahead w1.next ++ two.taken)
        (omega (
          arith,
          none,
          parts,
          taken,
          one.rows x,
          times-append x (ahead w1.next)
              two.taken,
        )))
        ∙ one.keeps x
        (out_of_times x (ahead w0.next ++ one.taken)
        (omega (arith, none, parts, taken, times-append x (ahead w0.next) one.taken)));
    rows =
        λ x. omega (
          arith,
          one.rows x,
          two.rows x,
          times-append x one.taken two.taken,
          ap (times x)
              (own-append one.copies two.copies),
          times-append x (own one.copies) (own two.copies),
        );
    counted =
        omega (
          arith,
          one.counted,
          two.counted,
          length-append one.taken two.taken,
          length-append es
              fs,
        );
  }
