-- A number of entries that are copied one after another.
use Rattle.mst_path.proofs.Names.{Format, ◌≡◌, ℕ, ◌+◌, ◌-◌, ◌<◌, ◌≤◌, List, [], ◌∷◌, ◌++◌, length, Some, refl, sym, ◌∙◌, ap, subst, arith, append_assoc, append-nil, Content, State, next, times, Entry, link_of, KeepsBut, IsOld, Moves, RunStands, own, gaps_used, PlacedEntry, link_from, entries_used, ahead, IsWritten, Copying, Copied, NodeWriter}
use Rattle.mst_path.proofs.lemmas.rows.CopyRows.{at_self}
use Rattle.mst_path.proofs.lemmas.rows.Copies.{copy_in, one_copied, rest_runs, rest_once, copied_none, copied_then}

-- ---- so many of them

module _ {A : Type 0} (format : Format) {w0 : NodeWriter A} {c0 : Content} {s0 : State}
    {from count : ℕ}
    (k : Copying format w0 c0 s0 from count) where
  -- the first i entries are copied
  pub record Progress (i : ℕ) (w : NodeWriter A) (c : Content) (s : State) (link : ℕ) : Type 0 where
    pub first : List PlacedEntry
    pub rest : List PlacedEntry
    pub split : k.es ≡ first ++ rest
    pub left : ℕ
    pub adds : i + left ≡ count
    pub copied : Copied format w0 w c0 c s0 s k.ws first
    pub run : RunStands format c s link left k.behind rest
    pub once : (x : ℕ) → times x (entries_used (k.ws ++ copied.copies)) + times x (own rest) + times
        x (gaps_used rest) ≤ 1

  pub starts : Progress 0 w0 c0 s0 from
  starts = record {
    first = [];
    rest = k.es;
    split = refl;
    left = count;
    adds = omega arith;
    copied = copied_none format w0 c0 s0 k.ws k.going;
    run = k.run;
    once =
        λ x. omega (
          arith,
          k.once x,
          ap (λ (l : List PlacedEntry). times x (entries_used l))
              (append-nil k.ws),
        );
  }

  -- the next entry to be copied
  pub record Next (i : ℕ) (w : NodeWriter A) (c : Content) (s : State) (link : ℕ)
      (p : Progress i w c s link) : Type 0 where
    pub entry : PlacedEntry
    pub more : List PlacedEntry
    pub is : p.rest ≡ entry ∷ more

  pub some_left : {i : ℕ} {w : NodeWriter A} {c : Content} {s : State} {link : ℕ}
      (p : Progress i w c s link) → i < count → Next i w c s link p
  some_left {i = i} {w = w} {c = c} {s = s} {link = link} p lt = go p.rest refl
    where
      go : (l : List PlacedEntry) → p.rest ≡ l → Next i w c s link p
      go [] e =
          absurd (omega (
            arith,
            lt,
            p.adds,
            p.run.counted,
            ap (λ (l : List PlacedEntry). length l)
                e,
          ))
      go (x ∷ xs) e = record { entry = x; more = xs; is = e }

  module _ {i : ℕ} {w : NodeWriter A} {c : Content} {s : State} {link : ℕ}
      {p : Progress i w c s link}
      (n : Next i w c s link p) where
    pub next_run : RunStands format c s link p.left k.behind (n.entry ∷ n.more)
    next_run = subst (RunStands format c s link p.left k.behind) n.is p.run

    pub link_is : link ≡ n.entry.at + 1
    link_is = sym next_run.begins

    pub link_less : link - 1 ≡ n.entry.at
    link_less = omega (arith, link_is)

    pub row_there : c (link - 1) ≡ Some
        (Entry (link_of n.entry.child) (link_from k.behind n.more) n.entry.key n.entry.value)
    row_there = ap c link_less ∙ next_run.rows.0

    pub row_old : IsOld s (link - 1)
    row_old =
        subst (IsOld s) (sym link_less)
        (next_run.old n.entry.at (omega (arith, at_self n.entry.at)))

    once_more : (x : ℕ) → times x (entries_used (k.ws ++ p.copied.copies)) + times x
        (own (n.entry ∷ n.more)) + times x (gaps_used (n.entry ∷ n.more)) ≤ 1
    once_more =
        subst (λ (l : List PlacedEntry). (x : ℕ) → times x (entries_used (k.ws ++ p.copied.copies))
        + times x (own l) + times x (gaps_used l) ≤ 1) n.is p.once

    pub steps : (w' : NodeWriter A) (c' : Content) (s' : State) (r : ℕ) → w.next ≡ Some r
        → Moves s s' (ahead w'.next) (n.entry.at ∷ []) → KeepsBut (ahead w.next) c c'
        → IsWritten format w' c' ((k.ws ++ p.copied.copies) ++ copy_in r n.entry ∷ [])
        → Progress (i + 1) w' c' s' (link_from k.behind n.more)
    steps w' c' s' r is moves keeps written =
        let ws = k.ws ++ p.copied.copies in
        let one = one_copied format w w' c c' s s' n.entry n.more ws k.behind link p.left r next_run
        p.copied.going once_more is moves keeps written in
        let whole = copied_then format w0 w w' c0 c c' s0 s s' k.ws p.first (n.entry ∷ []) p.copied
        one in
        let counted : length n.more + 1 ≡ p.left = omega (arith, next_run.counted) in
        record {
          first = p.first ++ n.entry ∷ [];
          rest = n.more;
          split = p.split ∙ ap (λ (l : List PlacedEntry). p.first ++ l) n.is
              ∙ sym (append_assoc p.first (n.entry ∷ []) n.more);
          left = length n.more;
          adds = omega (arith, p.adds, counted);
          copied = whole;
          run = rest_runs format w w' c c' s s' n.entry n.more ws k.behind link p.left r next_run
              p.copied.going once_more is moves keeps (length n.more) counted;
          once =
              λ x. omega (
                arith,
                rest_once format w w' c c' s s' n.entry n.more ws k.behind link
                    p.left r next_run p.copied.going once_more is moves keeps x,
                ap (λ (l : List PlacedEntry). times x (entries_used l))
                    (append_assoc k.ws p.copied.copies (copy_in r n.entry ∷ [])),
              );
        }

  pub ends : {i : ℕ} {w : NodeWriter A} {c : Content} {s : State} {link : ℕ} → Progress i w c s link
      → i ≡ count → (link ≡ k.behind) × Copied format w0 w c0 c s0 s k.ws k.es
  ends {w = w} {c = c} {s = s} {link = link} p all = go p.rest refl
    where
      go : (l : List PlacedEntry) → p.rest ≡ l → (link ≡ k.behind) × Copied format w0 w c0 c s0 s
          k.ws k.es
      go [] e = (
        sym p.run.begins ∙ ap (link_from k.behind) e,
        subst (Copied format w0 w c0 c s0 s k.ws)
            (sym (p.split ∙ ap (λ (l : List PlacedEntry). p.first ++ l) e ∙ append-nil p.first))
            p.copied,
      )
      go (x ∷ xs) e =
          absurd (omega (
            arith,
            all,
            p.adds,
            p.run.counted,
            ap (λ (l : List PlacedEntry). length l)
                e,
          ))
