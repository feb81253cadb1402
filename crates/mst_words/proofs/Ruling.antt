-- Of two ruled states: when their histories are one, and how a step changes the history. What is
-- writable is apart from what is live.
use Rattle.mst_words.proofs.Names.{◌≡◌, ◌⊎◌, ℕ, ◌+◌, zero, suc, ◌<◌, ◌≤◌, ◌≢◌, inl, inr, Bool, cond, eq-eqb, ne_eqb, List, [], ◌∷◌, ◌++◌, length, set, sym, refl, ap, ◌∙◌, subst, ⊎_elim, arith, append-nil, length-append, All, dite, dec_le, ℕ_discrete, at_set, at_snoc, at_longer, set_here, set_else, Format, Event, History, events_of, IsPrefix, IsPrefix-nil, events_of-append, View, SeatAt, World}
use Rattle.std.proofs.Common.{append_assoc}
use Rattle.std.proofs.lemmas.List.Elements.{All-head, All-tail}
use Rattle.mst_key.proofs.HistoryLaws.{IsPrefix-both_ways}
use Rattle.mst_words.proofs.Histories.{events_none, events_own, last_of, last_named}
use Rattle.mst_words.proofs.Seats.{each_seat, same_view}
use Rattle.mst_words.proofs.Worlds.{within}

-- each pass that has a seat here has one there, with the same events
abbrev pub Made : List View → List View → Type 0
Made vs us = (i : ℕ) (v : View) → SeatAt vs i v → 0 < v.number → (j : ℕ) × (w : View)
    × SeatAt us j w × (w.number ≡ v.number) × (w.mine ≡ v.mine)

-- what is seen here is seen there
abbrev pub Seen : List View → List View → Type 0
Seen vs us = (i : ℕ) (v : View) → SeatAt vs i v → (j : ℕ) × (w : View) × SeatAt us j w
    × (w.seen ≡ v.seen)

-- the history is empty, or some seat has seen the whole of it
abbrev pub Whole : History → List View → Type 0
Whole log vs = (log ≡ []) ⊎ ((i : ℕ) × (v : View) × SeatAt vs i v × (v.seen ≡ log))

-- a number that no pass has, has no events
none_of : (next : ℕ) (log : History) (p : ℕ) → All (λ e. (0 < e.pass) × (e.pass < next)) log
    → (0 < p → p < next → ⊥) → events_of p log ≡ []
none_of next log p named out =
    events_none p log (λ k d l same. let b = named k d l in out (subst (λ (z : ℕ). 0 < z) same b.0)
    (subst (λ (z : ℕ). z < next) same b.1))

-- ---- how many events there are

-- how many events the passes below n have made
abbrev total : ℕ → History → ℕ
total zero log = 0
total (suc n) log = length (events_of n log) + total n log

total_none : (n : ℕ) → total n [] ≡ 0
total_none zero = refl
total_none (suc n) = let h = total_none n in let g : 0 + total n [] ≡ 0 = omega (arith, h) in g

total_past : (n : ℕ) (e : Event) (es : History) → n ≤ e.pass → total n (e ∷ es) ≡ total n es
total_past zero e es l = refl
total_past (suc n) e es l = let more = total_past n e es (omega (arith, l)) in
    let mine : length (events_of n (e ∷ es)) ≡ length (events_of n es) =
    ap (λ (t : Bool). length (cond t (e ∷ events_of n es) (events_of n es)))
    (ne_eqb e.pass n (λ f. omega (arith, f, l))) in
    let g : length (events_of n (e ∷ es)) + total n (e ∷ es) ≡ length (events_of n es) + total n
    es = omega (arith, more, mine) in g

total_more : (n : ℕ) (e : Event) (es : History) → e.pass < n → total n (e ∷ es) ≡ suc (total n es)
total_more zero e es l = absurd (omega (arith, l))
total_more (suc n) e es l = dite (ℕ_discrete e.pass n)
    (λ is. let more = total_past n e es (omega (arith, is)) in
    let mine : length (events_of n (e ∷ es)) ≡ suc (length (events_of n es)) =
    ap (λ (t : Bool). length (cond t (e ∷ events_of n es) (events_of n es)))
    (eq-eqb e.pass n is) in
    let g : length (events_of n (e ∷ es)) + total n (e ∷ es) ≡ suc
    (length (events_of n es) + total n es) = omega (arith, more, mine) in g)
    (λ other. let more = total_more n e es (omega (arith, l, other)) in
    let mine : length (events_of n (e ∷ es)) ≡ length (events_of n es) =
    ap (λ (t : Bool). length (cond t (e ∷ events_of n es) (events_of n es)))
    (ne_eqb e.pass n other) in
    let g : length (events_of n (e ∷ es)) + total n (e ∷ es) ≡ suc
    (length (events_of n es) + total n es) = omega (arith, more, mine) in g)

total_all : (n : ℕ) (log : History) → All (λ e. e.pass < n) log → total n log ≡ length log
total_all n [] all = total_none n
total_all n (e ∷ es) all = total_more n e es (All-head (λ x. x.pass < n) e es all)
    ∙ ap suc (total_all n es (All-tail (λ x. x.pass < n) e es all))

total_same : (n : ℕ) (log other : History) → ((p : ℕ) → events_of p other ≡ events_of p log)
    → total n other ≡ total n log
total_same zero log other same = refl
total_same (suc n) log other same = let mine : length (events_of n other) ≡ length
    (events_of n log) = ap (λ (l : History). length l) (same n) in let more =
    total_same n log other same in
    let g : length (events_of n other) + total n other ≡ length (events_of n log) + total n log =
    omega (arith, mine, more) in g

-- ---- two histories

begins : (log other : History) (vs us : List View) → Whole log vs → Seen vs us
    → ((j : ℕ) (w : View) → SeatAt us j w → IsPrefix w.seen other) → IsPrefix log other
begins log other vs us whole seen fits =
    ⊎_elim (λ (none : log ≡ []). subst (λ (l : History). IsPrefix l other) (sym none)
    (IsPrefix-nil other))
    (λ (t : (i : ℕ) × (v : View) × SeatAt vs i v × (v.seen ≡ log)). let w = seen t.0 t.1 t.2 in
    subst (λ (l : History). IsPrefix l other) (w.3 ∙ t.3) (fits w.0 w.1 w.2)) whole

module _ (rows passes : ℕ) (first : Format) where
  -- if seats have seen the same, the histories are one
  pub one_history : (m n : ℕ) (log other : History) (vs us : List View) → World rows passes first m
      log vs → World rows passes first n other us → Whole log vs → Whole other us → Seen vs us
      → Seen us vs → other ≡ log
  one_history m n log other vs us h k here there forth back = IsPrefix-both_ways other log
      (begins other log us vs there back (λ j w e. (h.fits j w e).seen))
      (begins log other vs us here forth (λ j w e. (k.fits j w e).seen))

  -- if passes have made the same events, both histories have these
  pub same_events : (m n : ℕ) (log other : History) (vs us : List View) → World rows passes first m
      log vs → World rows passes first n other us → Made vs us → Made us vs → (p : ℕ)
      → events_of p other ≡ events_of p log
  same_events m n log other vs us h k forth back p = dite (ℕ_discrete p 0)
      (λ zero. none_of n other p k.named (λ pos _. omega (arith, zero, pos))
      ∙ sym (none_of m log p h.named (λ pos _. omega (arith, zero, pos))))
      (λ pos. dite (dec_le m p)
      (λ past. none_of n other p k.named (λ some below. let t = k.seated p some below in let v =
      back t.0 t.1 t.2 (subst (λ (z : ℕ). 0 < z) (sym t.3) some) in
      let inside = (h.placed v.0 v.1 v.2).number in let is = v.3 in let same =
      t.3 in omega (arith, inside, is, same, past))
      ∙ sym (none_of m log p h.named (λ _ below. omega (arith, past, below))))
      (λ inside. let t = h.seated p (omega (arith, pos)) (omega (arith, inside)) in let w =
      forth t.0 t.1 t.2 (subst (λ (z : ℕ). 0 < z) (sym t.3) (omega (arith, pos))) in
      ap (λ (z : ℕ). events_of z other) (sym (w.3 ∙ t.3)) ∙ (k.fits w.0 w.1 w.2).own ∙ w.4
      ∙ sym (h.fits t.0 t.1 t.2).own ∙ ap (λ (z : ℕ). events_of z log) t.3))

  -- and so they are of one length
  pub same_length : (m n : ℕ) (log other : History) (vs us : List View) → World rows passes first m
      log vs → World rows passes first n other us → Made vs us → Made us vs → length other ≡ length
      log
  same_length m n log other vs us h k forth back =
      sym (total_all (m + n) other (λ i d l. let b = (k.named i d l).1 in omega (arith, b)))
      ∙ total_same (m + n) log other (same_events m n log other vs us h k forth back)
      ∙ total_all (m + n) log (λ i d l. let b = (h.named i d l).1 in omega (arith, b))

  -- a history that another begins, whose passes have made no other events than there, is that one
  pub no_more : (next : ℕ) (log less : History) (vs us : List View) → World rows passes first next
      log vs → Made vs us → ((j : ℕ) (w : View) → SeatAt us j w → events_of w.number less ≡ w.mine)
      → IsPrefix less log → log ≡ less
  no_more next log less vs us h made own b =
      ⊎_elim (λ (none : b.0 ≡ []). b.1 ∙ ap (λ (l : History). less ++ l) none ∙ append-nil less)
      (λ (t : (front : History) × (e : Event) × (b.0 ≡ front ++ e ∷ [])). absurd
      (too_many t.0 t.1
      (b.1 ∙ ap (λ (l : History). less ++ l) t.2 ∙ sym (append_assoc less t.0 (t.1 ∷ [])))))
      (last_of b.0)
    where
      too_many : (front : History) (e : Event) → log ≡ (less ++ front) ++ e ∷ [] → ⊥
      too_many front e whole = let longer : History = less ++ front in
          let n = last_named (λ x. (0 < x.pass) × (x.pass < next)) longer e
          (subst (λ (l : History). All (λ x. (0 < x.pass) × (x.pass < next)) l) whole h.named)
          in
          let t = h.seated e.pass n.0 n.1 in let w =
          made t.0 t.1 t.2 (subst (λ (z : ℕ). 0 < z) (sym t.3) n.0) in
          let all : events_of e.pass log ≡ t.1.mine = ap (λ (z : ℕ). events_of z log) (sym t.3)
          ∙ (h.fits t.0 t.1 t.2).own in
          let some : events_of e.pass less ≡ t.1.mine =
          ap (λ (z : ℕ). events_of z less) (sym (w.3 ∙ t.3)) ∙ own w.0 w.1 w.2 ∙ w.4 in
          let same : length (events_of e.pass log) ≡ length (events_of e.pass less) =
          ap length (all ∙ sym some) in
          let last : length (events_of e.pass log) ≡ length (events_of e.pass longer) + 1 =
          ap (λ (l : History). length (events_of e.pass l)) whole
          ∙ ap length (events_own e.pass longer e refl) ∙ length-append
          (events_of e.pass longer) (e ∷ []) in
          let more : length (events_of e.pass longer) ≡ length (events_of e.pass less) + length
          (events_of e.pass front) = ap length (events_of-append e.pass less front)
          ∙ length-append (events_of e.pass less) (events_of e.pass front) in
          omega (arith, same, last, more)

-- ---- one view changes

-- the pass and its own events stay, and it has seen more of the history, or some of it
pub record IsQuiet (log : History) (v w : View) : Type 0 where
  pub number : w.number ≡ v.number
  pub mine : w.mine ≡ v.mine
  pub seen : IsPrefix v.seen w.seen ⊎ IsPrefix w.seen log

pub made_there : (vs : List View) (id : ℕ) (v w : View) → SeatAt vs id v → w.number ≡ v.number
    → w.mine ≡ v.mine → Made vs (set vs id w)
made_there vs id v w at number mine i u e pos = dite (ℕ_discrete i id)
    (λ here. let is : v ≡ u = same_view vs id v u at (subst (λ (z : ℕ). SeatAt vs z u) here e) in (
      id,
      w,
      set_here vs id w (within vs id v at),
      number ∙ ap (λ (z : View). z.number) is,
      mine
          ∙ ap (λ (z : View). z.mine) is,
    ))
    (λ other. (i, u, set_else vs id i w other ∙ e, refl, refl))

made_back : (vs : List View) (id : ℕ) (v w : View) → SeatAt vs id v → w.number ≡ v.number
    → w.mine ≡ v.mine → Made (set vs id w) vs
made_back vs id v w at number mine =
    each_seat (λ i u. 0 < u.number → (j : ℕ) × (x : View) × SeatAt vs j x × (x.number ≡ u.number)
    × (x.mine ≡ u.mine)) vs id w
    (λ _. (id, v, at, sym number, sym mine)) (λ i u _ e _. (i, u, e, refl, refl))

-- one of the two histories begins the other
one_begins : (log other : History) (vs : List View) (id : ℕ) (v w : View) → Whole log vs
    → Whole other (set vs id w) → ((i : ℕ) (u : View) → SeatAt vs i u → IsPrefix u.seen log)
    → ((i : ℕ) (u : View) → SeatAt (set vs id w) i u → IsPrefix u.seen other)
    → SeatAt vs id v → IsQuiet log v w → IsPrefix log other ⊎ IsPrefix other log
one_begins log other vs id v w here there old new at quiet =
    ⊎_elim (λ (none : log ≡ []). inl
    (subst (λ (l : History). IsPrefix l other) (sym none) (IsPrefix-nil other)))
    (λ (t : (i : ℕ) × (u : View) × SeatAt vs i u × (u.seen ≡ log)). ⊎_elim
    (λ (none : other ≡ []). inr
    (subst (λ (l : History). IsPrefix l log) (sym none) (IsPrefix-nil log)))
    (λ (x : (j : ℕ) × (u : View) × SeatAt (set vs id w) j u × (u.seen ≡ other)). both t.0 t.1 t.2
    t.3 x.0 x.1 x.2 x.3) there) here
  where
    both : (i : ℕ) (u : View) → SeatAt vs i u → u.seen ≡ log → (j : ℕ) (x : View)
        → SeatAt (set vs id w) j x → x.seen ≡ other → IsPrefix log other ⊎ IsPrefix other log
    both i u e is j x f same = ⊎_elim
        (λ (c : (j ≡ id) × (w ≡ x)). let w_is : w.seen ≡ other = ap (λ (z : View). z.seen) c.1
        ∙ same in dite (ℕ_discrete i id)
        (λ here. let v_is : v.seen ≡ log =
        ap (λ (z : View). z.seen)
        (same_view vs id v u at (subst (λ (z : ℕ). SeatAt vs z u) here e)) ∙ is in
        ⊎_elim (λ (b : IsPrefix v.seen w.seen). inl
        (subst (λ (l : History). IsPrefix l other) v_is
        (subst (λ (l : History). IsPrefix v.seen l) w_is b)))
        (λ (b : IsPrefix w.seen log). inr (subst (λ (l : History). IsPrefix l log) w_is b))
        quiet.seen)
        (λ away. inl
        (subst (λ (l : History). IsPrefix l other) is (new i u (set_else vs id i w away ∙ e)))))
        (λ (c : (j ≢ id) × SeatAt vs j x). inr
        (subst (λ (l : History). IsPrefix l log) same (old j x c.1))) (at_set vs id j w x f)

module _ (rows passes : ℕ) (first : Format) where
  -- then the history stays
  pub set_stays : (m n : ℕ) (log other : History) (vs : List View) (id : ℕ) (v w : View)
      → World rows passes first m log vs → World rows passes first n other (set vs id w)
      → Whole log vs → Whole other (set vs id w) → SeatAt vs id v → IsQuiet log v w → other ≡ log
  set_stays m n log other vs id v w h k here there at quiet = ⊎_elim
      (λ (b : IsPrefix log other). no_more rows passes first n other log (set vs id w) vs k
      (made_back vs id v w at quiet.number quiet.mine) (λ j u e. (h.fits j u e).own) b)
      (λ (b : IsPrefix other log). sym
      (no_more rows passes first m log other vs (set vs id w) h
      (made_there vs id v w at quiet.number quiet.mine) (λ j u e. (k.fits j u e).own) b))
      (one_begins log other vs id v w here there (λ i u e. (h.fits i u e).seen)
      (λ i u e. (k.fits i u e).seen) at quiet)

  -- and so it does if a seat is added that has seen some of it
  pub add_stays : (m n : ℕ) (log other : History) (vs : List View) (id : ℕ) (v w x : View)
      → World rows passes first m log vs → World rows passes first n other (set vs id w ++ x ∷ [])
      → Whole other (set vs id w ++ x ∷ []) → SeatAt vs id v
      → w.number ≡ v.number → w.mine ≡ v.mine → w.seen ≡ v.seen → IsPrefix x.seen log → other ≡ log
  add_stays m n log other vs id v w x h k there at number mine seen new =
      sym (no_more rows passes first m log other vs (set vs id w ++ x ∷ []) h made
      (λ j u e. (k.fits j u e).own) less)
    where
      made : Made vs (set vs id w ++ x ∷ [])
      made i u e pos = let t = made_there vs id v w at number mine i u e pos in
          (t.0, t.1, at_longer (set vs id w) (x ∷ []) t.0 t.1 t.2, t.3, t.4)

      old : (i : ℕ) (u : View) → SeatAt (set vs id w) i u → IsPrefix u.seen log
      old = each_seat (λ i u. IsPrefix u.seen log) vs id w
          (subst (λ (l : History). IsPrefix l log) (sym seen) (h.fits id v at).seen)
          (λ i u _ e. (h.fits i u e).seen)

      less : IsPrefix other log
      less =
          ⊎_elim (λ (none : other ≡ []). subst (λ (l : History). IsPrefix l log) (sym none)
          (IsPrefix-nil log))
          (λ (t : (j : ℕ) × (u : View) × SeatAt (set vs id w ++ x ∷ []) j u × (u.seen ≡ other)).
          subst (λ (l : History). IsPrefix l log) t.3
          (⊎_elim (λ (e : SeatAt (set vs id w) t.0 t.1). old t.0 t.1 e)
          (λ (e : x ≡ t.1). subst (λ (z : View). IsPrefix z.seen log) e new)
          (at_snoc (set vs id w) x t.1 t.0 t.2))) there
