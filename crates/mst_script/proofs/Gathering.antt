-- A history that gathers the passes is the only one. After a turn of one pass it is what it was and
-- the events of that turn.
use Rattle.mst_script.proofs.Names.{◌≡◌, ℕ, ◌+◌, ◌≤◌, List, [], ◌∷◌, ◌++◌, length, get_or, sym, refl, ap, ◌∙◌, subst, arith, append-nil, length-append, cond, Bool, eq-eqb, ◌⊎◌, inl, inr, All, IsPermutation, All-nil, All-cons, All-head, All-tail, All-map, All-contains, IsPermutation-map, All-permutation, Contains-permutation, History, events_of, IsPrefix, IsPrefix-itself, Known, Looks, numbers, Gathers, SawItself, Turn, all_of_front, all_of_back}
use Rattle.std.specs.List.{AllByRecursion}
use Rattle.std.proofs.lemmas.List.Elements.{All-weaker}
use Rattle.mst_key.specs.declared.history.Event.{Event}
use Rattle.mst_key.proofs.HistoryLaws.{events_of-append, IsPrefix-nil, IsPrefix-chain, IsPrefix-compare}
use Rattle.mst_store.specs.Settling.{IsOfOne}

pub gathers_moved : (h : History) (ps qs : List Known) → IsPermutation ps qs → Gathers h ps
    → Gathers h qs
gathers_moved h ps qs moved g = record {
  later = All-permutation (λ (p : Known). IsPrefix p.seen h) ps qs moved g.later;
  own = All-permutation (λ (p : Known). events_of p.number h ≡ p.mine) ps qs moved g.own;
  alone = λ k d l. Contains-permutation (numbers ps) (numbers qs) (get_or h k d).pass
      (IsPermutation-map (λ (p : Known). p.number) ps qs moved) (g.alone k d l);
}

-- ---- events that nobody made

own_first : (j : ℕ) (e : Event) (es : History) → e.pass ≡ j → events_of j (e ∷ es) ≡ e ∷ events_of j
    es
own_first j e es is = ap (λ (b : Bool). cond b (e ∷ events_of j es) (events_of j es))
    (eq-eqb e.pass j is)

-- all events are of the pass
own_all : (j : ℕ) (t : History) → AllByRecursion (λ e. e.pass ≡ j) t → events_of j t ≡ t
own_all j [] a = refl
own_all j (e ∷ es) a = own_first j e es a.0 ∙ ap (λ (l : History). e ∷ l) (own_all j es a.1)

count_append : (j : ℕ) (g h : History) → length (events_of j (g ++ h)) ≡ length (events_of j g)
    + length (events_of j h)
count_append j g h = ap length (events_of-append j g h) ∙ length-append (events_of j g)
    (events_of j h)

-- the pass has no event in it
abbrev pub HasNone : History → ℕ → Type 0
HasNone r n = length (events_of n r) ≡ 0

pub nobody : (ps : List Known) (r : History) → All (IsOfOne ps) r → All (λ p. HasNone r p.number) ps
    → r ≡ []
nobody ps [] alone none = refl
nobody ps (e ∷ es) alone none =
    let zero_of : HasNone (e ∷ es) e.pass = All-contains (HasNone (e ∷ es)) (numbers ps) e.pass
    (All-map (HasNone (e ∷ es)) (λ (p : Known). p.number) ps none) (alone 0 e (omega arith)) in
    absurd (omega (arith, zero_of, ap length (own_first e.pass e es refl)))

-- a pass that has no more events than those before and those of the turn
counted : (g t r s h : History) (n : ℕ) (mine : History) → h ≡ ((g ++ r) ++ t) ++ s → events_of n h
    ≡ mine → length mine ≤ length (events_of n g) + length (events_of n t) →
    HasNone r n × HasNone s n
counted g t r s h n mine is own count =
    let a = ap (λ (l : History). length (events_of n l)) is in
    let b = count_append n ((g ++ r) ++ t) s in let c = count_append n (g ++ r) t in let e =
    count_append n g r in let o = ap length own in
    (omega (arith, a, b, c, e, o, count), omega (arith, a, b, c, e, o, count))

-- ---- only one history gathers them

-- a history that begins both, and with all that each pass has seen
abbrev pub Reaches : List Known → History → History → Type 0
Reaches ps g h = (s : History) × IsPrefix s g × IsPrefix s h × All (λ p. IsPrefix p.seen s) ps

more_seen : (p : Known) (ps : List Known) (g h : History) (r : Reaches ps g h) → IsPrefix p.seen g
    → IsPrefix p.seen h → IsPrefix p.seen r.0 ⊎ IsPrefix r.0 p.seen → Reaches (p ∷ ps) g h
more_seen p ps g h r a b (inl short) =
    (r.0, r.1, r.2, All-cons (λ (x : Known). IsPrefix x.seen r.0) p ps short r.3)
more_seen p ps g h r a b (inr long) = (
  p.seen,
  a,
  b,
  All-cons (λ (x : Known). IsPrefix x.seen p.seen) p ps (IsPrefix-itself p.seen)
      (All-weaker (λ (x : Known). IsPrefix x.seen r.0) (λ (x : Known). IsPrefix x.seen p.seen)
      (λ x c. IsPrefix-chain x.seen r.0 p.seen c long) ps r.3),
)

most_seen : (ps : List Known) (g h : History) → All (λ p. IsPrefix p.seen g) ps
    → All (λ p. IsPrefix p.seen h) ps → Reaches ps g h
most_seen [] g h a b =
    ([], IsPrefix-nil g, IsPrefix-nil h, All-nil (λ (p : Known). IsPrefix p.seen []))
most_seen (p ∷ ps) g h a b =
    let r = most_seen ps g h (All-tail (λ (x : Known). IsPrefix x.seen g) p ps a)
    (All-tail (λ (x : Known). IsPrefix x.seen h) p ps b) in
    let x = All-head (λ (x : Known). IsPrefix x.seen g) p ps a in
    more_seen p ps g h r x (All-head (λ (x : Known). IsPrefix x.seen h) p ps b)
    (IsPrefix-compare p.seen r.0 g x r.1)

-- a pass that has seen all its events has none after what it has seen
none_behind : (p : Known) (s h : History) → (b : IsPrefix s h) → IsPrefix p.seen s → SawItself p
    → events_of p.number h ≡ p.mine → HasNone b.0 p.number
none_behind p s h b c itself own =
    let x = ap (λ (l : History). length (events_of p.number l)) b.1 in let y =
    ap (λ (l : History). length (events_of p.number l)) c.1 in
    omega (
      arith,
      x,
      y,
      count_append p.number s b.0,
      count_append p.number p.seen c.0,
      ap length itself,
      ap length own,
    )

ends_there : (ps : List Known) (s h : History) → IsPrefix s h → All (λ p. IsPrefix p.seen s) ps
    → All SawItself ps → Gathers h ps → h ≡ s
ends_there ps s h b seen itself g =
    let none : All (λ p. HasNone b.0 p.number) ps = λ k d l. none_behind (get_or ps k d) s h b
    (seen k d l) (itself k d l) (g.own k d l) in
    b.1 ∙ ap (λ (l : History). s ++ l)
    (nobody ps b.0 (all_of_back (IsOfOne ps) s b.0 (subst (All (IsOfOne ps)) b.1 g.alone)) none)
    ∙ append-nil s

-- two histories that gather the same passes are one
pub one_history : (ps : List Known) (g h : History) → All SawItself ps → Gathers g ps → Gathers h ps
    → g ≡ h
one_history ps g h itself a b =
    let r = most_seen ps g h a.later b.later in
    ends_there ps r.0 g r.1 r.3 itself a ∙ sym (ends_there ps r.0 h r.2 r.3 itself b)

-- ---- one turn between

-- the pass looked, and did nothing more
pub looked : (p q : Known) → Looks p q → Turn q.seen [] p q
looked p q l = record {
  same = l.same;
  later = l.later;
  seen = sym (append-nil q.seen);
  mine =
      l.mine ∙ sym (append-nil p.mine);
  own = tt;
}

-- One pass had its turn, and then all settled: the turn began at the history that this pass and all
-- others had seen, and now there are that and the events of the turn.
pub turned : (os : List Known) (p q : Known) (g h log t : History) → Gathers g (p ∷ os) → p.seen ≡ g
    → Turn log t p q → Gathers h (q ∷ os) → (log ≡ g) × (h ≡ g ++ t)
turned os p q g h log t saw seen turn met =
    let own : events_of p.number g ≡ p.mine =
    All-head (λ (x : Known). events_of x.number g ≡ x.mine) p os saw.own in
    let r : History = turn.later.0 in
    let log_is : log ≡ g ++ r = turn.later.1 ∙ ap (λ (x : History). x ++ r) seen in
    let b : IsPrefix q.seen h = All-head (λ (x : Known). IsPrefix x.seen h) q os met.later in
    let s : History = b.0 in
    let h_is : h ≡ ((g ++ r) ++ t) ++ s =
    b.1 ∙ ap (λ (x : History). x ++ s) (turn.seen ∙ ap (λ (x : History). x ++ t) log_is) in
    let number : q.number ≡ p.number = turn.same.1 in
    let his : length (events_of q.number t) ≡ length t =
    ap (λ (n : ℕ). length (events_of n t)) number ∙ ap length (own_all p.number t turn.own) in
    let mine : length q.mine ≤ length (events_of q.number g) + length (events_of q.number t) =
    omega (
      arith,
      ap length turn.mine,
      length-append p.mine t,
      ap length own,
      ap (λ (n : ℕ). length (events_of n g)) number,
      his,
    ) in
    let rest : All (λ (x : Known). HasNone r x.number × HasNone s x.number) os =
    λ k e m. let x : Known = get_or os k e in
    counted g t r s h x.number x.mine h_is
    (All-tail (λ (y : Known). events_of y.number h ≡ y.mine) q os met.own k e m)
    (omega (
      arith,
      ap length (All-tail (λ (y : Known). events_of y.number g ≡ y.mine) p os saw.own k
          e m),
    )) in
    let none : All (λ (x : Known). HasNone r x.number × HasNone s x.number) (q ∷ os) =
    All-cons (λ (x : Known). HasNone r x.number × HasNone s x.number) q os
    (counted g t r s h q.number q.mine h_is
    (All-head (λ (x : Known). events_of x.number h ≡ x.mine) q os met.own) mine) rest in
    let ps : List Known = q ∷ os in
    let alone : All (IsOfOne ps) (((g ++ r) ++ t) ++ s) = subst (All (IsOfOne ps)) h_is met.alone in
    let r_none : r ≡ [] =
    nobody ps r (all_of_back (IsOfOne ps) g r
    (all_of_front (IsOfOne ps) (g ++ r) t (all_of_front (IsOfOne ps) ((g ++ r) ++ t) s alone)))
    (λ k e m. (none k e m).0) in
    let s_none : s ≡ [] = nobody ps s (all_of_back (IsOfOne ps) ((g ++ r) ++ t) s alone)
    (λ k e m. (none k e m).1) in (
      log_is ∙ ap (λ (x : History). g ++ x) r_none ∙ append-nil g,
      h_is ∙ ap (λ (x : History). ((g ++ r) ++ t) ++ x) s_none ∙ append-nil ((g ++ r) ++ t)
          ∙ ap (λ (x : History). (g ++ x) ++ t) r_none ∙ ap (λ (x : History). x ++ t)
          (append-nil g),
    )
