-- The calls of one pass, one after another: what it sees only grows, and each of its events in the
-- history is that of exactly one of its writes.
use Rattle.mst_theorem.proofs.Names.{◌≡◌, ◌≢◌, ℕ, suc, ◌+◌, ◌<◌, ◌≤◌, ◌==◌, List, [], ◌∷◌, ◌++◌, length, refl, sym, ap, ◌∙◌, subst, arith, eq-eqb, ne_eqb, append-nil, append_assoc, length-append, AllByRecursion, append_cancel_left, dite, ℕ_discrete, Event, History, Reply, events_of, IsPrefix, IsPrefix-itself, IsPrefix-chain, events_own, StoreId, Known, made_by, new_pass, Operation, wrote, read, Call, Stays, Adds, IsHonest, Leads, rank, reach, NeverFalls}
use Rattle.std.proofs.lemmas.List.{append_cancel_right}
use Rattle.mst_key.proofs.HistoryLaws.{events_of-append}
use Rattle.mst_theorem.proofs.Filters.{weaker, take_in, leave_out}
use Rattle.mst_theorem.proofs.Spread.{of_rank, none_of_rank}

-- the pass n of the store, whose events in what it has seen are its own
pub record IsOwn (store : StoreId) (n : ℕ) (p : Known) : Type 0 where
  pub store_is : p.store ≡ store
  pub number_is : p.number ≡ n
  pub own : events_of n p.seen ≡ p.mine

pub own_new : (store : StoreId) (n : ℕ) → IsOwn store n (new_pass store n)
own_new store n = record { store_is = refl; number_is = refl; own = refl }

own_stays : (store : StoreId) (n : ℕ) (p q : Known) → Stays p q → IsOwn store n p
    → IsOwn store n q
own_stays store n p q s w = record {
  store_is = s.store ∙ w.store_is;
  number_is = s.number ∙ w.number_is;
  own = subst (λ (k : ℕ). events_of k q.seen ≡ q.mine) (s.number ∙ w.number_is)
      (s.own (subst (λ (k : ℕ). events_of k p.seen ≡ p.mine) (sym w.number_is) w.own));
}

own_adds : (store : StoreId) (n : ℕ) (e : Event) (answered : Reply) (p q : Known)
    → Adds e answered p q → IsOwn store n p → IsOwn store n q
own_adds store n e answered p q a w = record {
  store_is = a.store ∙ w.store_is;
  number_is = a.number ∙ w.number_is;
  own = subst (λ (k : ℕ). events_of k q.seen ≡ q.mine) (a.number ∙ w.number_is)
      (a.own (subst (λ (k : ℕ). events_of k p.seen ≡ p.mine) (sym w.number_is) w.own));
}

pub own_goes : (store : StoreId) (n : ℕ) (o : Operation) (p q : Known) → IsHonest o p q
    → IsOwn store n p → IsOwn store n q
own_goes store n (wrote change answered) p q g w =
    own_adds store n (made_by p change) answered p q g w
own_goes store n (read reading) p q g w = own_stays store n p q g.0 w

-- ---- what it sees grows

pub shorter : (g h : History) → IsPrefix g h → length g ≤ length h
shorter g h b = let long : length h ≡ length g + length b.0 = ap length b.1 ∙ length-append g b.0 in
    omega (arith, long)

pub goes_later : (o : Operation) (p q : Known) → IsHonest o p q → IsPrefix p.seen q.seen
goes_later (wrote change answered) p q g =
    IsPrefix-chain p.seen g.log q.seen g.later (made_by p change ∷ [], g.seen)
goes_later (read reading) p q g = g.0.later

-- a write has seen one event more, and any other call at least as much
goes_further : (o : Operation) (p q : Known) → IsHonest o p q
    → length p.seen + length p.seen < reach o (length q.seen)
goes_further (wrote change answered) p q g = let before = shorter p.seen g.log g.later in
    let long : length q.seen ≡ length g.log + 1 =
    ap length g.seen ∙ length-append g.log (made_by p change ∷ []) in
    omega (arith, before, long)
goes_further (read reading) p q g = let before = shorter p.seen q.seen g.0.later in
    omega (arith, before)

reach_top : (o : Operation) (n : ℕ) → reach o n ≤ n + n + 1
reach_top (wrote change answered) n = omega arith
reach_top (read reading) n = omega arith

-- the first call of a chain goes from where the chain begins
first_goes : (p : Known) (c : Call) (cs : List Call) (q : Known) → Leads p (c ∷ cs) q
    → IsHonest c.operation p c.new
first_goes p c cs q h = subst (λ (z : Known). IsHonest c.operation z c.new) h.0
    h.1

pub leads_later : (p : Known) (cs : List Call) (q : Known) → Leads p cs q
    → IsPrefix p.seen q.seen
leads_later p [] q h = subst (λ (z : Known). IsPrefix p.seen z.seen) (sym h)
    (IsPrefix-itself p.seen)
leads_later p (c ∷ cs) q h = IsPrefix-chain p.seen c.new.seen q.seen
    (goes_later c.operation p c.new (first_goes p c cs q h)) (leads_later c.new cs q h.2)

pub leads_own : (store : StoreId) (n : ℕ) (p : Known) (cs : List Call) (q : Known) → Leads p cs q
    → IsOwn store n p → IsOwn store n q
leads_own store n p [] q h w = subst (λ (z : Known). IsOwn store n z) (sym h) w
leads_own store n p (c ∷ cs) q h w = leads_own store n c.new cs q h.2
    (own_goes store n c.operation p c.new (first_goes p c cs q h) w)

pub leads_further : (p : Known) (cs : List Call) (q : Known) → Leads p cs q
    → AllByRecursion (λ c. length p.seen + length p.seen < rank c) cs
leads_further p [] q h = tt
leads_further p (c ∷ cs) q h = let g = first_goes p c cs q h in
    let more = shorter p.seen c.new.seen (goes_later c.operation p c.new g) in (
      goes_further c.operation p c.new g,
      weaker (λ (d : Call). length c.new.seen + length c.new.seen < rank d)
          (λ (d : Call). length p.seen + length p.seen < rank d) (λ d l. omega (arith, l, more)) cs
          (leads_further c.new cs q h.2),
    )

pub leads_rises : (p : Known) (cs : List Call) (q : Known) → Leads p cs q → NeverFalls cs
leads_rises p [] q h = tt
leads_rises p (c ∷ cs) q h = let top = reach_top c.operation (length c.new.seen) in (
  weaker (λ (d : Call). length c.new.seen + length c.new.seen < rank d)
      (λ (d : Call). rank c ≤ rank d) (λ d l. omega (arith, l, top)) cs
      (leads_further c.new cs q h.2),
  leads_rises c.new cs q h.2,
)

-- a call that began when its pass had seen as many events as another's pass when that one ended has
-- seen as far as that one
pub heard_after : (o : Operation) (p q : Known) → IsHonest o p q → (a : Call)
    → length a.new.seen ≤ length p.seen → rank a ≤ reach o (length q.seen)
heard_after o p q g a heard = let far = goes_further o p q g in
    let top = reach_top a.operation (length a.new.seen) in omega (arith, heard, far, top)

-- ---- its events

-- each event of the pass n in h, which comes after g, is that of exactly one write among the calls
abbrev pub EachOwn : ℕ → History → History → List Call → Type 0
EachOwn n g [] cs = Unit {0}
EachOwn n g (e ∷ h) cs =
    (e.pass ≡ n → (w : Call) × (of_rank (suc (suc (length g + length g))) cs ≡ w ∷ []))
    × EachOwn n (g ++ e ∷ []) h cs

not_own : (n : ℕ) (e : Event) (h : History) → events_of n (e ∷ h) ≡ []
    → (e.pass ≡ n → ⊥) × (events_of n h ≡ [])
not_own n e h none = dite (ℕ_discrete e.pass n)
    (λ (is : e.pass ≡ n). absurd (some is))
    (λ (other : e.pass ≢ n). (
      other,
      sym (leave_out (λ (x : Event). x.pass == n) e h (ne_eqb e.pass n other)) ∙ none,
    ))
  where
    some : e.pass ≡ n → ⊥
    some is = let long : suc (length (events_of n h)) ≡ 0 =
        ap length
        (sym (take_in (λ (x : Event). x.pass == n) e h (eq-eqb e.pass n is)) ∙ none) in
        omega (arith, long)

none_own : (n : ℕ) (g h : History) (cs : List Call) → events_of n h ≡ [] → EachOwn n g h cs
none_own n g [] cs none = tt
none_own n g (e ∷ h) cs none = let not = not_own n e h none in
    ((λ is. absurd (not.0 is)), none_own n (g ++ e ∷ []) h cs not.1)

-- events of others between
over : (n : ℕ) (g m h : History) (cs : List Call) → events_of n m ≡ []
    → EachOwn n (g ++ m) h cs → EachOwn n g (m ++ h) cs
over n g [] h cs none x = subst (λ (l : History). EachOwn n l h cs) (append-nil g) x
over n g (e ∷ m) h cs none x = let not = not_own n e m none in (
  (λ is. absurd (not.0 is)),
  over n (g ++ e ∷ []) m h cs not.1
      (subst (λ (l : History). EachOwn n l h cs) (sym (append_assoc g (e ∷ []) m)) x),
)

-- a call that is no write from here on
skip : (n : ℕ) (c : Call) (cs : List Call) (g h : History)
    → ((k : ℕ) → length g ≤ k → rank c ≢ suc (suc (k + k))) → EachOwn n g h cs
    → EachOwn n g h (c ∷ cs)
skip n c cs g [] not x = tt
skip n c cs g (e ∷ h) not x = (
  (λ is. let one = x.0 is in (
    one.0,
    leave_out (λ (d : Call). rank d == suc (suc (length g + length g))) c cs
        (ne_eqb (rank c) (suc (suc (length g + length g))) (not (length g) (omega arith)))
        ∙ one.1,
  )),
  skip n c cs (g ++ e ∷ []) h
      (λ k low. let long : length (g ++ e ∷ []) ≡ length g + 1 = length-append g (e ∷ []) in
      not k (omega (arith, low, long)))
      x.1,
)

-- what is between has no events of the pass, where it has the same at both ends
none_between : (n : ℕ) (g m : History) (mine : History) → events_of n (g ++ m) ≡ mine
    → events_of n g ≡ mine → events_of n m ≡ []
none_between n g m mine high low = append_cancel_left (events_of n g) (events_of n m) []
    (sym (events_of-append n g m) ∙ high ∙ sym low ∙ sym (append-nil (events_of n g)))

-- one call, before others
step : (store : StoreId) (n : ℕ) (o : Operation) (c : Call) (cs : List Call) (g h : History)
    → c.operation ≡ o → IsHonest o c.old c.new → IsOwn store n c.old → c.old.seen ≡ g
    → AllByRecursion (λ d. length c.new.seen + length c.new.seen < rank d) cs
    → (more : IsPrefix c.new.seen (g ++ h)) → EachOwn n c.new.seen more.0 cs
    → EachOwn n g h (c ∷ cs)
step store n (read reading) c cs g h is went own seen later more rest = let s = went.0 in
    let m : History = s.later.0 in
    let begins : c.new.seen ≡ g ++ m = s.later.1 ∙ ap (λ (l : History). l ++ m) seen in
    let whole : h ≡ m ++ more.0 =
    append_cancel_left g h (m ++ more.0)
    (more.1 ∙ ap (λ (l : History). l ++ more.0) begins ∙ append_assoc g m more.0) in
    let high : events_of n (g ++ m) ≡ c.old.mine = ap (events_of n) (sym begins)
    ∙ (own_stays store n c.old c.new s own).own ∙ s.mine in
    let low : events_of n g ≡ c.old.mine = ap (events_of n) (sym seen) ∙ own.own in
    let none : events_of n m ≡ [] = none_between n g m c.old.mine high low in
    let odd : rank c ≡ length c.new.seen + length c.new.seen + 1 =
    ap (λ (z : Operation). reach z (length c.new.seen)) is in
    subst (λ (l : History). EachOwn n g l (c ∷ cs)) (sym whole)
    (over n g m more.0 (c ∷ cs) none
    (skip n c cs (g ++ m) more.0 (λ k _ same. omega (arith, odd, same))
    (subst (λ (l : History). EachOwn n l more.0 cs) begins rest)))
step store n (wrote change answered) c cs g h is a own seen later more rest =
    let e : Event = made_by c.old change in
    let m : History = a.later.0 in
    let before : a.log ≡ g ++ m = a.later.1 ∙ ap (λ (l : History). l ++ m) seen in
    let begins : c.new.seen ≡ (g ++ m) ++ e ∷ [] =
    a.seen ∙ ap (λ (l : History). l ++ e ∷ []) before in
    let whole : h ≡ m ++ (e ∷ more.0) =
    append_cancel_left g h (m ++ (e ∷ more.0))
    (more.1 ∙ ap (λ (l : History). l ++ more.0) begins
    ∙ append_assoc (g ++ m) (e ∷ []) more.0
    ∙ append_assoc g m (e ∷ more.0)) in
    let now : events_of n ((g ++ m) ++ e ∷ []) ≡ c.old.mine ++ e ∷ [] =
    ap (events_of n) (sym begins)
    ∙ (own_adds store n e answered c.old c.new a own).own ∙ a.mine in
    let high : events_of n (g ++ m) ≡ c.old.mine =
    append_cancel_right (events_of n (g ++ m)) c.old.mine (e ∷ [])
    (sym (events_own n (g ++ m) e own.number_is) ∙ now) in
    let low : events_of n g ≡ c.old.mine = ap (events_of n) (sym seen) ∙ own.own in
    let none : events_of n m ≡ [] = none_between n g m c.old.mine high low in
    let even : rank c ≡ length c.new.seen + length c.new.seen =
    ap (λ (z : Operation). reach z (length c.new.seen)) is in
    let long : length c.new.seen ≡ length (g ++ m) + 1 =
    ap length begins ∙ length-append (g ++ m) (e ∷ []) in
    let place : ℕ = suc (suc (length (g ++ m) + length (g ++ m))) in
    let here : rank c ≡ place = omega (arith, even, long) in
    let one : of_rank place (c ∷ cs) ≡ c ∷ [] =
    take_in (λ (d : Call). rank d == place) c cs (eq-eqb (rank c) place here)
    ∙ ap (λ (l : List Call). c ∷ l)
    (none_of_rank place cs
    (weaker (λ (d : Call). length c.new.seen + length c.new.seen < rank d)
    (λ (d : Call). place < rank d) (λ d l. omega (arith, l, long)) cs later)) in
    subst (λ (l : History). EachOwn n g l (c ∷ cs)) (sym whole)
    (over n g m (e ∷ more.0) (c ∷ cs) none (
      (λ _. (c, one)),
      skip n c cs ((g ++ m) ++ e ∷ []) more.0
          (λ k low same. let longer : length ((g ++ m) ++ e ∷ []) ≡ length (g ++ m) + 1 =
          length-append (g ++ m) (e ∷ []) in omega (arith, here, longer, low, same))
          (subst (λ (l : History). EachOwn n l more.0 cs) begins rest),
    ))

pub each_own : (store : StoreId) (n : ℕ) (cs : List Call) (g h : History) (p q : Known)
    → Leads p cs q → IsOwn store n p → p.seen ≡ g → IsPrefix q.seen (g ++ h)
    → events_of n (g ++ h) ≡ q.mine → EachOwn n g h cs
each_own store n [] g h p q leads own seen begins all =
    none_own n g h []
    (none_between n g h p.mine (all ∙ ap (λ (z : Known). z.mine) leads)
    (ap (events_of n) (sym seen) ∙ own.own))
each_own store n (c ∷ cs) g h p q leads own seen begins all =
    let old : IsOwn store n c.old = subst (λ (z : Known). IsOwn store n z) (sym leads.0) own in
    let went : IsHonest c.operation c.old c.new = leads.1 in
    let new : IsOwn store n c.new = own_goes store n c.operation c.old c.new went old in
    let more : IsPrefix c.new.seen (g ++ h) =
    IsPrefix-chain c.new.seen q.seen (g ++ h) (leads_later c.new cs q leads.2) begins in
    let same : g ++ h ≡ c.new.seen ++ more.0 = more.1 in
    step store n c.operation c cs g h refl went old (ap (λ (z : Known). z.seen) leads.0 ∙ seen)
    (leads_further c.new cs q leads.2) more
    (each_own store n cs c.new.seen more.0 c.new q leads.2 new refl
    (subst (λ (l : History). IsPrefix q.seen l) same begins)
    (ap (events_of n) (sym same) ∙ all))
