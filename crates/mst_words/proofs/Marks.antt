-- The parts Clear and Counts of the rule hold on where one view or one word changes.
use Rattle.mst_words.proofs.Names.{◌≡◌, ℕ, suc, ◌+◌, ◌<◌, ◌≤◌, ◌≢◌, ◌⊎◌, inl, inr, true, false, eqb, ne_eqb, List, [], ◌∷◌, Option, Some, None, length, set, sym, refl, ap, ◌∙◌, subst, ⊎_elim, arith, AllByRecursion, same_Some, none-some, dite, ℕ_discrete, set_here, set_else, In, any_times, View, SeatAt, pin_bit, Clear, Blamed, Counts}
use Rattle.std.specs.List.{IsDistinct}
use Rattle.std.proofs.lemmas.Map.Steps.{length-le_from_distinct_below}
use Rattle.mst_words.proofs.Members.{in_nothing, in_first, in_later, in_cases}
use Rattle.mst_words.proofs.Seats.{each_seat, same_view}
use Rattle.mst_words.proofs.Worlds.{within}

-- where a seat of a number and a pin stood, one still stands, if the changed view keeps both
seat_stays : (vs : List View) (id : ℕ) (v w : View) → SeatAt vs id v → w.number ≡ v.number
    → w.pin ≡ v.pin → (n : ℕ) (p : Option ℕ)
    → ((i : ℕ) × (u : View) × (SeatAt vs i u) × (u.number ≡ n) × (u.pin ≡ p))
    → (i : ℕ) × (u : View) × (SeatAt (set vs id w) i u) × (u.number ≡ n) × (u.pin ≡ p)
seat_stays vs id v w at number pin n p (i, u, e, is, pins) = dite (ℕ_discrete i id)
    (λ same. let v_is = same_view vs id v u at (subst (λ (z : ℕ). SeatAt vs z u) same e) in (
      id,
      w,
      set_here vs id w (within vs id v at),
      number ∙ ap (λ (z : View). z.number) v_is
          ∙ is,
      pin ∙ ap (λ (z : View). z.pin) v_is ∙ pins,
    ))
    (λ not. (i, u, set_else vs id i w not ∙ e, is, pins))

-- the same for a seat that is not the one that changes
seat_else : (vs : List View) (id : ℕ) (v w : View) → SeatAt vs id v → (n : ℕ) (p : Option ℕ)
    → ((v.number ≡ n) → (v.pin ≡ p) → ⊥)
    → ((i : ℕ) × (u : View) × (SeatAt vs i u) × (u.number ≡ n) × (u.pin ≡ p))
    → (i : ℕ) × (u : View) × (SeatAt (set vs id w) i u) × (u.number ≡ n) × (u.pin ≡ p)
seat_else vs id v w at n p other (i, u, e, is, pins) = dite (ℕ_discrete i id)
    (λ same. let v_is = same_view vs id v u at (subst (λ (z : ℕ). SeatAt vs z u) same e) in
    absurd (other (ap (λ (z : View). z.number) v_is ∙ is)
    (ap (λ (z : View). z.pin) v_is ∙ pins)))
    (λ not. (i, u, set_else vs id i w not ∙ e, is, pins))

-- ---- Clear

module _ (N : ℕ) (beside beside' : ℕ → ℕ) (ws ws' : List ℕ) (vs : List View) (id : ℕ) (v w : View)
    (q : Clear N beside ws vs) (at : SeatAt vs id v) where
  pub clear_same : ((r k : ℕ) → r < N + 2 → pin_bit beside' ws' r k ≡ pin_bit beside ws r k)
      → w.number ≡ v.number → w.pin ≡ v.pin → Clear N beside' ws' (set vs id w)
  clear_same bits number pin =
      record {
        seat_of = λ r k l e. seat_stays vs id v w at number pin (k + 1) (Some r)
            (q.seat_of r k l (sym (bits r k l) ∙ e));
      }

  -- one bit is set, or cleared, and its seat pins, or not
  pub clear_set : (o b : ℕ)
      → ((r k : ℕ) → r < N + 2 → k ≢ b → pin_bit beside' ws' r k ≡ pin_bit beside ws r k)
      → ((r k : ℕ) → r < N + 2 → r ≢ o → pin_bit beside' ws' r k ≡ pin_bit beside ws r k)
      → v.number ≡ b + 1 → w.number ≡ v.number → ((r : ℕ) → v.pin ≡ Some r → r ≡ o)
      → (w.pin ≡ Some o) ⊎ (pin_bit beside' ws' o b ≡ 0) → Clear N beside' ws' (set vs id w)
  clear_set o b others elsewhere is number pin turned = record {
    seat_of = λ r k l e. dite (ℕ_discrete k b)
        (λ same. dite (ℕ_discrete r o)
        (λ here. ⊎_elim
        (λ (now : w.pin ≡ Some o). (
          id,
          w,
          set_here vs id w (within vs id v at),
          number ∙ is
              ∙ ap (λ (z : ℕ). z + 1) (sym same),
          now ∙ ap (λ (z : ℕ). Some z) (sym here),
        ))
        (λ (zero_there : pin_bit beside' ws' o b ≡ 0). absurd
        (let c : 1 ≡ 0 = sym e ∙ ap (λ (z : ℕ). pin_bit beside' ws' z k) here
        ∙ ap (pin_bit beside' ws' o) same ∙ zero_there in omega arith)) turned)
        (λ not. seat_else vs id v w at (k + 1) (Some r) (λ _ f. not (pin r f))
        (q.seat_of r k l (sym (elsewhere r k l not) ∙ e))))
        (λ not. seat_else vs id v w at (k + 1) (Some r)
        (λ f _. not (let g : b + 1 ≡ k + 1 = sym is ∙ f in omega arith))
        (q.seat_of r k l (sym (others r k l not) ∙ e)));
  }

-- ---- Counts

pub blamed_keep : (n self cur : ℕ) (vs : List View) (id : ℕ) (v w : View) → SeatAt vs id v
    → w.number ≡ v.number → (w.pin ≡ v.pin) ⊎ ((w.pin ≡ None) ⊎ (w.pin ≡ Some cur))
    → (ps rs : List ℕ) → Blamed n self cur vs ps rs → Blamed n self cur (set vs id w) ps rs
blamed_keep n self cur vs id v w at number pin [] [] h = tt
blamed_keep n self cur vs id v w at number pin [] (r ∷ rs) h = absurd h
blamed_keep n self cur vs id v w at number pin (p ∷ ps) [] h = absurd h
blamed_keep n self cur vs id v w at number pin (p ∷ ps) (r ∷ rs) h = (
  h.0,
  h.1,
  h.2,
  h.3,
  each_seat (λ i u. u.number ≡ p → (u.pin ≡ Some r) ⊎ ((u.pin ≡ None) ⊎ (u.pin ≡ Some cur))) vs id w
      (λ is. ⊎_elim
      (λ (same : w.pin ≡ v.pin). subst
      (λ (z : Option ℕ). (z ≡ Some r) ⊎ ((z ≡ None) ⊎ (z ≡ Some cur))) (sym same)
      (h.4 id v at (sym number ∙ is))) (λ (t : (w.pin ≡ None) ⊎ (w.pin ≡ Some cur)). inr t) pin)
      (λ i u _ e. h.4 i u e),
  blamed_keep n self cur vs id v w at number pin ps rs h.5,
)

pub counts_set : (n cur : ℕ) (vs : List View) (id : ℕ) (v w : View) → Counts n cur vs
    → SeatAt vs id v → w.number ≡ v.number → (w.pin ≡ v.pin) ⊎ ((w.pin ≡ None) ⊎ (w.pin ≡ Some cur))
    → (w.turn ≡ true → (by : List ℕ) × Blamed n w.number cur (set vs id w) by w.blocked)
    → Counts n cur (set vs id w)
counts_set n cur vs id v w q at number pin mine = record {
  blamed =
      each_seat (λ i u. u.turn ≡ true → (by : List ℕ) × Blamed n u.number cur (set vs id w)
      by u.blocked) vs id w mine
      (λ i u _ e on. let b = q.blamed i u e on in
      (b.0, blamed_keep n u.number cur vs id v w at number pin b.0 u.blocked b.1));
}

-- the view keeps what it knows
pub counts_same : (n cur : ℕ) (vs : List View) (id : ℕ) (v w : View) → Counts n cur vs
    → SeatAt vs id v → w.number ≡ v.number → (w.pin ≡ v.pin) ⊎ ((w.pin ≡ None) ⊎ (w.pin ≡ Some cur))
    → w.turn ≡ v.turn → w.blocked ≡ v.blocked → Counts n cur (set vs id w)
counts_same n cur vs id v w q at number pin turn blocked =
    counts_set n cur vs id v w q at number pin
    (λ on. let b = q.blamed id v at (sym turn ∙ on) in (
      b.0,
      blamed_keep n w.number cur vs id v w at number pin b.0 w.blocked
          (subst (λ (z : ℕ). Blamed n z cur vs b.0 w.blocked) (sym number)
          (subst (Blamed n v.number cur vs b.0) (sym blocked) b.1)),
    ))

-- only the holder has such knowledge, and it has none now
pub counts_none : (n cur cur' : ℕ) (vs : List View) (id : ℕ) (w : View) → w.blocked ≡ []
    → ((i : ℕ) (u : View) → SeatAt vs i u → u.turn ≡ true → i ≡ id) → Counts n cur' (set vs id w)
counts_none n cur cur' vs id w nothing only = record {
  blamed =
      each_seat (λ i u. u.turn ≡ true → (by : List ℕ) × Blamed n u.number cur' (set vs id w)
      by u.blocked) vs id w
      (λ _. ([], subst (Blamed n w.number cur' (set vs id w) []) (sym nothing) tt))
      (λ i u away e on. absurd (away (only i u e on)));
}

-- a pass that pins another record than any that was found pinned is not blamed yet
not_blamed : (n self cur : ℕ) (vs : List View) (i : ℕ) (u : View) (r : ℕ) → SeatAt vs i u
    → u.pin ≡ Some r → r ≢ cur → (ps rs : List ℕ) → Blamed n self cur vs ps rs → (In r rs → ⊥)
    → In u.number ps → ⊥
not_blamed n self cur vs i u r e pins other [] rs h new within = in_nothing u.number within
not_blamed n self cur vs i u r e pins other (p ∷ ps) [] h new within = h
not_blamed n self cur vs i u r e pins other (p ∷ ps) (x ∷ rs) h new within = ⊎_elim
    (λ (is : u.number ≡ p). ⊎_elim
    (λ (t : u.pin ≡ Some x). new (in_first r x rs (same_Some r x (sym pins ∙ t))))
    (λ (t : (u.pin ≡ None) ⊎ (u.pin ≡ Some cur)). ⊎_elim
    (λ (z : u.pin ≡ None). none-some r (sym z ∙ pins))
    (λ (z : u.pin ≡ Some cur). other (same_Some r cur (sym pins ∙ z))) t) (h.4 i u e is))
    (λ (t : In u.number ps). not_blamed n self cur vs i u r e pins other ps rs h.5
    (λ b. new (in_later r x rs b)) t) (in_cases u.number p ps within)

-- one record more is found pinned
pub blamed_more : (n self cur : ℕ) (vs : List View) (i : ℕ) (u : View) (r : ℕ) → SeatAt vs i u
    → u.pin ≡ Some r → r ≢ cur → 0 < u.number → u.number < n + 1 → u.number ≢ self
    → ((j : ℕ) (x : View) → SeatAt vs j x → x.number ≡ u.number → j ≡ i)
    → (ps rs : List ℕ) → Blamed n self cur vs ps rs → (In r rs → ⊥) → Blamed n self cur vs
    (u.number ∷ ps) (r ∷ rs)
blamed_more n self cur vs i u r e pins other some_pass small not_self apart ps rs h new = (
  some_pass,
  small,
  not_self,
  not_blamed n self cur vs i u r e pins other ps rs h new,
  (λ j x f is. inl
      (ap (λ (z : View). z.pin)
      (same_view vs i x u (subst (λ (z : ℕ). SeatAt vs z x) (apart j x f is) f) e) ∙ pins)),
  h,
)

-- the passes blamed are distinct and there are 32 at most, so as many records
none_of : (x : ℕ) (ps : List ℕ) → (In x ps → ⊥) → AllByRecursion (λ y. eqb x y ≡ false) ps
none_of x [] not = tt
none_of x (p ∷ ps) not =
    (ne_eqb x p (λ is. not (in_first x p ps is)), none_of x ps (λ b. not (in_later x p ps b)))

blamed_distinct : (n self cur : ℕ) (vs : List View) (ps rs : List ℕ) → Blamed n self cur vs ps rs
    → IsDistinct eqb ps × ((p : ℕ) → In p ps → (0 < p) × (p < n + 1) × (p ≢ self))
    × (length ps ≡ length rs)
unfolding IsDistinct
blamed_distinct n self cur vs [] [] h = (tt, (λ p within. absurd (in_nothing p within)), refl)
blamed_distinct n self cur vs [] (r ∷ rs) h = absurd h
blamed_distinct n self cur vs (p ∷ ps) [] h = absurd h
blamed_distinct n self cur vs (p ∷ ps) (r ∷ rs) h = let t = blamed_distinct n self cur vs ps rs h.5
    in (
      (none_of p ps h.3, t.0),
      (λ x within. ⊎_elim (λ (is : x ≡ p). subst (λ (z : ℕ). (0 < z) × (z < n + 1) × (z ≢ self))
          (sym is) (h.0, h.1, h.2)) (λ (b : In x ps). t.1 x b) (in_cases x p ps within)),
      ap (λ (z : ℕ). suc z) t.2,
    )

-- with the holder and the dealer they are numbers up to n
pub blamed_few : (n self cur : ℕ) (vs : List View) (ps rs : List ℕ) → 0 < self → self < n + 1
    → Blamed n self cur vs ps rs → length rs < n
unfolding IsDistinct
blamed_few n self cur vs ps rs some_pass small h = let t = blamed_distinct n self cur vs ps rs h in
    let m = length-le_from_distinct_below (0 ∷ self ∷ ps) (n + 1) (
      none_of 0 (self ∷ ps)
          (λ within. ⊎_elim (λ (is : 0 ≡ self). absurd (let l = some_pass in omega arith))
          (λ (b : In 0 ps). let l = (t.1 0 b).0 in omega arith) (in_cases 0 self ps within)),
      (none_of self ps (λ within. (t.1 self within).2 refl), t.0),
    )
    (λ p e. ⊎_elim (λ (is : p ≡ 0). omega arith)
    (λ (b : In p (self ∷ ps)). ⊎_elim (λ (is : p ≡ self). omega arith)
    (λ (b : In p ps). (t.1 p b).1) (in_cases p self ps b))
    (in_cases p 0 (self ∷ ps) (any_times p (0 ∷ self ∷ ps) e))) in
    let l : suc (suc (length ps)) ≤ n + 1 = m in let same = t.2 in omega arith
