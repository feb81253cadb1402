-- A record is drained exactly if each pin of it has ended.
use Rattle.mst_pin.proofs.Names.{◌≡◌, ◌≢◌, ◌⊎◌, inl, inr, ⊎_elim, ◌↔◌, ℕ, List, [], ◌∷◌, None, Some, sym, ap, ◌∙◌, subst, is_some, dite, ℕ_discrete, Event, Pin, Unpin, Write, Publish, Transfer, Ask, Answer, Record, Yes, No, KeepsPin, State, opening, after, IsTaken, Steps, Runs}
use Rattle.mst_pin.specs.Laws.{HasPinOf}
use Rattle.mst_pin.specs.State.{Answers}
use Rattle.mst_pin.proofs.Asks.{drained_at_yes, pinned_at_no, one_or_other}
use Rattle.mst_pin.proofs.Masks.{with_here, with_else}
use Rattle.mst_pin.proofs.Pinned.{since_pin}

-- the pass pins the record since before these events, or by one of them
abbrev Since : ℕ → ℕ → State → List Event → List Answer → Type 0
Since p r s events answers = ((s.pins p ≡ Some r) × KeepsPin p events) ⊎ HasPinOf p r events answers

-- what a pass pins after an event it pinned before, or this is its pin
pinned_by_event : (p r : ℕ) (s : State) (e : Event) → (after s e).pins p ≡ Some r
    → ((e ≡ Pin p) × (r ≡ s.current)) ⊎ ((s.pins p ≡ Some r) × (e ≢ Unpin p))
pinned_by_event p r s (Pin q) is = dite (ℕ_discrete p q)
    (λ same. inl (
      ap (λ (n : ℕ). Pin n) (sym same),
      let f : Some s.current ≡ Some r =
          sym (with_here s.pins q (Some s.current) p same) ∙ is in let g : s.current ≡ r =
          cc in sym g,
    ))
    (λ other. inr (
      sym (with_else s.pins q (Some s.current) p other) ∙ is,
      λ e. let f : Pin q
          ≡ Unpin p = e in absurd cc,
    ))
pinned_by_event p r s (Unpin q) is = dite (ℕ_discrete p q)
    (λ same. absurd (let f : None ≡ Some r = sym (with_here s.pins q None p same) ∙ is in cc))
    (λ other. inr (
      sym (with_else s.pins q None p other) ∙ is,
      λ e. other (let f : Unpin q ≡ Unpin p =
          e in let g : q ≡ p = cc in sym g),
    ))
pinned_by_event p r s (Write x) is = inr (is, λ e. let f : Write x ≡ Unpin p = e in absurd cc)
pinned_by_event p r s (Publish n rows) is =
    inr (is, λ e. let f : Publish n rows ≡ Unpin p = e in absurd cc)
pinned_by_event p r s Transfer is = inr (is, λ e. let f : Transfer ≡ Unpin p = e in absurd cc)
pinned_by_event p r s (Ask n) is = inr (is, λ e. let f : Ask n ≡ Unpin p = e in absurd cc)

-- a refused unpin of the pass leaves it without a pin
refused_unpin : (p r : ℕ) (s : State) (e : Event) → ¬ (IsTaken s e) → s.pins p ≡ Some r
    → e ≢ Unpin p
refused_unpin p r s e refused is same =
    refused (subst (λ (z : Event). IsTaken s z) (sym same) (ap is_some is))

since_step : (p r : ℕ) (s m : State) (e : Event) (a : Answer) (events : List Event)
    (answers : List Answer) → Steps s e a m → Since p r m events answers → Since p r s (e ∷ events)
    (a ∷ answers)
since_step p r s m e a events answers step (inr later) = inr (inr later)
since_step p r s m e a events answers (inl (taken, answered, same)) (inl (is, kept)) = ⊎_elim
    (λ (pin : (e ≡ Pin p) × (r ≡ s.current)). inr
    (inl (pin.0, told pin.0 answered ∙ ap (λ (n : ℕ). Record n) (sym pin.1), kept)))
    (λ (before : (s.pins p ≡ Some r) × (e ≢ Unpin p)). inl (before.0, (before.1, kept)))
    (pinned_by_event p r s e (subst (λ (z : State). z.pins p ≡ Some r) same is))
  where
    told : e ≡ Pin p → Answers s e a → a ≡ Record s.current
    told is said = subst (λ (z : Event). Answers s z a) is said
since_step p r s m e a events answers (inr (refused, answered, same)) (inl (is, kept)) =
    let was : s.pins p ≡ Some r = subst (λ (z : State). z.pins p ≡ Some r) same is in
    inl (was, (refused_unpin p r s e refused was, kept))

since_run : (p r : ℕ) (s t : State) (events : List Event) (answers : List Answer)
    → Runs s events answers t → t.pins p ≡ Some r → Since p r s events answers
since_run p r s t [] [] ran is = inl (subst (λ (z : State). z.pins p ≡ Some r) ran is, tt)
since_run p r s t [] (a ∷ answers) ran is = absurd ran
since_run p r s t (e ∷ events) [] ran is = absurd ran
since_run p r s t (e ∷ events) (a ∷ answers) ran is =
    since_step p r s ran.0 e a events answers ran.1 (since_run p r ran.0 t events answers ran.2 is)

-- a pin that has not ended stands
still_pins : (p r : ℕ) (s t : State) (events : List Event) (answers : List Answer)
    → Runs s events answers t → HasPinOf p r events answers → t.pins p ≡ Some r
still_pins p r s t [] answers ran has = absurd has
still_pins p r s t (e ∷ events) [] ran has = absurd has
still_pins p r s t (e ∷ events) (a ∷ answers) ran (inl (pin, told, kept)) =
    (since_pin p r events answers s ran.0 t
    (subst (λ (z : Answer). Steps s (Pin p) z ran.0) told
    (subst (λ (z : Event). Steps s z a ran.0) pin ran.1)) kept ran.2).1.pin
still_pins p r s t (e ∷ events) (a ∷ answers) ran (inr later) =
    still_pins p r ran.0 t events answers ran.2 later

has_pin : (p r passes : ℕ) (s : State) (events : List Event) (answers : List Answer)
    → Runs (opening passes) events answers s → s.pins p ≡ Some r → HasPinOf p r events answers
has_pin p r passes s events answers ran is = ⊎_elim
    (λ (open_one : (None ≡ Some r) × KeepsPin p events). absurd
    (let f : None ≡ Some r = open_one.0 in cc))
    (λ (has : HasPinOf p r events answers). has)
    (since_run p r (opening passes) s events answers ran is)

pub yes_where_ended : (passes : ℕ) (events : List Event) (answers : List Answer) (s t : State)
    (r : ℕ) (a : Answer) → Runs (opening passes) events answers s → IsTaken s (Ask r)
    → Steps s (Ask r) a t → (a ≡ Yes) ↔ ((p : ℕ) → HasPinOf p r events answers → ⊥)
yes_where_ended passes events answers s t r a ran taken step = (
  λ yes p has. drained_at_yes s t r (subst (λ (z : Answer). Steps s (Ask r) z t) yes step) p
      (still_pins p r (opening passes) s events answers ran has),
  λ ended. ⊎_elim (λ (yes : a ≡ Yes). yes)
      (λ (no : a ≡ No). absurd
      (let found = pinned_at_no s t r (subst (λ (z : Answer). Steps s (Ask r) z t) no step) in
      ended found.0 (has_pin found.0 r passes s events answers ran found.1)))
      (one_or_other s t r a taken step),
)
