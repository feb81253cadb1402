-- What stays as it is while a pass keeps its pin.
use Rattle.mst_pin.proofs.Names.{◌≡◌, ℕ, ◌≢◌, inl, inr, ⊎_elim, Bool, true, false, List, [], ◌∷◌, Some, None, sym, refl, ap, ◌∙◌, subst, dite, ℕ_discrete, Event, Pin, Unpin, Write, Publish, Transfer, Ask, Answer, Record, Done, KeepsPin, State, after, row_set, IsBlank, IsTaken, Steps, Runs}
use Rattle.mst_pin.specs.declared.event.Answer.TheVariants.{Refused}
use Rattle.mst_pin.proofs.Masks.{with_here, with_else}
use Rattle.mst_pin.proofs.Options.{none_is}
use Rattle.mst_pin.proofs.Rows.{bool_cases, not_both}

same_some : (a b : ℕ) → Some a ≡ Some b → a ≡ b
same_some a b e = cc

-- the pass pins the record, which has these rows
pub record HasPin (p r : ℕ) (rows : ℕ → Bool) (s : State) : Type 0 where
  pub pin : s.pins p ≡ Some r
  pub rows_are : (x : ℕ) → s.rows r x ≡ rows x

pins_after : (p r : ℕ) (rows : ℕ → Bool) (s : State) (e : Event) → HasPin p r rows s → IsTaken s e
    → e ≢ Unpin p → HasPin p r rows (after s e)
pins_after p r rows s (Pin q) is taken other = record {
  pin = dite (ℕ_discrete p q)
      (λ same. absurd (let f : None ≡ Some r = sym (none_is (s.pins q) taken.1)
      ∙ ap s.pins (sym same) ∙ is.pin in cc))
      (λ away. with_else s.pins q (Some s.current) p away ∙ is.pin);
  rows_are = is.rows_are;
}
pins_after p r rows s (Unpin q) is taken other = record {
  pin = with_else s.pins q None p (λ same. other (ap (λ (n : ℕ). Unpin n) (sym same))) ∙ is.pin;
  rows_are = is.rows_are;
}
pins_after p r rows s (Write x) is taken other = is
pins_after p r rows s (Publish n set) is taken other = record {
  pin = is.pin;
  rows_are =
      λ x. ap (λ (f : ℕ → Bool). f x)
      (with_else s.rows n (row_set set) r
      (λ same. taken.3 p (is.pin ∙ ap (λ (k : ℕ). Some k) same))) ∙ is.rows_are x;
}
pins_after p r rows s Transfer is taken other = record { pin = is.pin; rows_are = is.rows_are }
pins_after p r rows s (Ask n) is taken other = is

pins_run : (p r : ℕ) (rows : ℕ → Bool) (events : List Event) (answers : List Answer) (s t : State)
    → HasPin p r rows s → KeepsPin p events → Runs s events answers t → HasPin p r rows t
pins_run p r rows [] [] s t is kept ran = subst (HasPin p r rows) (sym ran) is
pins_run p r rows [] (a ∷ answers) s t is kept ran = absurd ran
pins_run p r rows (e ∷ events) [] s t is kept ran = absurd ran
pins_run p r rows (e ∷ events) (a ∷ answers) s t is kept ran =
    pins_run p r rows events answers ran.0 t
    (⊎_elim (λ y. subst (HasPin p r rows) (sym y.2) (pins_after p r rows s e is y.0 kept.0))
    (λ n. subst (HasPin p r rows) (sym n.2) is) ran.1)
    kept.1 ran.2

-- the state after a pin
pub pin_begins : (p r : ℕ) (s t : State) → Steps s (Pin p) (Record r) t → (r ≡ s.current)
    × HasPin p r (s.rows r) t
pin_begins p r s t (inl y) =
    let named : Record r ≡ Record s.current = y.1 in
    let same : r ≡ s.current = cc in (
      same,
      subst (HasPin p r (s.rows r)) (sym y.2)
          (record {
            pin = with_here s.pins p (Some s.current) p refl ∙ ap (λ (n : ℕ). Some n)
                (sym same);
            rows_are = λ x. refl;
          }),
    )
pin_begins p r s t (inr n) = absurd (let f : Record r ≡ Refused = n.1 in cc)

pub since_pin : (p r : ℕ) (events : List Event) (answers : List Answer) (s t u : State)
    → Steps s (Pin p) (Record r) t → KeepsPin p events → Runs t events answers u → (r ≡ s.current)
    × HasPin p r (s.rows r) u
since_pin p r events answers s t u pinned kept ran =
    let first = pin_begins p r s t pinned in
    (first.0, pins_run p r (s.rows r) events answers t u first.1 kept ran)

-- a write that is taken is of a row that no pinned record has
pub not_written : (p r : ℕ) (rows : ℕ → Bool) (x : ℕ) (u v : State) → HasPin p r rows u
    → Steps u (Write x) Done v → rows x ≡ false
not_written p r rows x u v is (inl y) = sym (is.rows_are x) ∙ y.0.1 r (inr (p, is.pin))
not_written p r rows x u v is (inr n) = absurd (let f : Done ≡ Refused = n.1 in cc)

-- ---- a row that the current record lost

record Lost (p r x : ℕ) (s : State) : Type 0 where
  pub pin : s.pins p ≡ Some r
  pub had : s.rows r x ≡ true
  pub lost : s.rows s.current x ≡ false

lost_after : (p r x : ℕ) (s : State) (e : Event) → Lost p r x s → IsTaken s e → s.rows s.current x
    ≡ false → (after s e).rows (after s e).current x ≡ false
lost_after p r x s (Pin q) is taken none = none
lost_after p r x s (Unpin q) is taken none = none
lost_after p r x s (Write y) is taken none = none
lost_after p r x s (Publish n set) is taken none =
    ap (λ (f : ℕ → Bool). f x) (with_here s.rows n (row_set set) n refl) ∙ ⊎_elim
    (λ (yes : row_set set x ≡ true). absurd (⊎_elim
    (λ (mine : s.rows s.current x ≡ true). not_both (s.rows s.current x) mine none)
    (λ (blank : IsBlank s x). not_both (s.rows r x) is.had (blank r (inr (p, is.pin))))
    (taken.4 x yes)))
    (λ (no : row_set set x ≡ false). no) (bool_cases (row_set set x))
lost_after p r x s Transfer is taken none = none
lost_after p r x s (Ask n) is taken none = none

lost_step : (p r x : ℕ) (s t : State) (e : Event) (a : Answer) → Lost p r x s → e ≢ Unpin p
    → Steps s e a t → Lost p r x t
lost_step p r x s t e a is other (inl y) =
    let kept = pins_after p r (s.rows r) s e (record { pin = is.pin; rows_are = λ z. refl }) y.0
    other in
    subst (Lost p r x) (sym y.2)
    (record {
      pin = kept.pin;
      had = kept.rows_are x ∙ is.had;
      lost =
          lost_after p r x s e is y.0 is.lost;
    })
lost_step p r x s t e a is other (inr n) = subst (Lost p r x) (sym n.2) is

lost_run : (p r x : ℕ) (events : List Event) (answers : List Answer) (s t : State) → Lost p r x s
    → KeepsPin p events → Runs s events answers t → Lost p r x t
lost_run p r x [] [] s t is kept ran = subst (Lost p r x) (sym ran) is
lost_run p r x [] (a ∷ answers) s t is kept ran = absurd ran
lost_run p r x (e ∷ events) [] s t is kept ran = absurd ran
lost_run p r x (e ∷ events) (a ∷ answers) s t is kept ran =
    lost_run p r x events answers ran.0 t (lost_step p r x s ran.0 e a is kept.0 ran.1) kept.1 ran.2

pub stays_lost : (p r : ℕ) (events : List Event) (answers : List Answer) (s t : State)
    → s.pins p ≡ Some r → KeepsPin p events → Runs s events answers t → (x : ℕ) → s.rows r x ≡ true
    → s.rows s.current x ≡ false → t.rows t.current x ≡ false
stays_lost p r events answers s t pin kept ran x had lost =
    (lost_run p r x events answers s t (record { pin = pin; had = had; lost = lost }) kept ran).lost
