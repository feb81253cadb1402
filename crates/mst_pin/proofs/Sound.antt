-- What every state that a list of events leads to keeps, and that some record of it is free.
use Rattle.mst_pin.proofs.Names.{◌≡◌, ℕ, zero, suc, ◌+◌, ◌<◌, ◌≤◌, ◌≢◌, ◌⊎◌, inl, inr, ⊎_elim, Bool, true, false, eqb, ne_eqb, List, [], ◌∷◌, length, Option, Some, None, sym, refl, ap, ◌∙◌, subst, arith, dite, ℕ_discrete, Event, Pin, Unpin, Write, Publish, Transfer, Ask, Answer, State, opening, after, IsPinned, IsDrained, IsTaken, Steps, Runs}
use Rattle.std.proofs.Common.{◌||◌}
use Rattle.std.specs.List.{list_any, IsDistinct, AllByRecursion}
use Rattle.std.proofs.lemmas.Map.Steps.{length-le_from_distinct_below}
use Rattle.mst_pin.specs.State.{IsLive}
use Rattle.mst_pin.proofs.Masks.{with_here, with_else}

-- only passes of the core pin, and the current record is one of the core
pub record IsSound (s : State) : Type 0 where
  pub current_in : s.current < s.passes + 2
  pub pinner_in : (p r : ℕ) → s.pins p ≡ Some r → (0 < p) × (p ≤ s.passes)

sound_opening : (n : ℕ) → IsSound (opening n)
sound_opening n =
    record {
      current_in = omega arith;
      pinner_in = λ p r e. absurd (let f : None ≡ Some r = e in cc);
    }

sound_after : (s : State) (e : Event) → IsSound s → IsTaken s e → IsSound (after s e)
sound_after s (Pin p) sound taken = record {
  current_in = sound.current_in;
  pinner_in = λ q r e. dite (ℕ_discrete q p)
      (λ same. subst (λ (z : ℕ). (0 < z) × (z ≤ s.passes)) (sym same) taken.0)
      (λ other. sound.pinner_in q r (sym (with_else s.pins p (Some s.current) q other) ∙ e));
}
sound_after s (Unpin p) sound taken = record {
  current_in = sound.current_in;
  pinner_in = λ q r e. dite (ℕ_discrete q p)
      (λ same. absurd (let f : None ≡ Some r = sym (with_here s.pins p None q same) ∙ e in cc))
      (λ other. sound.pinner_in q r (sym (with_else s.pins p None q other) ∙ e));
}
sound_after s (Write x) sound taken = sound
sound_after s (Publish r rows) sound taken =
    record { current_in = taken.1; pinner_in = sound.pinner_in }
sound_after s Transfer sound taken =
    record { current_in = sound.current_in; pinner_in = sound.pinner_in }
sound_after s (Ask r) sound taken = sound

sound_step : (s t : State) (e : Event) (a : Answer) → IsSound s → Steps s e a t → IsSound t
sound_step s t e a sound step = ⊎_elim (λ y. subst IsSound (sym y.2) (sound_after s e sound y.0))
    (λ n. subst IsSound (sym n.2) sound) step

sound_run : (s t : State) (events : List Event) (answers : List Answer) → IsSound s
    → Runs s events answers t → IsSound t
sound_run s t [] [] sound ran = subst IsSound (sym ran) sound
sound_run s t [] (a ∷ answers) sound ran = absurd ran
sound_run s t (e ∷ events) [] sound ran = absurd ran
sound_run s t (e ∷ events) (a ∷ answers) sound ran =
    sound_run ran.0 t events answers (sound_step s ran.0 e a sound ran.1) ran.2

pub sound_reached : (n : ℕ) (s : State) (events : List Event) (answers : List Answer)
    → Runs (opening n) events answers s → IsSound s
sound_reached n s events answers ran = sound_run (opening n) s events answers (sound_opening n) ran

-- ---- some record is free

-- what one pass pins is a record, or not that record
pins_or_not : (o : Option ℕ) (r : ℕ) → (o ≡ Some r) ⊎ (o ≢ Some r)
pins_or_not None r = inr (λ e. let f : None ≡ Some r = e in absurd cc)
pins_or_not (Some x) r = dite (ℕ_discrete x r) (λ is. inl (ap (λ (z : ℕ). Some z) is))
    (λ not. inr (λ e. not (let f : Some x ≡ Some r = e in cc)))

-- a pass up to k pins the record, or none does
pinner_or_none : (s : State) (r k : ℕ) → IsPinned s r ⊎ ((p : ℕ) → p < k → s.pins p ≢ Some r)
pinner_or_none s r zero = inr (λ p l. absurd (omega arith))
pinner_or_none s r (suc k) = ⊎_elim (λ (found : s.pins k ≡ Some r). inl (k, found))
    (λ (not : s.pins k ≢ Some r). ⊎_elim (λ (found : IsPinned s r). inl found)
    (λ (none : (p : ℕ) → p < k → s.pins p ≢ Some r). inr
    (λ p l. dite (ℕ_discrete p k) (λ same. λ e. not (ap s.pins (sym same) ∙ e))
    (λ other. none p (omega arith))))
    (pinner_or_none s r k)) (pins_or_not (s.pins k) r)

pinned_or_drained : (s : State) (r : ℕ) → IsSound s → IsPinned s r ⊎ IsDrained s r
pinned_or_drained s r sound = ⊎_elim (λ (found : IsPinned s r). inl found)
    (λ (none : (p : ℕ) → p < s.passes + 1 → s.pins p ≢ Some r). inr
    (λ p e. none p (let l = (sound.pinner_in p r e).1 in omega arith) e))
    (pinner_or_none s r (s.passes + 1))

abbrev IsFree : State → ℕ → Type 0
IsFree s r = (r < s.passes + 2) × (r ≢ s.current) × IsDrained s r

-- a record below m is free, or each is current or pinned
free_or_live : (s : State) (m : ℕ) → m ≤ s.passes + 2 → IsSound s → ((r : ℕ) × IsFree s r)
    ⊎ ((r : ℕ) → r < m → IsLive s r)
free_or_live s zero l sound = inr (λ r l. absurd (omega arith))
free_or_live s (suc m) l sound = ⊎_elim (λ (found : (r : ℕ) × IsFree s r). inl found)
    (λ (live : (r : ℕ) → r < m → IsLive s r). dite (ℕ_discrete m s.current)
    (λ current. inr (below m live (inl current)))
    (λ other. ⊎_elim (λ (pinned : IsPinned s m). inr (below m live (inr pinned)))
    (λ (drained : IsDrained s m). inl (m, (omega arith, other, drained)))
    (pinned_or_drained s m sound)))
    (free_or_live s m (omega arith) sound)
  where
    below : (m : ℕ) → ((r : ℕ) → r < m → IsLive s r) → IsLive s m → (r : ℕ) → r < suc m → IsLive s r
    below m live here r l = dite (ℕ_discrete r m) (λ same. subst (IsLive s) (sym same) here)
        (λ other. live r (omega arith))

-- a number that stands for a live record: a pass that pins it, or 0 for the current one
abbrev Names : State → ℕ → ℕ → Type 0
Names s r q = ((q ≡ 0) × (r ≡ s.current)) ⊎ (s.pins q ≡ Some r)

named : (s : State) (r : ℕ) → IsLive s r → (q : ℕ) × Names s r q
named s r live = ⊎_elim (λ (current : r ≡ s.current). (0, inl (refl, current)))
    (λ (pinned : IsPinned s r). (pinned.0, inr pinned.1)) live

name_in : (s : State) (r q : ℕ) → IsSound s → Names s r q → q < s.passes + 1
name_in s r q sound name = ⊎_elim (λ (t : (q ≡ 0) × (r ≡ s.current)). omega arith)
    (λ (e : s.pins q ≡ Some r). let l = (sound.pinner_in q r e).1 in omega arith) name

name_once : (s : State) (r u q : ℕ) → IsSound s → Names s r q → Names s u q → r ≡ u
name_once s r u q sound a b = ⊎_elim
    (λ (t : (q ≡ 0) × (r ≡ s.current)). ⊎_elim (λ (v : (q ≡ 0) × (u ≡ s.current)). t.1 ∙ sym v.1)
    (λ (e : s.pins q ≡ Some u). absurd (let l = (sound.pinner_in q u e).0 in omega arith)) b)
    (λ (d : s.pins q ≡ Some r). ⊎_elim
    (λ (v : (q ≡ 0) × (u ≡ s.current)). absurd
    (let l = (sound.pinner_in q r d).0 in omega arith))
    (λ (e : s.pins q ≡ Some u). let f : Some r ≡ Some u = sym d ∙ e in cc) b) a

none_of : (x : ℕ) (ps : List ℕ) → (list_any (eqb x) ps ≡ true → ⊥)
    → AllByRecursion (λ y. eqb x y ≡ false) ps
none_of x [] not = tt
none_of x (p ∷ ps) not = go (eqb x p) refl not (none_of x ps)
  where
    go : (t : Bool) → eqb x p ≡ t → ((t || list_any (eqb x) ps) ≡ true → ⊥)
        → ((list_any (eqb x) ps ≡ true → ⊥) → AllByRecursion (λ y. eqb x y ≡ false) ps)
        → AllByRecursion (λ y. eqb x y ≡ false) (p ∷ ps)
    go true e none more = absurd (none refl)
    go false e none more = (e, more none)

later : (x p : ℕ) (ps : List ℕ) → x ≢ p → list_any (eqb x) (p ∷ ps) ≡ true → list_any (eqb x) ps
    ≡ true
later x p ps other e = sym (ap (λ (b : Bool). b || list_any (eqb x) ps) (ne_eqb x p other)) ∙ e

-- the names of the records below m, all different
names_below : (s : State) (m : ℕ) → IsSound s → ((r : ℕ) → r < m → IsLive s r)
    → (qs : List ℕ) × (length qs ≡ m) × IsDistinct eqb qs
    × ((q : ℕ) → list_any (eqb q) qs ≡ true → (r : ℕ) × (r < m) × Names s r q)
unfolding IsDistinct
names_below s zero sound live = ([], refl, tt, λ q within. cc)
names_below s (suc m) sound live = let h = names_below s m sound (λ r l. live r (omega arith)) in
    let n = named s m (live m (omega arith)) in (
      n.0 ∷ h.0,
      ap (λ (z : ℕ). suc z) h.1,
      (
        none_of n.0 h.0 (λ within. let o = h.3 n.0 within in let e =
            name_once s o.0 m n.0 sound o.2 n.1 in let l = o.1 in omega arith),
        h.2,
      ),
      (λ q within. dite (ℕ_discrete q n.0) (λ is. (m, omega arith, subst (Names s m) (sym is) n.1))
          (λ other. let o = h.3 q (later q n.0 h.0 other within) in
          (o.0, let l = o.1 in omega arith, o.2))),
    )

pub free_record : (s : State) → IsSound s → (r : ℕ) × IsFree s r
free_record s sound = ⊎_elim (λ (found : (r : ℕ) × IsFree s r). found)
    (λ (live : (r : ℕ) → r < s.passes + 2 → IsLive s r). let h =
    names_below s (s.passes + 2) sound live in
    let few = length-le_from_distinct_below h.0 (s.passes + 1) h.2
    (λ q e. let o = h.3 q e in name_in s o.0 q sound o.2) in
    let long = h.1 in absurd (omega arith))
    (free_or_live s (s.passes + 2) (omega arith) sound)
