-- The part Path: the core of pins takes each step that moves a pin, the current record or a mask.
use Rattle.mst_words.proofs.Names.{◌≡◌, ℕ, zero, suc, ◌+◌, ◌<◌, ◌≤◌, ◌≢◌, true, false, eqb, List, [], ◌∷◌, Option, Some, None, set, sym, refl, ap, ◌∙◌, subst, is_some, dite, some-injective, some-ne-none, ℕ_discrete, bit_at-zero, none-some, set_here, set_else, Pin, Unpin, Publish, Transfer, after, View, Format, SeatAt, dealer, IsPathOf, ComesTo}
use Rattle.mst_pin.specs.declared.event.Event as core
use Rattle.mst_pin.specs.State.{State, opening, with_value, AreUsable, row_set}
use Rattle.mst_pin.proofs.Masks.{with_here, with_else}
use Rattle.mst_words.proofs.Seats.{each_seat, same_view}
use Rattle.mst_words.proofs.Worlds.{within}

-- a pass of this number has a seat
abbrev HasSeat : List View → ℕ → Type 0
HasSeat vs p = (0 < p) × ((i : ℕ) × (u : View) × SeatAt vs i u × (u.number ≡ p))

module _ (N cur : ℕ) (due : Option ℕ) (vs : List View) (id : ℕ) (v w : View)
    (moves : List core.Event) (q : IsPathOf moves N cur due vs) (at : SeatAt vs id v) where
  seat_stays : w.number ≡ v.number → (p : ℕ) → HasSeat vs p → HasSeat (set vs id w) p
  seat_stays number p (pos, (i, u, e, is)) = dite (ℕ_discrete i id)
      (λ same. (
        pos,
        (
          id,
          w,
          set_here vs id w (within vs id v at),
          number ∙ ap (λ (z : View). z.number)
              (same_view vs id v u at (subst (λ (z : ℕ). SeatAt vs z u) same e)) ∙ is,
        ),
      ))
      (λ not. (pos, (i, u, set_else vs id i w not ∙ e, is)))

  seats_with : (pin : Option ℕ) → w.number ≡ v.number → 0 < v.number → (p r : ℕ)
      → with_value q.state.pins v.number pin p ≡ Some r → HasSeat (set vs id w) p
  seats_with pin number pos p r e = dite (ℕ_discrete p v.number)
      (λ is. (
        subst (λ (z : ℕ). 0 < z) (sym is) pos,
        (id, w, set_here vs id w (within vs id v at), number ∙ sym is),
      ))
      (λ not. seat_stays number p
      (q.seats_are p r (sym (with_else q.state.pins v.number pin p not) ∙ e)))

  pins_with : (pin : Option ℕ) → w.number ≡ v.number → pin ≡ w.pin
      → ((i : ℕ) (u : View) → i ≢ id → SeatAt vs i u → u.number ≢ v.number)
      → (i : ℕ) (u : View) → SeatAt (set vs id w) i u → 0 < u.number → with_value q.state.pins
      v.number pin u.number ≡ u.pin
  pins_with pin number is apart =
      each_seat (λ i u. 0 < u.number → with_value q.state.pins v.number pin u.number ≡ u.pin) vs id
      w
      (λ _. with_here q.state.pins v.number pin w.number number ∙ is)
      (λ i u other e pos. with_else q.state.pins v.number pin u.number (apart i u other e)
      ∙ q.pins_are i u e pos)

  -- no pin changes; the core takes no step
  pub path_same : w.number ≡ v.number → w.pin ≡ v.pin → IsPathOf moves N cur due (set vs id w)
  path_same number pin = record {
    state = q.state;
    comes = q.comes;
    passes_is = q.passes_is;
    cur_is = q.cur_is;
    due_is = q.due_is;
    pins_are = each_seat (λ i u. 0 < u.number → q.state.pins u.number ≡ u.pin) vs id w
        (λ pos. ap q.state.pins number ∙ q.pins_are id v at (subst (λ (z : ℕ). 0 < z) number pos)
        ∙ sym pin)
        (λ i u _ e. q.pins_are i u e);
    seats_are = λ p r e. seat_stays number p (q.seats_are p r e);
  }

  pub path_pin : w.number ≡ v.number → v.pin ≡ None → w.pin ≡ Some cur
      → ((i : ℕ) (u : View) → i ≢ id → SeatAt vs i u → u.number ≢ v.number) → 0 < v.number
      → v.number ≤ N → IsPathOf (Pin v.number ∷ moves) N cur due (set vs id w)
  path_pin number free pins apart pos small = record {
    state = after q.state (Pin v.number);
    comes = (
      q.state,
      q.comes,
      tt,
      (
        (pos, subst (λ (z : ℕ). v.number ≤ z) (sym q.passes_is) small),
        ap (λ (o : Option ℕ). is_some o) (q.pins_are id v at pos ∙ free),
      ),
      refl,
    );
    passes_is = q.passes_is;
    cur_is = q.cur_is;
    due_is = q.due_is;
    pins_are = pins_with (Some q.state.current) number (ap (λ (z : ℕ). Some z) q.cur_is ∙ sym pins)
        apart;
    seats_are = seats_with (Some q.state.current) number pos;
  }

  pub path_unpin : (r : ℕ) → w.number ≡ v.number → v.pin ≡ Some r → w.pin ≡ None
      → ((i : ℕ) (u : View) → i ≢ id → SeatAt vs i u → u.number ≢ v.number) → 0 < v.number
      → IsPathOf (Unpin v.number ∷ moves) N cur due (set vs id w)
  path_unpin r number pinned free apart pos = record {
    state = after q.state (Unpin v.number);
    comes = (
      q.state,
      q.comes,
      tt,
      ap (λ (o : Option ℕ). is_some o) (q.pins_are id v at pos ∙ pinned),
      refl,
    );
    passes_is = q.passes_is;
    cur_is = q.cur_is;
    due_is = q.due_is;
    pins_are = pins_with None number (sym free) apart;
    seats_are = seats_with None number pos;
  }

  -- a publication of no row at all may always come
  none_used : AreUsable q.state (row_set 0)
  none_used x e =
      absurd (let f : false ≡ true = sym (ap (λ (z : ℕ). eqb z 1) (bit_at-zero x)) ∙ e in cc)

  pub path_publish : (r : ℕ) → w.number ≡ v.number → w.pin ≡ v.pin → due ≡ None → r < N + 2
      → r ≢ cur → ((i : ℕ) (u : View) → SeatAt vs i u → u.pin ≢ Some r)
      → IsPathOf (Publish r 0 ∷ moves) N r (Some cur) (set vs id w)
  unfolding path_same
  path_publish r number pin settled inside other free = let p = path_same number pin in record {
    state = after q.state (Publish r 0);
    comes = (
      q.state,
      q.comes,
      refl,
      (
        ap (λ (o : Option ℕ). is_some o) (q.due_is ∙ settled),
        subst (λ (z : ℕ). r < z + 2)
            (sym q.passes_is) inside,
        (λ e. other (e ∙ q.cur_is)),
        drained,
        none_used,
      ),
      refl,
    );
    passes_is = q.passes_is;
    cur_is = refl;
    due_is = ap (λ (z : ℕ). Some z) q.cur_is;
    pins_are = p.pins_are;
    seats_are = p.seats_are;
  }
    where
      nobody : (p : ℕ) → q.state.pins p ≡ Some r → HasSeat vs p → ⊥
      nobody p e (pos, (i, u, at_i, is)) =
          free i u at_i (sym (q.pins_are i u at_i (subst (λ (z : ℕ). 0 < z) (sym is) pos))
          ∙ ap q.state.pins is ∙ e)

      drained : (p : ℕ) → q.state.pins p ≢ Some r
      drained p e = nobody p e (q.seats_are p r e)

  pub path_transfer : (o : ℕ) → w.number ≡ v.number → w.pin ≡ v.pin → due ≡ Some o
      → IsPathOf (Transfer ∷ moves) N cur None (set vs id w)
  unfolding path_same
  path_transfer o number pin is = let p = path_same number pin in record {
    state = after q.state Transfer;
    comes = (q.state, q.comes, tt, ap (λ (o : Option ℕ). is_some o) (q.due_is ∙ is), refl);
    passes_is = q.passes_is;
    cur_is = q.cur_is;
    due_is = refl;
    pins_are = p.pins_are;
    seats_are = p.seats_are;
  }

-- ---- the opening

-- the dealer's seat is the only one, and the core has taken no event
pub path_opening : (R N : ℕ) (first : Format) → IsPathOf [] N 0 None (dealer R N first 1 ∷ [])
path_opening R N first = record {
  state = opening N;
  comes = refl;
  passes_is = refl;
  cur_is = refl;
  due_is = refl;
  pins_are = λ i u e l. dealers i u e;
  seats_are = λ p r e. absurd (none-some r e);
}
  where
    dealers : (i : ℕ) (u : View) → SeatAt (dealer R N first 1 ∷ []) i u → None ≡ u.pin
    dealers zero u e = ap (λ (z : View). z.pin) (some-injective (dealer R N first 1) u e)
    dealers (suc i) u e = absurd (some-ne-none u (sym e))

none_or : (x : Option ℕ) → ((r : ℕ) → x ≡ Some r → ⊥) → x ≡ None
none_or None not = refl
none_or (Some r) not = absurd (not r refl)

-- a number that no seat has pins nothing in the core
pub no_pin : (N cur : ℕ) (due : Option ℕ) (vs : List View) (moves : List core.Event)
    (q : IsPathOf moves N cur due vs) (p : ℕ)
    → ((i : ℕ) (u : View) → SeatAt vs i u → u.number ≡ p → ⊥) → q.state.pins p ≡ None
no_pin N cur due vs moves q p none_there =
    none_or (q.state.pins p) (λ r e. let t = (q.seats_are p r e).1 in none_there t.0 t.1 t.2 t.3)

-- ---- a list of events comes to one state

pub comes_one : (n : ℕ) (moves : List core.Event) (s t : State) → ComesTo n moves s
    → ComesTo n moves t → t ≡ s
comes_one n [] s t a b = b ∙ sym a
comes_one n (e ∷ es) s t (from, comes, move, took, is) (other, there, _, _, same) =
    same ∙ ap (λ (z : State). after z e) (comes_one n es from other comes there) ∙ sym is
