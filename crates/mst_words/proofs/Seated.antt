-- Each part of the rule with a seat more, which has no turn and no pin.
use Rattle.mst_words.proofs.Names.{◌≡◌, ℕ, ◌<◌, ◌≤◌, ◌≢◌, ◌⊎◌, inl, inr, true, false, List, [], ◌∷◌, ◌++◌, length, get_or, Option, Some, None, sym, ◌∙◌, subst, ⊎_elim, none-some, at_snoc, at_longer, History, first_record, View, DeskState, SeatAt, SeatPins, Drains, Pins, Clear, Blamed, Counts, IsPathOf, Meaning, IsLive, Reads, Rows, Turn, Still}
use Rattle.mst_pin.specs.declared.event.Event as core

-- a fact of each seat, and of one more
pub more : (P : View → Type 0) (vs : List View) (n : View)
    → ((i : ℕ) (u : View) → SeatAt vs i u → P u) → P n → (i : ℕ) (u : View) → SeatAt (vs ++ n ∷ [])
    i u → P u
more P vs n old new i u e = ⊎_elim (λ (t : SeatAt vs i u). old i u t) (λ (t : n ≡ u). subst P t new)
    (at_snoc vs n u i e)

-- who has no turn does not have it, and who has no pin does not pin
pub off_true : {A : Type 0} (b : View) → b.turn ≡ false → b.turn ≡ true → A
off_true b off on = absurd (let c : true ≡ false = sym on ∙ off in cc)

pub free_pins : {A : Type 0} (b : View) (r : ℕ) → b.pin ≡ None → b.pin ≡ Some r → A
free_pins b r free pin = absurd (none-some r (sym free ∙ pin))

module _ {S : Type 0} (T : Meaning S) (R N : ℕ) where
  pub turn_more : (word : ℕ) (homes : List (mathlib.Core.Option.Option S)) (desk : DeskState)
      (due : Option ℕ) (log : History) (vs : List View) (n : View) → Turn T R N word homes desk due
      log vs → n.turn ≡ false
      → Turn T R N word homes desk due log (vs ++ n ∷ [])
  turn_more word homes desk due log vs n t off = record {
    free = t.free;
    taken = λ l. let a =
        t.taken l in (a.0, (a.1.0, a.1.1, at_longer vs (n ∷ []) a.1.0 a.1.1 a.1.2, a.1.3));
    holder =
        more (λ u. u.turn ≡ true → (0 < word) × (u.number ≡ word) × (u.seen ≡ log)
        × (u.desk ≡ desk)) vs n t.holder (off_true n off);
  }

  pub rows_more : (cur : ℕ) (ws : List ℕ) (log : History) (desk : DeskState) (place : ℕ → History)
      (used : ℕ → List ℕ) (vs : List View) (n : View) → Rows T R N cur ws log desk place used vs
      → n.turn ≡ false → n.pin ≡ None
      → Rows T R N cur ws log desk place used (vs ++ n ∷ [])
  rows_more cur ws log desk place used vs n q off free = record {
    now = q.now;
    desk_at = q.desk_at;
    short = q.short;
    live =
        λ r l. q.live r
        (⊎_elim (λ (is : r ≡ cur). inl is)
        (λ (t : (i : ℕ) × (u : View) × SeatAt (vs ++ n ∷ []) i u × (u.pin ≡ Some r)).
        more (λ u. u.pin ≡ Some r → IsLive cur vs r) vs n (λ i u e pin. inr (i, u, e, pin))
        (free_pins n r free) t.0 t.1 t.2 t.3) l);
    reads = more (λ u. (r : ℕ) → u.pin ≡ Some r → Reads T R N ws r (place r) (used r) u) vs n
        q.reads (λ r pin. free_pins n r free pin);
    held =
        more (λ u. u.turn ≡ true → (length u.known_words ≡ length ws)
        × ((k : ℕ) → first_record ≤ k → get_or ws k 0 ≡ get_or u.known_words k 0)) vs n q.held
        (off_true n off);
  }

pub pins_more : (N cur mask : ℕ) (due : Option ℕ) (beside : ℕ → ℕ) (ws : List ℕ) (vs : List View)
    (n : View) → Pins N cur mask due beside ws vs → n.turn ≡ false → n.pin ≡ None
    → SeatPins N beside ws n
    → Pins N cur mask due beside ws (vs ++ n ∷ [])
pins_more N cur mask due beside ws vs n q off free new = record {
  few = q.few;
  current = q.current;
  small = q.small;
  cur_in = q.cur_in;
  beside_cur = q.beside_cur;
  beside_rest = q.beside_rest;
  due_old = q.due_old;
  due_in = q.due_in;
  seats = more (SeatPins N beside ws) vs n q.seats new;
  holder = more (λ u. u.turn ≡ true → Drains N cur due beside (vs ++ n ∷ []) u) vs n
      (λ i u e on. let h = q.holder i u e on in record {
        due_is = h.due_is;
        mask_is = h.mask_is;
        drained = λ r within. let d = h.drained r within in
            (d.0, d.1, d.2, more (λ x. x.pin ≢ Some r) vs n d.3 (free_pins n r free));
      })
      (off_true n off);
}

pub clear_more : (N : ℕ) (beside : ℕ → ℕ) (ws : List ℕ) (vs : List View) (n : View)
    → Clear N beside ws vs → Clear N beside ws (vs ++ n ∷ [])
clear_more N beside ws vs n q =
    record {
      seat_of = λ r k l e. let t = q.seat_of r k l e in
          (t.0, t.1, at_longer vs (n ∷ []) t.0 t.1 t.2, t.3, t.4);
    }

blamed_more_seats : (N self cur : ℕ) (vs : List View) (n : View) → n.pin ≡ None → (ps rs : List ℕ)
    → Blamed N self cur vs ps rs → Blamed N self cur (vs ++ n ∷ []) ps rs
blamed_more_seats N self cur vs n free [] [] h = tt
blamed_more_seats N self cur vs n free [] (r ∷ rs) h = absurd h
blamed_more_seats N self cur vs n free (p ∷ ps) [] h = absurd h
blamed_more_seats N self cur vs n free (p ∷ ps) (r ∷ rs) h = (
  h.0,
  h.1,
  h.2,
  h.3,
  more (λ u. u.number ≡ p → (u.pin ≡ Some r) ⊎ ((u.pin ≡ None) ⊎ (u.pin ≡ Some cur))) vs n h.4
      (λ _. inr (inl free)),
  blamed_more_seats N self cur vs n free ps rs h.5,
)

pub counts_more : (N cur : ℕ) (vs : List View) (n : View) → Counts N cur vs → n.turn ≡ false
    → n.pin ≡ None → Counts N cur (vs ++ n ∷ [])
counts_more N cur vs n q off free = record {
  blamed =
      more (λ u. u.turn ≡ true → (by : List ℕ) × Blamed N u.number cur (vs ++ n ∷ []) by u.blocked)
      vs n
      (λ i u e on. let b = q.blamed i u e on in
      (b.0, blamed_more_seats N u.number cur vs n free b.0 u.blocked b.1)) (off_true n off);
}

-- the new seat is no pass, or one that pins nothing in the core
pub path_more : (N cur : ℕ) (due : Option ℕ) (vs : List View) (n : View) (moves : List core.Event)
    (q : IsPathOf moves N cur due vs) → (0 < n.number → q.state.pins n.number ≡ n.pin)
    → IsPathOf moves N cur due (vs ++ n ∷ [])
path_more N cur due vs n moves q new = record {
  state = q.state;
  comes = q.comes;
  passes_is = q.passes_is;
  cur_is = q.cur_is;
  due_is = q.due_is;
  pins_are = more (λ u. 0 < u.number → q.state.pins u.number ≡ u.pin) vs n q.pins_are new;
  seats_are = λ p r e. let t = q.seats_are p r e in
      (t.0, (t.1.0, t.1.1, at_longer vs (n ∷ []) t.1.0 t.1.1 t.1.2, t.1.3));
}

pub still_more : (N word : ℕ) (vs : List View) (n : View) → Still N word vs → n.turn ≡ false
    → Still N word (vs ++ n ∷ [])
still_more N word vs n q off =
    record {
      noted = more (λ u. u.turn ≡ true → N ≡ 1 → (w : ℕ) → u.noted ≡ Some w → w ≡ word) vs n
          q.noted (off_true n off);
    }
