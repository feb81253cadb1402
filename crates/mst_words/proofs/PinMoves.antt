-- The part Pins under an unpinning, a publication, a transfer and an ask.
use Rattle.mst_words.proofs.Names.{◌≡◌, ℕ, ◌+◌, ◌-◌, ◌*◌, ◌%◌, ◌^◌, ◌<◌, ◌≤◌, ◌≢◌, Bool, true, false, cond, eqb, eq-eqb, ne_eqb, List, [], ◌∷◌, Option, Some, None, set, get_or, sym, refl, ap, ◌∙◌, subst, ⊎_elim, arith, bit_xor, lit<, bit_at, dite, ℕ_discrete, bit_at-lt, bit_at-zero, same_Some, none-some, In, masks, View, SeatAt, done, pin_bit, SeatPins, Drains, Pins, bit_other, bit_same}
use Rattle.std.proofs.lemmas.Nat.Bits.{bit_at_xor}
use Rattle.mst_pin.proofs.Bits.{turn_right}
use Rattle.mst_words.proofs.Members.{in_nothing, in_cases}
use Rattle.mst_words.proofs.Seats.{each_seat}
use Rattle.mst_words.proofs.PinParts.{seat_keeps, drains_keep, bits_stay}

moved_over : (a b : ℕ) → (0 + (a + b) % 2) % 2 ≡ (b + a) % 2
moved_over a b = omega arith

-- ---- an unpinning

pub unpin_others : (beside : ℕ → ℕ) (ws ws' : List ℕ) (k o : ℕ) → done ws' o ≡ bit_xor (done ws o)
    (2 ^ k) → (r b : ℕ) → (r ≢ o → done ws' r ≡ done ws r) → b ≢ k → pin_bit beside ws' r b
    ≡ pin_bit beside ws r b
unpin_others beside ws ws' k o here r b dones other = dite (ℕ_discrete r o)
    (λ e. ap (λ (z : ℕ). pin_bit beside ws' z b) e
    ∙ ap (λ (z : ℕ). (bit_at (beside o) b + bit_at z b) % 2) here
    ∙ ap (λ (z : ℕ). (bit_at (beside o) b + z) % 2) (bit_other (done ws o) k b other)
    ∙ ap (λ (z : ℕ). pin_bit beside ws z b) (sym e))
    (λ not. bits_stay beside ws ws' r b (dones not))

pub unpin_turns : (beside : ℕ → ℕ) (ws ws' : List ℕ) (k o : ℕ) → done ws' o ≡ bit_xor (done ws o)
    (2 ^ k) → pin_bit beside ws o k ≡ 1 → pin_bit beside ws' o k ≡ 0
unpin_turns beside ws ws' k o here was = ap (λ (z : ℕ). (bit_at (beside o) k + bit_at z k) % 2) here
    ∙ ap (λ (z : ℕ). (bit_at (beside o) k + z) % 2) (bit_same (done ws o) k)
    ∙ turn_right (bit_at (beside o) k) (bit_at (done ws o) k) (bit_at-lt (beside o) k)
    (bit_at-lt (done ws o) k) was

-- ---- the transfer

abbrev pub cleared : (ℕ → ℕ) → ℕ → ℕ → ℕ
cleared beside o r = cond (eqb r o) 0 (beside r)

cleared_there : (beside : ℕ → ℕ) (o r : ℕ) → r ≡ o → cleared beside o r ≡ 0
cleared_there beside o r is = ap (λ (b : Bool). cond b 0 (beside r)) (eq-eqb r o is)

cleared_else : (beside : ℕ → ℕ) (o r : ℕ) → r ≢ o → cleared beside o r ≡ beside r
cleared_else beside o r not = ap (λ (b : Bool). cond b 0 (beside r)) (ne_eqb r o not)

-- no pin changes
pub transfer_bits : (beside : ℕ → ℕ) (ws ws' : List ℕ) (o : ℕ) → done ws' o ≡ bit_xor (done ws o)
    (beside o) → (r k : ℕ) → (r ≢ o → done ws' r ≡ done ws r) → pin_bit (cleared beside o) ws' r k
    ≡ pin_bit beside ws r k
transfer_bits beside ws ws' o here r k dones = dite (ℕ_discrete r o)
    (λ e. ap (λ (z : ℕ). pin_bit (cleared beside o) ws' z k) e
    ∙ ap (λ (z : ℕ). (bit_at z k + bit_at (done ws' o) k) % 2) (cleared_there beside o o refl)
    ∙ ap (λ (z : ℕ). (z + bit_at (done ws' o) k) % 2) (bit_at-zero k)
    ∙ ap (λ (z : ℕ). (0 + bit_at z k) % 2) here ∙ ap (λ (z : ℕ). (0 + z) % 2)
    (bit_at_xor (done ws o) (beside o) k)
    ∙ moved_over (bit_at (done ws o) k) (bit_at (beside o) k)
    ∙ ap (λ (z : ℕ). pin_bit beside ws z k) (sym e))
    (λ other. ap (λ (z : ℕ). (bit_at z k + bit_at (done ws' r) k) % 2)
    (cleared_else beside o r other) ∙ bits_stay beside ws ws' r k (dones other))

module _ (N cur mask : ℕ) (due : Option ℕ) (beside : ℕ → ℕ) (ws ws' : List ℕ) (vs : List View)
    (id : ℕ) (v w : View) (q : Pins N cur mask due beside ws vs) (at : SeatAt vs id v) where
  -- ---- an unpinning

  pub pins_unpin : (k o : ℕ) → get_or ws' 1 0 ≡ get_or ws 1 0 → done ws' o ≡ bit_xor (done ws o)
      (2 ^ k) → ((r : ℕ) → r < N + 2 → r ≢ o → done ws' r ≡ done ws r) → v.number ≡ k + 1
      → w.number ≡ v.number → v.pin ≡ Some o → w.pin ≡ None
      → v.turn ≡ false → w.turn ≡ v.turn
      → ((i : ℕ) (u : View) → i ≢ id → SeatAt vs i u → u.number ≢ v.number)
      → Pins N cur mask due beside ws' (set vs id w)
  pins_unpin k o word here dones is number pin free off turn apart = record {
    few = q.few;
    current = word ∙ q.current;
    small = q.small;
    cur_in = q.cur_in;
    beside_cur = q.beside_cur;
    beside_rest = q.beside_rest;
    due_old = q.due_old;
    due_in = q.due_in;
    seats = each_seat (λ i u. SeatPins N beside ws' u) vs id w
        (record {
          small = subst (λ (z : ℕ). z ≤ 32) (sym number) (q.seats id v at).small;
          pinned = λ r e. absurd (none-some r (sym free ∙ e));
          unpinned = λ r l inside not. ap (pin_bit beside ws' r) bit ∙ dite (ℕ_discrete r o)
              (λ e. ap (λ (z : ℕ). pin_bit beside ws' z k) e ∙ turns)
              (λ other. bits_stay beside ws ws' r k (dones r inside other)
              ∙ ap (pin_bit beside ws r) mine ∙ (q.seats id v at).unpinned r
              (let e = is in omega arith) inside
              (λ e. other (sym (same_Some o r (sym pin ∙ e)))));
        })
        (λ i u other e. seat_keeps N beside beside ws ws' u u (q.seats i u e)
        (λ r l inside. unpin_others beside ws ws' k o here r (u.number - 1) (dones r inside)
        (λ same. apart i u other e (let f = is in omega arith))) refl refl);
    holder = each_seat (λ i u. u.turn ≡ true → Drains N cur due beside (set vs id w) u) vs id w
        (λ on. absurd (let c : true ≡ false = sym on ∙ turn ∙ off in cc))
        (λ i u _ e on. drains_keep N cur due beside beside vs id v w at (λ r _. refl)
        (λ r _ f. absurd (none-some r (sym free ∙ f))) u (q.holder i u e on));
  }
    where
      bit : w.number - 1 ≡ k
      bit = let e : w.number ≡ k + 1 = number ∙ is in omega arith

      mine : k ≡ v.number - 1
      mine = let e = is in omega arith

      turns : pin_bit beside ws' o k ≡ 0
      turns =
          unpin_turns beside ws ws' k o here
          (ap (pin_bit beside ws o) mine ∙ ((q.seats id v at).pinned o pin).2)

  -- ---- a publication

  pub pins_publish : (into : ℕ) → get_or ws' 1 0 ≡ into * masks + 0
      → ((r : ℕ) → r < N + 2 → done ws' r ≡ done ws r) → into < N + 2 → into ≢ cur → due ≡ None
      → w.number ≡ v.number → w.pin ≡ v.pin
      → w.due ≡ Some cur → w.mask ≡ mask → w.drained ≡ []
      → ((i : ℕ) (u : View) → SeatAt vs i u → u.turn ≡ true → i ≡ id) → Pins N into 0 (Some cur)
      beside ws' (set vs id w)
  pins_publish into word dones inside other settled number pin is_due is_mask none_drained only =
      record {
        few = q.few;
        current = word;
        small = lit< tt;
        cur_in = inside;
        beside_cur = q.beside_rest into other (λ e. none-some into (sym settled ∙ e));
        beside_rest =
            λ j not_now not_due. q.beside_rest j (λ e. not_due (ap (λ (z : ℕ). Some z) (sym e)))
            (λ e. none-some j (sym settled ∙ e));
        due_old = λ e. other (sym (same_Some cur into e));
        due_in = λ j e. subst (λ (z : ℕ). z < N + 2) (same_Some cur j e) q.cur_in;
        seats = each_seat (λ i u. SeatPins N beside ws' u) vs id w
            (seat_keeps N beside beside ws ws' v w (q.seats id v at)
            (λ r _ l. bits_stay beside ws ws' r (v.number - 1) (dones r l)) number pin)
            (λ i u _ e. seat_keeps N beside beside ws ws' u u (q.seats i u e)
            (λ r _ l. bits_stay beside ws ws' r (u.number - 1) (dones r l)) refl refl);
        holder = each_seat (λ i u. u.turn ≡ true → Drains N into (Some cur) beside (set vs id w) u)
            vs
            id w
            (λ _. record {
              due_is = is_due;
              mask_is = λ j e. ap beside (sym (same_Some cur j e)) ∙ q.beside_cur ∙ sym is_mask;
              drained =
                  λ r within. absurd
                  (in_nothing r (subst (λ (z : List ℕ). In r z) none_drained within));
            })
            (λ i u away e on. absurd (away (only i u e on)));
      }

  -- ---- the transfer

  pub pins_transfer : (o : ℕ) → get_or ws' 1 0 ≡ get_or ws 1 0 → done ws' o ≡ bit_xor (done ws o)
      v.mask → ((r : ℕ) → r < N + 2 → r ≢ o → done ws' r ≡ done ws r) → v.turn ≡ true
      → v.due ≡ Some o → w.number ≡ v.number → w.pin ≡ v.pin
      → w.due ≡ None → w.drained ≡ v.drained
      → ((i : ℕ) (u : View) → SeatAt vs i u → u.turn ≡ true → i ≡ id) → Pins N cur mask None
      (cleared beside o) ws' (set vs id w)
  pins_transfer o word here dones on is_due number pin settled same_drained only = record {
    few = q.few;
    current = word ∙ q.current;
    small = q.small;
    cur_in = q.cur_in;
    beside_cur = cleared_else beside o cur (λ e. q.due_old (d ∙ ap (λ (z : ℕ). Some z) (sym e)))
        ∙ q.beside_cur;
    beside_rest = λ j other _. dite (ℕ_discrete j o) (cleared_there beside o j)
        (λ not. cleared_else beside o j not ∙ q.beside_rest j other
        (λ e. not (sym (same_Some o j (sym d ∙ e)))));
    due_old = λ e. none-some cur e;
    due_in = λ j e. absurd (none-some j e);
    seats = each_seat (λ i u. SeatPins N (cleared beside o) ws' u) vs id w
        (seat_keeps N beside (cleared beside o) ws ws' v w (q.seats id v at)
        (λ r l inside. bits r (v.number - 1) inside) number pin)
        (λ i u _ e. seat_keeps N beside (cleared beside o) ws ws' u u (q.seats i u e)
        (λ r l inside. bits r (u.number - 1) inside) refl refl);
    holder = each_seat (λ i u. u.turn ≡ true → Drains N cur None (cleared beside o) (set vs id w) u)
        vs id w
        (λ _. record {
          due_is = settled;
          mask_is = λ j e. absurd (none-some j e);
          drained = λ r within. let h =
              known.drained r (subst (λ (z : List ℕ). In r z) same_drained within) in (
                h.0,
                h.1,
                (λ e. none-some r e),
                each_seat (λ i z. z.pin ≢ Some r) vs id w (λ e. h.3 id v at (sym pin ∙ e))
                    (λ i u _ e. h.3 i u e),
              );
        })
        (λ i u away e own. absurd (away (only i u e own)));
  }
    where
      known : Drains N cur due beside vs v
      known = q.holder id v at on

      d : due ≡ Some o
      d = sym known.due_is ∙ is_due

      bits : (r k : ℕ) → r < N + 2 → pin_bit (cleared beside o) ws' r k ≡ pin_bit beside ws r k
      bits r k inside =
          transfer_bits beside ws ws' o (here ∙ ap (bit_xor (done ws o)) (sym (known.mask_is o d)))
          r k (dones r inside)

  -- ---- a DONE of 0 of a record that is not current, and not due, says that nobody pins it

  pub none_pins : (r : ℕ) → done ws r ≡ 0 → r ≢ cur → due ≢ Some r → (i : ℕ) (u : View)
      → SeatAt vs i u → u.pin ≢ Some r
  none_pins r zero_there not_cur not_due i u e pin = let p = (q.seats i u e).pinned r pin in
      let k : ℕ = u.number - 1 in
      let bits : pin_bit beside ws r k ≡ 0 = ap (λ (z : ℕ). (bit_at z k + bit_at (done ws r) k) % 2)
      (q.beside_rest r not_cur not_due)
      ∙ ap (λ (z : ℕ). (bit_at 0 k + bit_at z k) % 2) zero_there ∙ ap (λ (z : ℕ). (z + z) % 2)
      (bit_at-zero k) in absurd (let o = p.2 in omega arith)

  pub drains_ask : (r : ℕ) → done ws r ≡ 0 → r ≢ cur → r < N + 2 → v.turn ≡ true → v.due ≡ None
      → w.pin ≡ v.pin → w.due ≡ v.due → w.mask ≡ v.mask → w.drained ≡ r ∷ v.drained
      → Drains N cur due beside (set vs id w) w
  drains_ask r zero_there not_cur inside on settled pin is_due is_mask more = record {
    due_is = is_due ∙ known.due_is;
    mask_is = λ j is. known.mask_is j is ∙ sym is_mask;
    drained = λ j within. ⊎_elim
        (λ (same : j ≡ r). subst (λ (z : ℕ). (z < N + 2) × (z ≢ cur) × (due ≢ Some z)
        × ((i : ℕ) (u : View) → SeatAt (set vs id w) i u → u.pin ≢ Some z)) (sym same)
        (inside, not_cur, not_due, free))
        (λ (before : In j v.drained). kept.drained j before)
        (in_cases j r v.drained (subst (λ (z : List ℕ). In j z) more within));
  }
    where
      known : Drains N cur due beside vs v
      known = q.holder id v at on

      kept : Drains N cur due beside (set vs id w) v
      kept = drains_keep N cur due beside beside vs id v w at (λ r _. refl) (λ r _ f. sym pin ∙ f) v
          known

      not_due : due ≢ Some r
      not_due e = none-some r (sym settled ∙ known.due_is ∙ e)

      free : (i : ℕ) (u : View) → SeatAt (set vs id w) i u → u.pin ≢ Some r
      free = each_seat (λ i z. z.pin ≢ Some r) vs id w
          (λ e. none_pins r zero_there not_cur not_due id v at (sym pin ∙ e))
          (λ i u _ e. none_pins r zero_there not_cur not_due i u e)
