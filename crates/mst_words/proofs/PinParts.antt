-- The part Pins of the rule holds on where one view or one word changes.
use Rattle.mst_words.proofs.Names.{◌≡◌, ℕ, ◌+◌, ◌-◌, ◌*◌, ◌%◌, ◌^◌, ◌<◌, ◌≤◌, ◌≢◌, Bool, true, false, cond, eqb, eq-eqb, ne_eqb, List, Option, Some, None, set, get_or, sym, refl, ap, ◌∙◌, subst, arith, bit_xor, bit_at, dite, ℕ_discrete, bit_at-lt, same_Some, none-some, In, masks, View, SeatAt, done, pin_bit, SeatPins, Drains, Pins, xor_small, bit_other, bit_same}
use Rattle.mst_pin.proofs.Bits.{turn_left}
use Rattle.mst_words.proofs.Seats.{each_seat}

-- ---- frames

-- a seat whose bits stay
pub seat_keeps : (N : ℕ) (beside beside' : ℕ → ℕ) (ws ws' : List ℕ) (u w : View)
    → SeatPins N beside ws u
    → ((r : ℕ) → 0 < u.number → r < N + 2 → pin_bit beside' ws' r (u.number - 1) ≡ pin_bit beside ws
    r (u.number - 1))
    → w.number ≡ u.number → w.pin ≡ u.pin → SeatPins N beside' ws' w
seat_keeps N beside beside' ws ws' u w p bits number pin = record {
  small = subst (λ (z : ℕ). z ≤ 32) (sym number) p.small;
  pinned = λ r is. let h = p.pinned r (sym pin ∙ is) in (
    subst (λ (z : ℕ). 0 < z) (sym number) h.0,
    h.1,
    ap (λ (z : ℕ). pin_bit beside' ws' r (z - 1))
        number ∙ bits r h.0 h.1 ∙ h.2,
  );
  unpinned = λ r l inside not. let l' : 0 < u.number = subst (λ (z : ℕ). 0 < z) number l in
      ap (λ (z : ℕ). pin_bit beside' ws' r (z - 1)) number ∙ bits r l' inside
      ∙ p.unpinned r l' inside (λ e. not (pin ∙ e));
}

-- what the holder knows, after one view changed that pins nothing but the current record anew
pub drains_keep : (N cur : ℕ) (due : Option ℕ) (beside beside' : ℕ → ℕ) (vs : List View) (id : ℕ)
    (v w : View) → SeatAt vs id v → ((r : ℕ) → due ≡ Some r → beside' r ≡ beside r)
    → ((r : ℕ) → r ≢ cur → w.pin ≡ Some r → v.pin ≡ Some r) → (x : View) → Drains N cur due beside
    vs x → Drains N cur due beside' (set vs id w) x
drains_keep N cur due beside beside' vs id v w at masks pinned x h = record {
  due_is = h.due_is;
  mask_is = λ r is. masks r is ∙ h.mask_is r is;
  drained = λ r within. let d = h.drained r within in (
    d.0,
    d.1,
    d.2,
    each_seat (λ i z. z.pin ≢ Some r) vs id w (λ e. d.3 id v at (pinned r d.1 e))
        (λ i u _ e. d.3 i u e),
  );
}

pub bits_stay : (beside : ℕ → ℕ) (ws ws' : List ℕ) (r k : ℕ) → done ws' r ≡ done ws r
    → pin_bit beside ws' r k ≡ pin_bit beside ws r k
bits_stay beside ws ws' r k e = ap (λ (z : ℕ). (bit_at (beside r) k + bit_at z k) % 2) e

-- ---- a pin

abbrev pub turned : ℕ → (ℕ → ℕ) → ℕ → ℕ → ℕ
turned cur beside k r = cond (eqb r cur) (bit_xor (beside r) (2 ^ k)) (beside r)

turned_there : (cur : ℕ) (beside : ℕ → ℕ) (k r : ℕ) → r ≡ cur → turned cur beside k r ≡ bit_xor
    (beside r) (2 ^ k)
turned_there cur beside k r is = ap (λ (b : Bool). cond b (bit_xor (beside r) (2 ^ k)) (beside r))
    (eq-eqb r cur is)

turned_else : (cur : ℕ) (beside : ℕ → ℕ) (k r : ℕ) → r ≢ cur → turned cur beside k r ≡ beside r
turned_else cur beside k r not = ap (λ (b : Bool). cond b (bit_xor (beside r) (2 ^ k)) (beside r))
    (ne_eqb r cur not)

-- the other bits stay
pub pin_elsewhere : (cur : ℕ) (beside : ℕ → ℕ) (ws ws' : List ℕ) (k r b : ℕ) → done ws' r ≡ done ws
    r → r ≢ cur → pin_bit (turned cur beside k) ws' r b ≡ pin_bit beside ws r b
pin_elsewhere cur beside ws ws' k r b same not = bits_stay (turned cur beside k) ws ws' r b same
    ∙ ap (λ (z : ℕ). (bit_at z b + bit_at (done ws r) b) % 2) (turned_else cur beside k r not)

pub pin_others : (cur : ℕ) (beside : ℕ → ℕ) (ws ws' : List ℕ) (k r b : ℕ) → done ws' r ≡ done ws r
    → b ≢ k → pin_bit (turned cur beside k) ws' r b ≡ pin_bit beside ws r b
pin_others cur beside ws ws' k r b same other = bits_stay (turned cur beside k) ws ws' r b same
    ∙ ap (λ (z : ℕ). (z + bit_at (done ws r) b) % 2) (dite (ℕ_discrete r cur)
    (λ is. ap (λ (z : ℕ). bit_at z b) (turned_there cur beside k r is) ∙ bit_other (beside r) k b
    other)
    (λ not. ap (λ (z : ℕ). bit_at z b) (turned_else cur beside k r not)))

module _ (N cur mask : ℕ) (due : Option ℕ) (beside : ℕ → ℕ) (ws ws' : List ℕ) (vs : List View)
    (id : ℕ) (v w : View) (q : Pins N cur mask due beside ws vs) (at : SeatAt vs id v) where
  -- neither CURRENT nor a DONE nor a pin changes
  pub pins_same : get_or ws' 1 0 ≡ get_or ws 1 0 → ((r : ℕ) → r < N + 2 → done ws' r ≡ done ws r)
      → w.number ≡ v.number → w.pin ≡ v.pin
      → (w.turn ≡ true → Drains N cur due beside (set vs id w) w) → Pins N cur mask due beside ws'
      (set vs id w)
  pins_same word dones number pin mine = record {
    few = q.few;
    current = word ∙ q.current;
    small = q.small;
    cur_in = q.cur_in;
    beside_cur = q.beside_cur;
    beside_rest = q.beside_rest;
    due_old = q.due_old;
    due_in = q.due_in;
    seats = each_seat (λ i u. SeatPins N beside ws' u) vs id w
        (seat_keeps N beside beside ws ws' v w (q.seats id v at)
        (λ r _ inside. bits_stay beside ws ws' r (v.number - 1) (dones r inside)) number pin)
        (λ i u _ e. seat_keeps N beside beside ws ws' u u (q.seats i u e)
        (λ r _ inside. bits_stay beside ws ws' r (u.number - 1) (dones r inside)) refl refl);
    holder = each_seat (λ i u. u.turn ≡ true → Drains N cur due beside (set vs id w) u) vs id w mine
        (λ i u _ e on. drains_keep N cur due beside beside vs id v w at (λ r _. refl)
        (λ r _ f. sym pin ∙ f) u (q.holder i u e on));
  }

  -- the holder's own view changes, and not what it knows of pins
  pub drains_same : w.turn ≡ v.turn → w.pin ≡ v.pin → w.due ≡ v.due → w.mask ≡ v.mask
      → w.drained ≡ v.drained → w.turn ≡ true → Drains N cur due beside (set vs id w) w
  drains_same turn pin is_due is_mask is_drained on = let k =
      drains_keep N cur due beside beside vs id v w at (λ r _. refl) (λ r _ f. sym pin ∙ f) v
      (q.holder id v at (sym turn ∙ on)) in record {
        due_is = is_due ∙ k.due_is;
        mask_is = λ r is. k.mask_is r is ∙ sym is_mask;
        drained = λ r within. k.drained r (subst (λ (z : List ℕ). In r z) is_drained within);
      }

  pub pins_pin : (k : ℕ) → get_or ws' 1 0 ≡ cur * masks + bit_xor mask (2 ^ k)
      → ((r : ℕ) → r < N + 2 → done ws' r ≡ done ws r) → v.number ≡ k + 1 → w.number ≡ v.number
      → v.pin ≡ None → w.pin ≡ Some cur
      → v.turn ≡ false → w.turn ≡ v.turn
      → ((i : ℕ) (u : View) → i ≢ id → SeatAt vs i u → u.number ≢ v.number)
      → Pins N cur (bit_xor mask (2 ^ k)) due (turned cur beside k) ws' (set vs id w)
  pins_pin k word dones is number free pin off turn apart = let mine = q.seats id v at in
      let small : k < 32 = (let l = mine.small in omega arith) in
      let bit : w.number - 1 ≡ k = (let e : w.number ≡ k + 1 = number ∙ is in omega arith) in
      let c = q.cur_in in record {
        few = q.few;
        current = word;
        small = xor_small mask k q.small small;
        cur_in = q.cur_in;
        beside_cur = turned_there cur beside k cur refl ∙ ap (λ (z : ℕ). bit_xor z (2 ^ k))
            q.beside_cur;
        beside_rest = λ r other not_due. turned_else cur beside k r other ∙ q.beside_rest r other
            not_due;
        due_old = q.due_old;
        due_in = q.due_in;
        seats = each_seat (λ i u. SeatPins N (turned cur beside k) ws' u) vs id w
            (record {
              small = subst (λ (z : ℕ). z ≤ 32) (sym number) mine.small;
              pinned = λ r e. let same : r ≡ cur = sym (same_Some cur r (sym pin ∙ e)) in (
                (let f = number ∙ is in omega arith),
                subst (λ (z : ℕ). z < N + 2) (sym same) c,
                ap (λ (z : ℕ). pin_bit (turned cur beside k) ws' z (w.number - 1)) same
                    ∙ ap (pin_bit (turned cur beside k) ws' cur) bit ∙ turns,
              );
              unpinned = λ r l inside not. let other : r ≢ cur =
                  λ same. not (pin ∙ ap (λ (z : ℕ). Some z) (sym same)) in
                  ap (pin_bit (turned cur beside k) ws' r) bit ∙ pin_elsewhere cur beside ws ws' k r
                  k (dones r inside) other ∙ ap (pin_bit beside ws r)
                  (let e = is in let f : k ≡ v.number - 1 = omega arith in f)
                  ∙ mine.unpinned r (let e = is in omega arith) inside
                  (λ e. none-some r (sym free ∙ e));
            })
            (λ i u other e. seat_keeps N beside (turned cur beside k) ws ws' u u (q.seats i u e)
            (λ r l inside. pin_others cur beside ws ws' k r (u.number - 1) (dones r inside)
            (λ same. apart i u other e (let f = is in omega arith))) refl refl);
        holder =
            each_seat (λ i u. u.turn ≡ true → Drains N cur due (turned cur beside k) (set vs id w)
            u) vs id w
            (λ on. absurd (let c : true ≡ false = sym on ∙ turn ∙ off in cc))
            (λ i u _ e on. drains_keep N cur due beside (turned cur beside k) vs id v w at
            (λ r d. turned_else cur beside k r
            (λ same. q.due_old (d ∙ ap (λ (z : ℕ). Some z) same)))
            (λ r away f. absurd (away (sym (same_Some cur r (sym pin ∙ f))))) u
            (q.holder i u e on));
      }
    where
      turns : pin_bit (turned cur beside k) ws' cur k ≡ 1
      turns = bits_stay (turned cur beside k) ws ws' cur k (dones cur q.cur_in)
          ∙ ap (λ (z : ℕ). (bit_at z k + bit_at (done ws cur) k) % 2)
          (turned_there cur beside k cur refl)
          ∙ ap (λ (z : ℕ). (z + bit_at (done ws cur) k) % 2) (bit_same (beside cur) k)
          ∙ turn_left (bit_at (beside cur) k) (bit_at (done ws cur) k) (bit_at-lt (beside cur) k)
          (bit_at-lt (done ws cur) k)
          (ap (pin_bit beside ws cur) (let e = is in let f : k ≡ v.number - 1 = omega arith in f)
          ∙ (q.seats id v at).unpinned cur (let e = is in omega arith) q.cur_in
          (λ e. none-some cur (sym free ∙ e)))
