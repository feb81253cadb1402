-- The rule at the start, and a pass more.
use Rattle.mst_words.proofs.Names.{◌≡◌, ℕ, zero, suc, ◌+◌, ◌-◌, ◌%◌, ◌<◌, ◌≤◌, ◌≢◌, inl, true, false, List, [], ◌∷◌, ◌++◌, length, set, get_or, Some, None, sym, refl, ap, ◌∙◌, subst, ⊎_elim, arith, lit<, bit_at, none-some, bit_at-zero, some-injective, some-ne-none, State, opening, Splits, IsPrefix-nil, first_record, table_words, View, DeskState, SeatAt, Fits, IsPlaced, dealer, having_dealt, newcomer, done, pin_bit, SeatPins, Meaning, IsFramed, Standing, Parts, Ruled}
use Rattle.mst_words.proofs.Worlds.{world_deal}
use Rattle.mst_words.proofs.Turns.{turn_same}
use Rattle.mst_words.proofs.PinParts.{pins_same}
use Rattle.mst_words.proofs.RowParts.{rows_upper, pin_stays}
use Rattle.mst_words.proofs.Marks.{clear_same, counts_same}
use Rattle.mst_words.proofs.Paths.{path_same, path_opening, no_pin}
use Rattle.mst_words.proofs.Stills.{still_same}
use Rattle.mst_words.proofs.Seats.{each_seat}
use Rattle.mst_words.proofs.Follows.{ruled}
use Rattle.mst_words.proofs.Seated.{off_true, free_pins, turn_more, rows_more, pins_more, clear_more, counts_more, path_more, still_more}

module _ {S : Type 0} (T : Meaning S) (framed : IsFramed T) (R N : ℕ) where
  -- ---- a pass more

  -- no seat has the number of the next pass yet
  pub unseated : (s : State S View) (q : Parts T R N s) (id : ℕ) (v : View) → SeatAt s.views id v
      → 0 < v.deals → (i : ℕ) (u : View) → SeatAt s.views i u → u.number ≡ v.deals → ⊥
  unseated s q id v at some_deal i u e same = let below = (q.world.placed i u e).number in let is =
      ((q.world.placed id v at).deals some_deal).0 in absurd (omega arith)

  -- so no bit of it is set
  zero_bit : (s : State S View) (q : Parts T R N s) (id : ℕ) (v : View) → SeatAt s.views id v
      → 0 < v.deals → (r : ℕ) → r < N + 2 → pin_bit q.beside s.words r (v.deals - 1) ≡ 0
  zero_bit s q id v at some_deal r inside = let b : ℕ = bit_at (q.beside r) (v.deals - 1) + bit_at
      (done s.words r) (v.deals - 1) in
      let m : b % 2 ≢ 1 = λ e. let t = q.clear.seat_of r (v.deals - 1) inside e in
      unseated s q id v at some_deal t.0 t.1 t.2
      (let f = t.3 in let g = some_deal in omega arith) in
      let g : b % 2 ≡ 0 = omega arith in g

  pub deal_splits : (id : ℕ) (v : View) → v.turn ≡ false → v.pin ≡ None → 0 < v.deals
      → v.deals ≤ v.passes → Splits (Ruled T R N) id v (having_dealt v) (newcomer v)
  deal_splits id v off free some_deal left s whole at = let q = whole.parts in let w : View =
      having_dealt v in let n : View = newcomer v in let vs : List View = set s.views id w in
      let few = q.pins.few in let size = (q.world.placed id v at).passes_is in
      ruled T framed R N record { words = s.words; homes = s.homes; views = vs ++ n ∷ [] } record {
        log = q.log;
        next = q.next + 1;
        cur = q.cur;
        mask = q.mask;
        due = q.due;
        beside = q.beside;
        desk = q.desk;
        place = q.place;
        used = q.used;
        wide = q.wide;
        turn = turn_more T R N (get_or s.words 0 0) s.homes q.desk q.due q.log vs n
            (turn_same T R N (get_or s.words 0 0) s.homes q.desk q.due q.log s.views id v w q.turn
            at refl refl (λ on. off_true v off on)) refl;
        pins = pins_more N q.cur q.mask q.due q.beside s.words vs n
            (pins_same N q.cur q.mask q.due q.beside s.words s.words s.views id v w q.pins at refl
            (λ _ _. refl) refl refl (off_true w off)) refl refl (record {
              small = omega (arith, left, few, size);
              pinned = λ r is. absurd (none-some r is);
              unpinned = λ r _ inside _. zero_bit s q id v at some_deal r inside;
            });
        rows = rows_more T R N q.cur s.words q.log q.desk q.place q.used vs n
            (rows_upper T framed R N q.cur s.words q.log q.desk q.place q.used s.views id v q.rows
            at s.words w (λ k _. refl) refl
            (pin_stays T framed R N q.cur s.words q.log q.desk q.place q.used s.views id v q.rows at
            s.words w (λ k _. refl) refl refl refl refl) (off_true w off)) refl refl;
        world = world_deal R N T.first q.next q.log s.views id v q.world at some_deal left;
        clear =
            clear_more N q.beside s.words vs n
            (clear_same N q.beside q.beside s.words s.words s.views id v w q.clear at
            (λ r k _. refl) refl refl);
        counts =
            counts_more N q.cur vs n
            (counts_same N q.cur s.views id v w q.counts at refl (inl refl) refl refl) refl refl;
        path = record {
          moves = q.path.moves;
          is =
              (let moved = path_same N q.cur q.due s.views id v w q.path.moves q.path.is at refl
              refl in path_more N q.cur q.due vs n q.path.moves moved
              (λ _. no_pin N q.cur q.due vs q.path.moves moved v.deals
              (each_seat (λ i u. u.number ≡ v.deals → ⊥) s.views id w
              (unseated s q id v at some_deal id v at)
              (λ i u _ e. unseated s q id v at some_deal i u e))));
        };
        still =
            still_more N (get_or s.words 1 0) vs n
            (still_same N (get_or s.words 1 0) (get_or s.words 1 0) s.views id w v q.still at refl
            refl refl) refl;
      }

  -- ---- the table at the start

  -- the dealer's seat is the only one
  one : (i : ℕ) (u : View) → SeatAt (dealer R N T.first 1 ∷ []) i u → dealer R N T.first 1 ≡ u
  one zero u e = some-injective (dealer R N T.first 1) u e
  one (suc i) u e = absurd (some-ne-none u (sym e))

  here : (i : ℕ) (u : View) → SeatAt (dealer R N T.first 1 ∷ []) i u → i ≡ 0
  here zero u e = refl
  here (suc i) u e = absurd (some-ne-none u (sym e))

  off : {A : Type 0} (i : ℕ) (u : View) → SeatAt (dealer R N T.first 1 ∷ []) i u → u.turn ≡ true → A
  off i u e on = off_true u (ap (λ (z : View). z.turn) (sym (one i u e))) on

  free_too : {A : Type 0} (i : ℕ) (u : View) (r : ℕ) → SeatAt (dealer R N T.first 1 ∷ []) i u
      → u.pin ≡ Some r → A
  free_too i u r e pin = free_pins u r (ap (λ (z : View). z.pin) (sym (one i u e))) pin

  pub opens : (ws : List ℕ) (x : S) (d : DeskState) → length ws ≡ table_words R
      → ((i : ℕ) → i < first_record → get_or ws i 0 ≡ 0) → N ≤ 32 → T.IsDesk x R N d → d.current ≡ 0
      → Standing T R N ws [] d 0 [] []
      → Ruled T R N (opening ws (x ∷ []) (dealer R N T.first 1))
  opens ws x d wide front few is_desk current stands =
      ruled T framed R N (opening ws (x ∷ []) (dealer R N T.first 1)) record {
        log = [];
        next = 1;
        cur = 0;
        mask = 0;
        due = None;
        beside = λ r. 0;
        desk = d;
        place = λ r. [];
        used = λ r. [];
        wide = wide;
        turn = record {
          free = λ _. (x, refl, is_desk, refl);
          taken = λ l. absurd (let f = front 0 (omega arith) in omega arith);
          holder = λ i u e on. off i u e on;
        };
        pins = record {
          few = few;
          current = front 1 (omega arith);
          small = lit< tt;
          cur_in = omega arith;
          beside_cur = refl;
          beside_rest = λ r _ _. refl;
          due_old = λ e. none-some 0 e;
          due_in = λ r e. absurd (none-some r e);
          seats = λ i u e. subst (SeatPins N (λ r. 0) ws) (one i u e)
              record {
                small = omega arith;
                pinned = λ r is. absurd (none-some r is);
                unpinned = λ r l _ _. absurd (omega arith);
              };
          holder = λ i u e on. off i u e on;
        };
        rows = record {
          now = refl;
          desk_at = current;
          short = omega arith;
          live =
              λ r l. ⊎_elim (λ (is : r ≡ 0). subst (λ (z : ℕ). Standing T R N ws [] d z [] [])
              (sym is)
              stands)
              (λ (t : (i : ℕ) × (u : View) × SeatAt (dealer R N T.first 1 ∷ []) i u
              × (u.pin ≡ Some r)).
              free_too t.0 t.1 r t.2 t.3) l;
          reads = λ i u e r pin. free_too i u r e pin;
          held = λ i u e on. off i u e on;
        };
        world = record {
          fits =
              λ i u e. subst (Fits []) (one i u e)
              (record {
                seen = IsPrefix-nil [];
                told = IsPrefix-nil [];
                own = refl;
                mine = λ _. refl;
                pinned = λ r is. absurd (none-some r is);
              });
          placed = λ i u e. subst (IsPlaced R N T.first 1) (one i u e)
              (record {
                rows_is = refl;
                passes_is = refl;
                format_is = refl;
                number = omega arith;
                deals = λ _. (refl, refl);
              });
          apart = λ i j a b p q _ _. here i a p ∙ sym (here j b q);
          seated = λ p pos below. absurd (omega arith);
          dealer = λ i j a b p q _ _. here i a p ∙ sym (here j b q);
          few = omega arith;
          named = λ k e l. absurd (omega arith);
        };
        clear =
            record {
              seat_of =
                  λ r k l e. absurd (let z : pin_bit (λ r. 0) ws r k ≡ 0 =
                  ap (λ (z : ℕ). (bit_at 0 k + bit_at z k) % 2) (front (r + 2) (omega arith))
                  ∙ ap (λ (z : ℕ). (z + z) % 2) (bit_at-zero k) in let c : 1 ≡ 0 =
                  sym e ∙ z in omega arith);
            };
        counts = record { blamed = λ i u e on. off i u e on };
        path = record { moves = []; is = path_opening R N T.first };
        still = record { noted = λ i u e on. off i u e on };
      }
