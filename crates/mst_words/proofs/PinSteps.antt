-- A pin and its end keep the rule.
use Rattle.mst_words.proofs.Names.{◌≡◌, ℕ, ◌+◌, ◌-◌, ◌*◌, ◌^◌, ◌<◌, ◌≤◌, ◌≢◌, inl, inr, true, false, Some, None, List, ◌∷◌, length, set, get_or, sym, refl, ap, ◌∙◌, subst, arith, bit_xor, length-set, get_or-set_same, none, same_Some, none-some, Me, step, keeps, stepped, Allows, History, IsPrefix-itself, Pin, Unpin, masks, record_word, row_word, table_words, View, SeatAt, Fits, done, pin_bit, Meaning, IsFramed, field, row, Reads, Turn, Parts, Ruled, IsFree, IsPinned, pins_now, xor_low}
use Rattle.mst_words.specs.Steps.{unpins, forgets}
use Rattle.mst_words.proofs.Places.{place_above}
use Rattle.mst_words.proofs.Worlds.{IsInPlaceOf, world_set, each_dealt}
use Rattle.mst_words.proofs.Turns.{turn_same}
use Rattle.mst_words.proofs.PinParts.{bits_stay, turned, pin_elsewhere, pin_others, pins_pin}
use Rattle.mst_words.proofs.PinMoves.{unpin_others, unpin_turns, pins_unpin}
use Rattle.mst_words.proofs.RowParts.{rows_upper}
use Rattle.mst_words.proofs.Follows.{ruled}
use Rattle.mst_words.proofs.Steps.{stays, St}
use Rattle.mst_words.proofs.Marks.{clear_set, counts_set}
use Rattle.mst_words.proofs.Paths.{path_pin, path_unpin}
use Rattle.mst_words.proofs.Stills.{still_set, still_pin}

module _ {S : Type 0} (T : Meaning S) (framed : IsFramed T) (R N : ℕ) where
  -- other seats have other numbers
  pub apart_from : (s : St T framed R N) (q : Parts T R N s) (id : ℕ) (v : View)
      → SeatAt s.views id v → 0 < v.number → (i : ℕ) (u : View) → i ≢ id → SeatAt s.views i u
      → u.number ≢ v.number
  apart_from s q id v at pos i u other e same =
      other (q.world.apart i id u v e at (subst (λ (z : ℕ). 0 < z) (sym same) pos) same)

  -- a pass has a number up to N
  pub dealt : (s : St T framed R N) (q : Parts T R N s) (i : ℕ) (u : View) → SeatAt s.views i u
      → u.number ≤ N
  dealt s q i u e = let a = (q.world.placed i u e).number in let b = q.world.few in omega arith

  holders : (s : St T framed R N) (q : Parts T R N s) (i : ℕ) (u : View) → SeatAt s.views i u
      → u.turn ≡ true → (0 < u.number) × (u.number ≤ N)
  holders s q i u e on = let h = q.turn.holder i u e on in
      (subst (λ (z : ℕ). 0 < z) (sym h.1) h.0, dealt s q i u e)

  -- ---- a pin

  read_now : (s : St T framed R N) (q : Parts T R N s) (w : View) (n : ℕ) → w.pinned_history ≡ q.log
      → w.pinned_rows ≡ q.used q.cur → w.known_words ≡ s.words → Reads T R N (set s.words 1 n) q.cur
      (q.place q.cur) (q.used q.cur) w
  read_now s q w n place rows known = record {
    place_is = place ∙ sym q.rows.now;
    rows_are = rows;
    fields = λ k l. stays s.words 1 n (record_word q.cur k) (λ f. omega arith)
        ∙ ap (λ (z : List ℕ). field z q.cur k) (sym known);
    kept = λ x within k l. stays s.words 1 n (row_word R x k)
        (λ f. let a = place_above R x k in omega (arith, a, f))
        ∙ ap (λ (z : List ℕ). row R z x k) (sym known);
  }

  -- the bit k is that of the pass
  pub pinned_now : (s : St T framed R N) (q : Parts T R N s) (id n k : ℕ) (cs : List (ℕ × S))
      (v : View) → SeatAt s.views id v → v.turn ≡ false → v.pin ≡ None → v.number ≡ k + 1
      → n ≡ bit_xor (get_or s.words 1 0) (2 ^ k)
      → Parts T R N
      (stepped s 1 n id cs
      (record v {
        pin = Some q.cur;
        pinned_history = q.log;
        pinned_rows = q.used q.cur;
        known_words = s.words;
        asked = v.asked + 1;
      }) keeps)
  pinned_now s q id n k cs v at off free number word = let ws : List ℕ = set s.words 1 n in
      let w : View = record v {
        pin = Some q.cur;
        pinned_history = q.log;
        pinned_rows = q.used q.cur;
        known_words = s.words;
        asked = v.asked + 1;
      } in
      let small : k < 32 = (let l = (q.pins.seats id v at).small in omega arith) in
      let pos : 0 < v.number = omega arith in let apart = apart_from s q id v at pos in
      let now : n ≡ q.cur * masks + bit_xor q.mask (2 ^ k) =
      word ∙ ap (λ (z : ℕ). bit_xor z (2 ^ k)) q.pins.current ∙ xor_low q.cur q.mask k
      q.pins.small small in
      let done_same : (r : ℕ) → done ws r ≡ done s.words r =
      λ r. stays s.words 1 n (r + 2) (λ f. omega arith) in record {
        log = q.log;
        next = q.next;
        cur = q.cur;
        mask = bit_xor q.mask (2 ^ k);
        due = q.due;
        beside = turned q.cur q.beside k;
        desk = q.desk;
        place = q.place;
        used = q.used;
        wide = length-set s.words 1 n ∙ q.wide;
        turn = subst (λ (z : ℕ). Turn T R N z s.homes q.desk q.due q.log (set s.views id w))
            (sym (stays s.words 1 n 0 (λ f. omega arith)))
            (turn_same T R N _ s.homes q.desk q.due q.log s.views id v w q.turn at refl refl
            (λ on. absurd (let c : true ≡ false = sym on ∙ off in cc)));
        pins = pins_pin N q.cur q.mask q.due q.beside s.words ws s.views id v w q.pins at k
            (get_or-set_same s.words 1 n 0 (let a = q.wide in omega arith) ∙ now)
            (λ r _. done_same r) number refl free refl off refl apart;
        rows = rows_upper T framed R N q.cur s.words q.log q.desk q.place q.used s.views id v q.rows
            at ws w (λ j l. stays s.words 1 n j (λ f. omega arith)) (length-set s.words 1 n)
            (λ r e. let same : q.cur ≡ r = same_Some q.cur r e in (
              inl (sym same),
              subst (λ (z : ℕ). Reads T R N ws z (q.place z) (q.used z) w) same
                  (read_now s q w n refl refl refl),
            ))
            (λ on. absurd (let c : true ≡ false = sym on ∙ off in cc));
        world = world_set R N T.first q.next q.log s.views id v w q.world at
            (record { number = refl; deals = refl; rows = refl; passes = refl; format = refl })
            (let f = q.world.fits id v at in
            record {
              seen = f.seen;
              told = f.told;
              own = f.own;
              mine = f.mine;
              pinned = λ r _. (IsPrefix-itself q.log, f.own);
            });
        clear = clear_set N q.beside (turned q.cur q.beside k) s.words ws s.views id v w q.clear at
            q.cur k (λ r b l other. pin_others q.cur q.beside s.words ws k r b (done_same r) other)
            (λ r b l other. pin_elsewhere q.cur q.beside s.words ws k r b (done_same r) other)
            number refl (λ r e. absurd (none-some r (sym free ∙ e))) (inl refl);
        counts = counts_set N q.cur s.views id v w q.counts at refl (inr (inr refl))
            (λ on. absurd (let c : true ≡ false = sym on ∙ off in cc));
        path =
            record {
              moves = Pin v.number ∷ q.path.moves;
              is =
                  path_pin N q.cur q.due s.views id v w q.path.moves q.path.is at refl free refl
                  apart pos
                  (dealt s q id v at);
            };
        still = still_pin N (get_or s.words 1 0) (get_or ws 1 0) s.views id w v off pos
            (dealt s q id v at) apart (holders s q);
      }

  pub pins_now_allows : (slots id b number : ℕ) (me : Me S View) → b ≡ 2 ^ (number - 1)
      → IsFree number me → Allows (Ruled T R N) slots id me 1 (λ n. bit_xor n b)
      (pins_now T (step slots 1 b 0 none) me)
  pins_now_allows slots id b number me power free s whole _ at _ = let q =
      whole.parts in let v : View = me.0 in let w : View =
      record v {
        pin = Some q.cur;
        pinned_history = q.log;
        pinned_rows = q.used q.cur;
        known_words = s.words;
        asked = v.asked + 1;
      } in
      let stood = q.rows.live q.cur (inl refl) in let place = q.world.placed id v at in let fits =
      q.world.fits id v at in (
        w,
        keeps,
        tt,
        ruled T framed R N _ (pinned_now s q id (bit_xor (get_or s.words 1 0) b) (number - 1) me.1 v
            at free.1 free.2 (let a = free.3 in let p = free.4 in omega arith)
            (ap (bit_xor (get_or s.words 1 0)) power)),
        (
          refl,
          record {
            cur = q.cur;
            mask = q.mask;
            log = q.log;
            words = s.words;
            used = q.used q.cur;
            found_is = q.pins.current;
            small = q.pins.small;
            in_table = subst (λ (z : ℕ). q.cur < z + 2) (sym place.passes_is) q.pins.cur_in;
            wide = q.wide ∙ ap (λ (z : ℕ). table_words z) (sym place.rows_is);
            later = fits.seen;
            own = fits.own;
            alone = each_dealt R N T.first q.next q.log s.views id v q.world at;
            version = stood.version ∙ ap (λ (l : History). length l) q.rows.now;
            stands =
                subst (λ (r : ℕ). T.Stands (row r s.words) (field s.words q.cur) (T.after q.log)
                (q.used q.cur)) (sym place.rows_is)
                (subst (λ (l : History). T.Stands (row R s.words) (field s.words q.cur) (T.after l)
                (q.used q.cur)) q.rows.now stood.stands);
            inside = λ x within. subst (λ (z : ℕ). x < z) (sym place.rows_is)
                (stood.inside x within);
            is = refl;
          },
        ),
      )

  -- ---- the end of a pin

  ended : (s : St T framed R N) (q : Parts T R N s) (id o n k : ℕ) (cs : List (ℕ × S)) (v w : View)
      → SeatAt s.views id v → IsInPlaceOf v w → v.pin ≡ Some o → v.turn ≡ false → v.number ≡ k + 1
      → w.pin ≡ None → w.turn ≡ v.turn → Fits q.log w
      → n ≡ bit_xor (done s.words o) (2 ^ k) → Parts T R N (stepped s (o + 2) n id cs w keeps)
  ended s q id o n k cs v w at same pinned off number free turn fits word = let ws : List ℕ =
      set s.words (o + 2) n in let few = q.pins.few in let mine =
      (q.pins.seats id v at).pinned o pinned in let inside : o < N + 2 = mine.1 in
      let off_now : w.turn ≡ false = turn ∙ off in let apart = apart_from s q id v at mine.0 in
      let here : done ws o ≡ bit_xor (done s.words o) (2 ^ k) =
      get_or-set_same s.words (o + 2) n 0 (let a = q.wide in omega arith) ∙ word in
      let elsewhere : (r : ℕ) → r ≢ o → done ws r ≡ done s.words r =
      λ r other. stays s.words (o + 2) n (r + 2) (λ f. other (omega arith)) in record {
        log = q.log;
        next = q.next;
        cur = q.cur;
        mask = q.mask;
        due = q.due;
        beside = q.beside;
        desk = q.desk;
        place = q.place;
        used = q.used;
        wide = length-set s.words (o + 2) n ∙ q.wide;
        turn = subst (λ (z : ℕ). Turn T R N z s.homes q.desk q.due q.log (set s.views id w))
            (sym (stays s.words (o + 2) n 0 (λ f. omega arith)))
            (turn_same T R N _ s.homes q.desk q.due q.log s.views id v w q.turn at same.number turn
            (λ on. absurd (let c : true ≡ false = sym on ∙ off in cc)));
        pins = pins_unpin N q.cur q.mask q.due q.beside s.words ws s.views id v w q.pins at k o
            (stays s.words (o + 2) n 1 (λ f. omega arith)) here (λ r _ other. elsewhere r other)
            number same.number pinned free off turn apart;
        rows = rows_upper T framed R N q.cur s.words q.log q.desk q.place q.used s.views id v q.rows
            at ws w (λ j l. stays s.words (o + 2) n j (λ f. omega arith))
            (length-set s.words (o + 2) n)
            (λ r e. absurd (none-some r (sym free ∙ e)))
            (λ on. absurd (let c : true ≡ false = sym on ∙ off_now in cc));
        world = world_set R N T.first q.next q.log s.views id v w q.world at same fits;
        clear = clear_set N q.beside q.beside s.words ws s.views id v w q.clear at o k
            (λ r b _ other. unpin_others q.beside s.words ws k o here r b (elsewhere r) other)
            (λ r b _ other. bits_stay q.beside s.words ws r b (elsewhere r other))
            number same.number (λ r e. sym (same_Some o r (sym pinned ∙ e)))
            (inr (unpin_turns q.beside s.words ws k o here
            (ap (pin_bit q.beside s.words o) (let g : k ≡ v.number - 1 = omega arith in g)
            ∙ mine.2)));
        counts = counts_set N q.cur s.views id v w q.counts at same.number (inr (inl free))
            (λ on. absurd (let c : true ≡ false = sym on ∙ off_now in cc));
        path =
            record {
              moves = Unpin v.number ∷ q.path.moves;
              is =
                  path_unpin N q.cur q.due s.views id v w q.path.moves q.path.is at o same.number
                  pinned
                  free apart mine.0;
            };
        still = still_set N (get_or s.words 1 0) (get_or ws 1 0) s.views id w q.still
            (stays s.words (o + 2) n 1 (λ f. omega arith))
            (λ on. absurd (let c : true ≡ false = sym on ∙ off_now in cc));
      }

  -- the history at the pin is seen
  pub unpins_allows : (slots id o b number : ℕ) (me : Me S View) → b ≡ 2 ^ (number - 1) → 0 < number
      → IsPinned number o me → Allows (Ruled T R N) slots id me (o + 2) (λ n. bit_xor n b)
      (unpins (step slots (o + 2) b 0 none) me)
  unpins_allows slots id o b number me power pos pinned s whole _ at _ = let q =
      whole.parts in let v : View = me.0 in let w : View =
      record v { pin = None; seen = v.pinned_history } in let fits = q.world.fits id v at in (
        w,
        keeps,
        tt,
        ruled T framed R N _ (ended s q id o (bit_xor (done s.words o) b) (number - 1) me.1 v w at
            (record { number = refl; deals = refl; rows = refl; passes = refl; format = refl })
            pinned.0
            pinned.1 (let a = pinned.2 in omega arith) refl refl
            (record {
              seen = (fits.pinned o pinned.0).0;
              told = fits.told;
              own = fits.own;
              mine = λ _. (fits.pinned o pinned.0).1;
              pinned = λ r is. absurd (none-some r is);
            })
            (ap (bit_xor (done s.words o)) power)),
        ((o, pinned.0, refl), refl),
      )

  -- nothing more is seen
  pub forgets_allows : (slots id o b number : ℕ) (me : Me S View) → b ≡ 2 ^ (number - 1)
      → 0 < number → IsPinned number o me → Allows (Ruled T R N) slots id me (o + 2)
      (λ n. bit_xor n b) (forgets (step slots (o + 2) b 0 none) me)
  forgets_allows slots id o b number me power pos pinned s whole _ at _ = let q =
      whole.parts in let v : View = me.0 in let w : View = record v { pin = None } in let fits =
      q.world.fits id v at in (
        w,
        keeps,
        tt,
        ruled T framed R N _ (ended s q id o (bit_xor (done s.words o) b) (number - 1) me.1 v w at
            (record { number = refl; deals = refl; rows = refl; passes = refl; format = refl })
            pinned.0
            pinned.1 (let a = pinned.2 in omega arith) refl refl
            (record {
              seen = fits.seen;
              told = fits.told;
              own = fits.own;
              mine = fits.mine;
              pinned = λ r is. absurd (none-some r is);
            }) (ap (bit_xor (done s.words o)) power)),
        ((o, pinned.0, refl), refl),
      )
