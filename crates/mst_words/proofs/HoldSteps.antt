-- Publication, transfer and ask keep the rule.
use Rattle.mst_words.proofs.Names.{◌≡◌, ℕ, ◌+◌, ◌*◌, ◌%◌, ◌^◌, ◌<◌, ◌≤◌, ◌≢◌, inl, inr, true, Some, None, List, [], ◌∷◌, ◌++◌, length, set, get_or, sym, refl, ap, ◌∙◌, subst, arith, bit_xor, length-set, get_or-set_same, dite, some, none, ℕ_discrete, bit_at, bit_at-zero, Me, step, keeps, stepped, Allows, Publish, Transfer, masks, first_record, View, Event, DeskState, History, last_version, In, done, pin_bit, Blamed, Meaning, IsFramed, IsLive, Agrees, Standing, Turn, Parts, Ruled, IsReady, publishes, transfers, IsHolder, asks}
use lib.ListN.{get_elem?}
use Rattle.std.specs.Int.{trailing_zeros, w64}
use Rattle.std.proofs.lemmas.Nat.Bits.{bit_at-trailing_zeros}
use Rattle.mst_words.specs.Steps.{notes_current, asks_current, found_now}
use Rattle.mst_words.proofs.Worlds.{world_set, world_add}
use Rattle.mst_words.proofs.Seats.{same_view}
use Rattle.mst_words.proofs.Turns.{turn_held, only_one}
use Rattle.mst_words.proofs.PinParts.{bits_stay, drains_same}
use Rattle.mst_words.proofs.PinMoves.{cleared, transfer_bits, pins_publish, pins_transfer, drains_ask}
use Rattle.mst_words.proofs.RowParts.{kept_upper, held_upper, agrees_same, standing_same, rows_upper, pin_stays, rows_publish}
use Rattle.mst_words.proofs.Follows.{live_not_drained, ruled}
use Rattle.mst_words.proofs.Steps.{stays, St}
use Rattle.mst_words.proofs.Marks.{clear_same, counts_set, counts_same, counts_none, blamed_keep, blamed_more, blamed_few}
use Rattle.mst_words.proofs.Paths.{path_publish, path_transfer}
use Rattle.mst_words.proofs.Looked.{looked, counted}
use Rattle.mst_words.proofs.Stills.{still_new, still_set, still_same, alone}

module _ {S : Type 0} (T : Meaning S) (framed : IsFramed T) (R N : ℕ) where
  -- ---- a publication
  pub publishes_allows : (slots id b into : ℕ) (e : Event) (d : DeskState) (u : List ℕ)
      (me : Me S View) → IsReady T into e d u me.0 → b ≡ into * masks
      → Allows (Ruled T R N) slots id me 1 (λ _. b) (publishes e d (step slots 1 b 0 none) me)
  publishes_allows slots id b into e d u me ready is s whole _ at _ = let q =
      whole.parts in let v : View = me.0 in let on = ready.on in let place =
      q.world.placed id v at in let h = q.turn.holder id v at on in let known =
      q.pins.holder id v at on in
      let w : View = record v {
        seen = v.seen ++ e ∷ [];
        mine = v.mine ++ e ∷ [];
        due = Some v.desk.current;
        mask = q.mask;
        drained = [];
        blocked = [];
        noted = None;
        desk = d;
        asked = v.asked + 1;
      } in let ws : List ℕ = set s.words 1 b in let longer : History =
      q.log ++ e ∷ [] in
      let only = only_one T R N _ _ _ _ _ s.views id v q.turn at on q.world.apart in let mine =
      known.drained into ready.drained in let held = q.rows.held id v at on in
      let upper : (k : ℕ) → first_record ≤ k → get_or ws k 0 ≡ get_or s.words k 0 =
      λ k l. stays s.words 1 b k (λ f. omega arith) in
      let new : Standing T R N ws longer d into longer u =
      subst (λ (l : History). Standing T R N ws (l ++ e ∷ []) d into (l ++ e ∷ []) u) h.2
      (standing_same T framed R N v.known_words ws (v.seen ++ e ∷ []) d d into (v.seen ++ e ∷ []) u
      (rw (sym place.rows_is) (rw (sym place.passes_is) ready.stands))
      (kept_upper R v.known_words ws (λ k l. upper k l ∙ held.1 k l) into u)
      (agrees_same T framed R N d into)) in
      let cur_now : q.cur ≡ v.desk.current = sym q.rows.desk_at ∙ ap (λ (z : DeskState). z.current)
      (sym h.3) in let due_now : w.due ≡ Some q.cur = ap Some (sym cur_now) in
      let agree : (r : ℕ) → IsLive q.cur s.views r → Agrees T q.desk d r =
      λ r l. subst (λ (z : DeskState). Agrees T z d r) h.3
      (ready.agrees r
      (subst (λ (n : ℕ). r < n + 2) (sym place.passes_is) (q.rows.live r l).numbered)
      (live_not_drained N q.cur q.due q.beside s.views v known r l)) in
      let rows = rows_publish T framed R N q.cur s.words q.log q.desk q.place q.used s.views id v
      q.rows at into ws e d u w upper (length-set s.words 1 b) ready.desk_at
      (subst (λ (l : History). length l < last_version) h.2 ready.room) mine.3 new agree
      refl refl refl refl refl in (
        w,
        keeps,
        tt,
        ruled T framed R N (stepped s 1 b id me.1 w keeps) record {
          log = longer;
          next = q.next;
          cur = into;
          mask = 0;
          due = Some q.cur;
          beside = q.beside;
          desk = d;
          place = rows.0;
          used = rows.1;
          wide = length-set s.words 1 b ∙ q.wide;
          turn = subst (λ (z : ℕ). Turn T R N z s.homes d (Some q.cur) longer (set s.views id w))
              (sym (stays s.words 1 b 0 (λ f. omega arith)))
              (turn_held T R N _ s.homes q.desk d q.due (Some q.cur) q.log longer s.views id v w
              q.turn at on only refl on (ap (λ (l : History). l ++ e ∷ []) h.2) refl);
          pins = pins_publish N q.cur q.mask q.due q.beside s.words ws s.views id v w q.pins at into
              (get_or-set_same s.words 1 b 0 (let a = q.wide in omega arith)
              ∙ (let f = is in omega arith))
              (λ r l. stays s.words 1 b (r + 2) (λ f. omega arith)) mine.0 mine.1
              (sym known.due_is ∙ ready.settled) refl refl due_now refl refl only;
          rows = rows.2;
          world = world_add R N T.first q.next q.log s.views id v w e q.world at
              (record { number = refl; deals = refl; rows = refl; passes = refl; format = refl })
              refl ready.mine (subst (λ (z : ℕ). 0 < z) (sym h.1) h.0)
              (ap (λ (l : History). l ++ e ∷ []) h.2) refl ready.unpinned;
          clear = clear_same N q.beside q.beside s.words ws s.views id v w q.clear at
              (λ r k l. bits_stay q.beside s.words ws r k
              (stays s.words 1 b (r + 2) (λ f. omega arith))) refl refl;
          counts = counts_none N q.cur into s.views id w refl only;
          path =
              record {
                moves = Publish into 0 ∷ q.path.moves;
                is =
                    path_publish N q.cur q.due s.views id v w q.path.moves q.path.is at into refl
                    refl
                    (sym known.due_is ∙ ready.settled) mine.0 mine.1 mine.3;
              };
          still = still_new N (get_or s.words 1 0) (get_or ws 1 0) s.views id w
              (λ _ _ k is. absurd (let c : None ≡ Some k = is in cc))
              (λ i x away f own _. away (only i x f own));
        },
        (
          refl,
          record {
            mask = q.mask;
            small = q.pins.small;
            returned = q.pins.current ∙ ap (λ (z : ℕ). z * masks + q.mask) cur_now;
            is = refl;
          },
        ),
      )

  -- ---- the transfer
  pub transfers_allows : (slots id o b : ℕ) (me : Me S View) → me.0.turn ≡ true → me.0.due ≡ Some o
      → b ≡ me.0.mask → Allows (Ruled T R N) slots id me (o + 2) (λ n. bit_xor n b)
      (transfers (step slots (o + 2) b 0 none) me)
  transfers_allows slots id o b me on is_due is s whole _ at _ = let q =
      whole.parts in let v : View = me.0 in let w : View = record v { due = None } in let n : ℕ =
      bit_xor (get_or s.words (o + 2) 0) b in let ws : List ℕ = set s.words (o + 2) n in
      let h = q.turn.holder id v at on in let known = q.pins.holder id v at on in
      let inside : o < N + 2 = q.pins.due_in o (sym known.due_is ∙ is_due) in let few =
      q.pins.few in
      let only = only_one T R N _ _ _ _ _ s.views id v q.turn at on q.world.apart in
      let upper : (k : ℕ) → first_record ≤ k → get_or ws k 0 ≡ get_or s.words k 0 =
      λ k l. stays s.words (o + 2) n k (λ f. omega arith) in
      let here : done ws o ≡ bit_xor (done s.words o) b =
      get_or-set_same s.words (o + 2) n 0 (let a = q.wide in omega arith) in
      let pins = pins_transfer N q.cur q.mask q.due q.beside s.words ws s.views id v w q.pins at o
      (stays s.words (o + 2) n 1 (λ f. omega arith))
      (here ∙ ap (λ (z : ℕ). bit_xor (done s.words o) z) is)
      (λ r l other. stays s.words (o + 2) n (r + 2) (λ f. other (omega arith)))
      on is_due refl refl refl refl only in (
        w,
        keeps,
        tt,
        ruled T framed R N (stepped s (o + 2) n id me.1 w keeps) record {
          log = q.log;
          next = q.next;
          cur = q.cur;
          mask = q.mask;
          due = None;
          beside = cleared q.beside o;
          desk = q.desk;
          place = q.place;
          used = q.used;
          wide = length-set s.words (o + 2) n ∙ q.wide;
          turn = subst (λ (z : ℕ). Turn T R N z s.homes q.desk None q.log (set s.views id w))
              (sym (stays s.words (o + 2) n 0 (λ f. omega arith)))
              (turn_held T R N _ s.homes q.desk q.desk q.due None q.log q.log s.views id v w q.turn
              at on only refl on h.2 h.3);
          pins = pins;
          rows = rows_upper T framed R N q.cur s.words q.log q.desk q.place q.used s.views id v
              q.rows at ws w upper (length-set s.words (o + 2) n)
              (pin_stays T framed R N q.cur s.words q.log q.desk q.place q.used s.views id v q.rows
              at ws w upper refl refl refl refl)
              (λ _. held_upper T framed R N s.words ws v w upper (length-set s.words (o + 2) n) refl
              (q.rows.held id v at on));
          world = world_set R N T.first q.next q.log s.views id v w q.world at
              (record { number = refl; deals = refl; rows = refl; passes = refl; format = refl })
              (let f = q.world.fits id v at in
              record {
                seen = f.seen;
                told = f.told;
                own = f.own;
                mine = f.mine;
                pinned = f.pinned;
              });
          clear = clear_same N q.beside (cleared q.beside o) s.words ws s.views id v w q.clear at
              (λ r k l. transfer_bits q.beside s.words ws o
              (here ∙ ap (bit_xor (done s.words o))
              (is ∙ sym (known.mask_is o (sym known.due_is ∙ is_due)))) r k
              (λ other. stays s.words (o + 2) n (r + 2) (λ f. other (omega arith)))) refl refl;
          counts = counts_same N q.cur s.views id v w q.counts at refl (inl refl) refl refl;
          path =
              record {
                moves = Transfer ∷ q.path.moves;
                is =
                    path_transfer N q.cur q.due s.views id v w q.path.moves q.path.is at o refl refl
                    (sym known.due_is ∙ is_due);
              };
          still = still_same N (get_or s.words 1 0) (get_or ws 1 0) s.views id w v q.still at
              (stays s.words (o + 2) n 1 (λ f. omega arith)) refl refl;
        },
        ((o, is_due, refl), refl),
      )

  -- ---- a record is asked

  -- a DONE that is not 0 has a bit, and a seat pins by it
  some_seat : (s : St T framed R N) (q : Parts T R N s) (r : ℕ) → r < N + 2 → r ≢ q.cur
      → q.due ≢ Some r → done s.words r ≢ 0 → done s.words r < 2 ^ 64 → (i : ℕ)
      × (u : View) × (get_elem? s.views i ≡ some u) × (u.pin ≡ Some r)
  some_seat s q r inside not_cur not_due some_there small = let b =
      bit_at-trailing_zeros w64 (done s.words r) (let n = some_there in omega arith) small in
      let k : ℕ = trailing_zeros w64 (done s.words r) in
      let bits : pin_bit q.beside s.words r k ≡ 1 =
      ap (λ (z : ℕ). (bit_at z k + bit_at (done s.words r) k) % 2)
      (q.pins.beside_rest r not_cur not_due)
      ∙ ap (λ (z : ℕ). (z + bit_at (done s.words r) k) % 2) (bit_at-zero k)
      ∙ ap (λ (z : ℕ). (0 + z) % 2) b.1 in
      let t = q.clear.seat_of r k inside bits in (t.0, t.1, t.2, t.4)

  -- the holder pins nothing, so a seat that pins is another pass
  apart_numbers : (s : St T framed R N) (q : Parts T R N s) (id i : ℕ) (v u : View) (r : ℕ)
      → get_elem? s.views id ≡ some v → get_elem? s.views i ≡ some u → v.pin ≡ None → u.pin ≡ Some r
      → u.number ≢ v.number
  apart_numbers s q id i v u r at e free pins same = let here =
      q.world.apart i id u v e at ((q.pins.seats i u e).pinned r pins).0 same in
      absurd (let g : Some r ≡ None =
      sym pins ∙ ap (λ (z : View). z.pin)
      (same_view s.views id u v (subst (λ (z : ℕ). get_elem? s.views z ≡ some u) here e) at)
      ∙ free in cc)

  few_left : (l : List ℕ) (r n : ℕ) → length (r ∷ l) < n → length l + 1 < n
  few_left l r n h = omega arith

  -- a dealt pass has a number up to N
  dealt : (s : St T framed R N) (q : Parts T R N s) (i : ℕ) (u : View) → get_elem? s.views i ≡ some
      u → u.number < N + 1
  dealt s q i u e = let a = (q.world.placed i u e).number in let b = q.world.few in omega arith

  left : (s : St T framed R N) (q : Parts T R N s) (id : ℕ) (v u : View) (r : ℕ) (by : List ℕ)
      → get_elem? s.views id ≡ some v → v.turn ≡ true → Blamed N v.number q.cur s.views
      (u.number ∷ by) (r ∷ v.blocked) → length v.blocked + 1 < N
  left s q id v u r by at on more = let h = q.turn.holder id v at on in few_left v.blocked r N
      (blamed_few N v.number q.cur s.views (u.number ∷ by) (r ∷ v.blocked)
      (let a = h.0 in let b = h.1 in omega arith) (dealt s q id v at) more)

  -- what a live record stands for, by what the holder of the turn knows
  known_standing : (s : St T framed R N) (q : Parts T R N s) (id : ℕ) (v : View)
      → get_elem? s.views id ≡ some v → v.turn ≡ true → (r : ℕ) → IsLive q.cur s.views r
      → Standing T v.rows v.passes v.known_words v.seen v.desk r (q.place r) (q.used r)
  known_standing s q id v at on r live = let h = q.turn.holder id v at on in let place =
      q.world.placed id v at in let held = q.rows.held id v at on in
      let known : Standing T R N v.known_words q.log q.desk r (q.place r) (q.used r) =
      standing_same T framed R N s.words v.known_words q.log q.desk q.desk r (q.place r)
      (q.used r) (q.rows.live r live)
      (kept_upper R s.words v.known_words (λ k l. sym (held.1 k l)) r (q.used r))
      (agrees_same T framed R N q.desk r) in
      rw place.rows_is
      (rw place.passes_is
      (subst (λ (l : History). Standing T R N v.known_words l v.desk r (q.place r) (q.used r))
      (sym h.2) (subst (λ (d : DeskState). Standing T R N v.known_words q.log d r (q.place r)
      (q.used r)) (sym h.3) known)))

  pub asks_allows : (slots id r : ℕ) (me : Me S View) → IsHolder me → r < me.0.passes + 2
      → r ≢ me.0.desk.current → (In r me.0.blocked → ⊥) → Allows (Ruled T R N) slots id me (r + 2)
      (λ n. n) (asks T (step slots (r + 2) 0 0 none) me)
  asks_allows slots id r me holder there other new s whole _ at small = let q =
      whole.parts in let v : View = me.0 in let on = holder.0 in let free =
      holder.1 in let settled = holder.2 in let h = q.turn.holder id v at on in
      let inside : r < N + 2 = subst (λ (n : ℕ). r < n + 2) (q.world.placed id v at).passes_is there
      in let f = q.world.fits id v at in
      let not_cur : r ≢ q.cur =
      λ f. other (f ∙ sym q.rows.desk_at ∙ ap (λ (z : DeskState). z.current) (sym h.3)) in
      dite (ℕ_discrete (get_or s.words (r + 2) 0) 0)
      (λ zero_there. let w : View = record v { drained = r ∷ v.drained; asked = v.asked + 1 } in (
        w,
        keeps,
        tt,
        ruled T framed R N _
            (looked T framed R N s q id (r + 2) me.1 v w at refl refl refl refl refl refl refl refl
            refl refl (λ _. (h.2, refl))
            (record { seen = f.seen; told = f.told; own = f.own; mine = f.mine; pinned = f.pinned })
            (λ _. drains_ask N q.cur q.mask q.due q.beside s.words s.words s.views id v w q.pins at
            r zero_there not_cur inside on settled refl refl refl refl)
            (counts_same N q.cur s.views id v w q.counts at refl (inl refl) refl refl)
            (still_same N (get_or s.words 1 0) (get_or s.words 1 0) s.views id w v q.still at refl
            refl refl)),
        (r, refl, (λ _. refl), (λ not. absurd (not zero_there))),
      ))
      (λ some_there. let w : View =
      record v {
        blocked = r ∷ v.blocked;
        found = v.found ++ T.version v.desk r ∷ [];
        asked = v.asked + 1;
      } in let not_due : q.due ≢ Some r =
      (λ e. let f : None ≡ Some r = sym settled ∙ (q.pins.holder id v at on).due_is ∙ e in
      absurd (let c = f in cc)) in
      let t = some_seat s q r inside not_cur not_due some_there small in let b =
      q.counts.blamed id v at on in
      let some_pass = ((q.pins.seats t.0 t.1 t.2).pinned r t.3).0 in
      let more : Blamed N v.number q.cur s.views (t.1.number ∷ b.0) (r ∷ v.blocked) =
      blamed_more N v.number q.cur s.views t.0 t.1 r t.2 t.3 not_cur some_pass
      (dealt s q t.0 t.1 t.2) (apart_numbers s q id t.0 v t.1 r at t.2 free t.3)
      (λ j x f same. q.world.apart j t.0 x t.1 f t.2 (subst (λ (z : ℕ). 0 < z) (sym same) some_pass)
      same) b.0 v.blocked b.1 new in (
        w,
        keeps,
        tt,
        ruled T framed R N _
            (looked T framed R N s q id (r + 2) me.1 v w at refl refl refl refl refl refl refl refl
            refl refl (λ _. (h.2, refl))
            (record { seen = f.seen; told = f.told; own = f.own; mine = f.mine; pinned = f.pinned })
            (drains_same N q.cur q.mask q.due q.beside s.words s.words s.views id v w q.pins at refl
            refl refl refl refl)
            (counts_set N q.cur s.views id v w q.counts at refl (inl refl)
            (λ _. (
              t.1.number ∷ b.0,
              blamed_keep N v.number q.cur s.views id v w at refl
                  (inl refl) (t.1.number ∷ b.0) w.blocked more,
            )))
            (still_same N (get_or s.words 1 0) (get_or s.words 1 0) s.views id w v q.still at refl
            refl refl)),
        (
          r,
          refl,
          (λ zero_there. absurd (some_there zero_there)),
          (λ _. record {
            fewer = subst (λ (z : ℕ). length v.blocked + 1 < z)
                (sym (q.world.placed id v at).passes_is) (left s q id v t.1 r b.0 at on more);
            place = q.place r;
            used = q.used r;
            stands = known_standing s q id v at on r (inr (t.0, t.1, t.2, t.3));
            is = refl;
          }),
        ),
      ))

  -- ---- the holder of the turn notes the word of the current record
  pub notes_allows : (slots id : ℕ) (me : Me S View) → IsHolder me → Allows (Ruled T R N) slots id
      me 1 (λ n. n) (notes_current (step slots 1 0 0 none) me)
  notes_allows slots id me holder s whole _ at _ = let q = whole.parts in let v : View =
      me.0 in let on = holder.0 in let w : View =
      record v { noted = Some (get_or s.words 1 0); asked = v.asked + 1 } in let f =
      q.world.fits id v at in let h = q.turn.holder id v at on in
      let cur_now : q.cur ≡ v.desk.current = sym q.rows.desk_at ∙ ap (λ (z : DeskState). z.current)
      (sym h.3) in (
        w,
        keeps,
        tt,
        ruled T framed R N _ (looked T framed R N s q id 1 me.1 v w at refl refl refl refl refl refl
            refl refl refl refl (λ _. (h.2, refl))
            (record { seen = f.seen; told = f.told; own = f.own; mine = f.mine; pinned = f.pinned })
            (drains_same N q.cur q.mask q.due q.beside s.words s.words s.views id v w q.pins at refl
            refl refl refl refl)
            (counts_same N q.cur s.views id v w q.counts at refl (inl refl) refl refl)
            (still_set N (get_or s.words 1 0) (get_or s.words 1 0) s.views id w q.still refl
            (λ _ _ k is. (let c : Some (get_or s.words 1 0) ≡ Some k =
            is in let d : k ≡ get_or s.words 1 0 = cc in d)))),
        (
          refl,
          record {
            mask = q.mask;
            small = q.pins.small;
            found = q.pins.current ∙ ap (λ (z : ℕ). z * masks + q.mask) cur_now;
            is = refl;
          },
        ),
      )

  -- ---- the current record is asked
  pub asks_current_allows : (slots id r : ℕ) (me : Me S View) → IsHolder me → r ≡ me.0.desk.current
      → Allows (Ruled T R N) slots id me (r + 2) (λ n. n)
      (asks_current (step slots (r + 2) 0 0 none) me)
  asks_current_allows slots id r me holder here s whole _ at _ = let q = whole.parts in (
    record me.0 {
      found = me.0.found ++ found_now me.0.noted (get_or s.words (r + 2) 0)
          (length me.0.seen);
      asked = me.0.asked + 1;
    },
    keeps,
    tt,
    ruled T framed R N _
        (counted T framed R N s q id (r + 2) me.1 me.0
        (me.0.found ++ found_now me.0.noted (get_or s.words (r + 2) 0) (length me.0.seen))
        me.0.missed at),
    (
      ap (λ (z : ℕ). z + 2) here,
      record {
        is = refl;
        alone = λ one mask small noted. ap (done s.words) here
            ∙ alone T R N s q id me.0 at holder.0 holder.1 one mask small noted;
      },
    ),
  )
