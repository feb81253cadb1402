-- The part Still: in a store of one pass the word of the current record is as its holder noted it,
-- and that record's word DONE is the mask that was noted.
use Rattle.mst_words.proofs.Names.{◌≡◌, ℕ, ◌+◌, ◌*◌, ◌%◌, ◌<◌, ◌≤◌, ◌≢◌, true, false, List, Option, Some, None, set, get_or, sym, ap, ◌∙◌, subst, arith, bit_at, dite, ℕ_discrete, bit_at-lt, none-some, State, masks, View, DeskState, SeatAt, done, pin_bit, Pins, Clear, Meaning, Still, Parts}
use Rattle.std.proofs.lemmas.Nat.Bits.{same_from_bits}
use Rattle.mst_words.proofs.Seats.{each_seat, same_view}

-- what is noted at a seat is the word
abbrev pub Notes : ℕ → ℕ → View → Type 0
Notes n word v = v.turn ≡ true → n ≡ 1 → (w : ℕ) → v.noted ≡ Some w → w ≡ word

module _ (n word word' : ℕ) (vs : List View) (id : ℕ) (w : View) where
  -- the word changes, and in a store of one pass no other seat has the turn
  pub still_new : Notes n word' w
      → ((i : ℕ) (u : View) → i ≢ id → SeatAt vs i u → u.turn ≡ true → n ≡ 1 → ⊥)
      → Still n word' (set vs id w)
  still_new mine others =
      record {
        noted = each_seat (λ i u. Notes n word' u) vs id w mine
            (λ i u away e on one k is. absurd (others i u away e on one));
      }

  -- the word stays, and one view changes
  pub still_set : Still n word vs → word' ≡ word → Notes n word' w → Still n word' (set vs id w)
  still_set q same mine =
      record {
        noted = each_seat (λ i u. Notes n word' u) vs id w mine
            (λ i u _ e on one k is. q.noted i u e on one k is ∙ sym same);
      }

  -- the word stays, and the view knows of it what it knew
  pub still_same : (v : View) → Still n word vs → SeatAt vs id v → word' ≡ word → w.turn ≡ v.turn
      → w.noted ≡ v.noted → Still n word' (set vs id w)
  still_same v q at same turn noted =
      still_set q same (λ on one k is. q.noted id v at (sym turn ∙ on) one k (sym noted ∙ is)
      ∙ sym same)

  -- the word changes by a pass that does not have the turn: then no pass has it, if there is one
  pub still_pin : (v : View) → w.turn ≡ false → 0 < v.number → v.number ≤ n
      → ((i : ℕ) (u : View) → i ≢ id → SeatAt vs i u → u.number ≢ v.number)
      → ((i : ℕ) (u : View) → SeatAt vs i u → u.turn ≡ true → (0 < u.number) × (u.number ≤ n))
      → Still n word' (set vs id w)
  still_pin v off pos small apart holders =
      still_new (λ on one x e. absurd (let c : true ≡ false = sym on ∙ off in cc))
      (λ i u other e on one. apart i u other e (let h = holders i u e on in let a = h.0 in let b =
      h.1 in omega arith))

-- ---- a pass that pins nothing, and is the only one

even_bits : (a b : ℕ) → a < 2 → b < 2 → (a + b) % 2 ≢ 1 → b ≡ a
even_bits a b l m odd = dite (ℕ_discrete b a) (λ e. e) (λ not. absurd (odd (omega arith)))

pub done_is_mask : (n cur mask : ℕ) (due : Option ℕ) (beside : ℕ → ℕ) (ws : List ℕ) (vs : List View)
    (id : ℕ) (v : View) → Pins n cur mask due beside ws vs → Clear n beside ws vs → SeatAt vs id v
    → n ≡ 1 → v.pin ≡ None → 0 < v.number → ((i : ℕ) (u : View) → SeatAt vs i u → u.number ≤ n)
    → ((i : ℕ) (u : View) → i ≢ id → SeatAt vs i u → u.number ≢ v.number) → done ws cur ≡ mask
done_is_mask n cur mask due beside ws vs id v p c at one free pos small apart =
    same_from_bits (done ws cur) (beside cur)
    (λ k. even_bits (bit_at (beside cur) k) (bit_at (done ws cur) k) (bit_at-lt (beside cur) k)
    (bit_at-lt (done ws cur) k) (even k)) ∙ p.beside_cur
  where
    nobody : (k : ℕ)
        → ((i : ℕ) × (u : View) × SeatAt vs i u × (u.number ≡ k + 1) × (u.pin ≡ Some cur)) → ⊥
    nobody k (i, u, e, number, pins) = dite (ℕ_discrete i id)
        (λ is. none-some cur
        (sym free ∙ ap (λ (z : View). z.pin)
        (same_view vs id v u at (subst (λ (z : ℕ). SeatAt vs z u) is e)) ∙ pins))
        (λ other. apart i u other e (let a = small i u e in let b = small id v at in omega arith))

    even : (k : ℕ) → pin_bit beside ws cur k ≢ 1
    even k odd = nobody k (c.seat_of cur k p.cur_in odd)

module _ {S : Type 0} (T : Meaning S) (R N : ℕ) where
  -- the holder of the turn, which pins nothing, is the only pass, so the word DONE of the current
  -- record is the mask that it noted
  pub alone : (s : State S View) (q : Parts T R N s) (id : ℕ) (v : View) → SeatAt s.views id v
      → v.turn ≡ true → v.pin ≡ None → v.passes ≡ 1
      → (mask : ℕ) → mask < masks → v.noted ≡ Some (v.desk.current * masks + mask)
      → get_or s.words (v.desk.current + 2) 0 ≡ mask
  alone s q id v at on free one mask small noted = ap (done s.words) here ∙ marks ∙ same
    where
      is_one : N ≡ 1
      is_one = sym (q.world.placed id v at).passes_is ∙ one

      here : v.desk.current ≡ q.cur
      here = ap (λ (d : DeskState). d.current) (q.turn.holder id v at on).3 ∙ q.rows.desk_at

      numbers : (i : ℕ) (u : View) → SeatAt s.views i u → u.number ≤ N
      numbers i u e = let a = (q.world.placed i u e).number in let b = q.world.few in omega arith

      some_pass : 0 < v.number
      some_pass = let h = q.turn.holder id v at on in subst (λ (z : ℕ). 0 < z) (sym h.1) h.0

      marks : done s.words q.cur ≡ q.mask
      marks = done_is_mask N q.cur q.mask q.due q.beside s.words s.views id v q.pins q.clear at
          is_one free some_pass numbers
          (λ i u other e same. other (sym (q.world.apart id i v u at e some_pass (sym same))))

      same : q.mask ≡ mask
      same = let a = q.still.noted id v at on is_one _ noted in let b = q.pins.current in let c =
          here in omega arith
