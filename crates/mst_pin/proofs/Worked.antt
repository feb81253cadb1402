-- The core at events that were worked by hand.
use Rattle.mst_pin.proofs.Names.{◌≡◌, ◌≢◌, inl, inr, ℕ, [], ◌∷◌, Bool, true, false, cond, eqb, Option, None, Some, refl, sym, ap, ◌∙◌, ne_eqb, arith, bit_at, bit_at-zero, Pin, Unpin, Publish, Transfer, Ask, Record, Done, Yes, No, State, opening, after, row_set, AreUsable, Runs}

-- the set of no rows may be published anywhere
no_rows : (s : State) → AreUsable s (row_set 0)
no_rows s x h =
    absurd (let f : true ≡ false =
    sym h ∙ ne_eqb (bit_at 0 x) 1 (λ e. let z = bit_at-zero x in omega arith) in cc)

-- pass 2 pins record 0 until it unpins
abbrev s1 : State
s1 = after (opening 2) (Pin 2)

abbrev s2 : State
s2 = after s1 (Publish 1 0)

abbrev s3 : State
s3 = after s2 Transfer

abbrev s4 : State
s4 = after s3 (Unpin 2)

none_some : (a : ℕ) → None ≡ Some a → ⊥
none_some a e = cc

zero_one : (o : Option ℕ) → o ≡ Some 0 → o ≡ Some 1 → ⊥
zero_one o a b = let f : Some 0 ≡ Some 1 = sym a ∙ b in same 0 1 f (λ e. omega arith)
  where
    same : (x y : ℕ) → Some x ≡ Some y → x ≢ y → ⊥
    same x y e not = not (let g : x ≡ y = cc in g)

nobody : (p : ℕ) → s1.pins p ≢ Some 1
nobody p = one (eqb p 2) refl
  where
    one : (b : Bool) → eqb p 2 ≡ b → s1.pins p ≢ Some 1
    one true is e = let f : s1.pins p ≡ Some 0 = ap (λ (t : Bool). cond t (Some 0) None) is in
        zero_one (s1.pins p) f e
    one false is e = let f : s1.pins p ≡ None = ap (λ (t : Bool). cond t (Some 0) None) is in
        none_some 1 (sym f ∙ e)

nobody_now : (p : ℕ) → s4.pins p ≢ Some 0
nobody_now p = one (eqb p 2) refl
  where
    one : (b : Bool) → eqb p 2 ≡ b → s4.pins p ≢ Some 0
    one true is e = let f : s4.pins p ≡ None = ap (λ (t : Bool). cond t None (s3.pins p)) is in
        none_some 0 (sym f ∙ e)
    one false is e = let f : s4.pins p ≡ None =
        ap (λ (t : Bool). cond t None (cond t (Some 0) None)) is in none_some 0 (sym f ∙ e)

-- a pinned record is not drained, and is so once the pass has ended its pin
pub asked_twice : Runs (opening 2) (Pin 2 ∷ Publish 1 0 ∷ Transfer ∷ Ask 0 ∷ Unpin 2 ∷ Ask 0 ∷ [])
    (Record 0 ∷ Done ∷ Done ∷ No ∷ Done ∷ Yes ∷ []) s4
asked_twice = (
  s1,
  inl (((omega arith, omega arith), refl), refl, refl),
  (
    s2,
    inl ((refl, omega arith, (λ e. omega arith), nobody, no_rows s1), refl, refl),
    (
      s3,
      inl (refl, refl, refl),
      (
        s3,
        inl ((refl, omega arith, (λ e. omega arith)), inr (refl, (2, refl)), refl),
        (
          s4,
          inl (refl, refl, refl),
          (s4, inl ((refl, omega arith, (λ e. omega arith)), inl (refl, nobody_now), refl), refl),
        ),
      ),
    ),
  ),
)
