-- Sets of rows as the bits of a number.
use Rattle.mst_pin.proofs.Names.{◌≡◌, ℕ, ◌-◌, ◌^◌, ◌<◌, ◌≢◌, ◌⊎◌, inl, inr, ⊎_elim, Bool, true, false, eq-eqb, Some, sym, refl, ap, ◌∙◌, arith, bit_or, bit_and, eqb-true, bit_at, trailing_zeros, w64, bit_at-lt, bit_at-zero, bit_at_above, bit_at-trailing_zeros, dite, ℕ_discrete, dec_le, State, IsBlank, IsHeld, AreUsable, row_set}
use Rattle.std.proofs.Common.{min}
use Rattle.std.proofs.lemmas.Nat.Bits.{bit_at_or, bit_at_and, bit_at_not}
use Rattle.std.specs.Int.Bits.{and_lt}

pub row_bit : (set x : ℕ) → row_set set x ≡ true → bit_at set x ≡ 1
row_bit set x e = eqb-true (bit_at set x) 1 e

pub bit_row : (set x : ℕ) → bit_at set x ≡ 1 → row_set set x ≡ true
bit_row set x e = eq-eqb (bit_at set x) 1 e

pub or_left : (a b x : ℕ) → row_set a x ≡ true → row_set (bit_or a b) x ≡ true
or_left a b x e =
    bit_row (bit_or a b) x (let h = row_bit a x e in let l =
    bit_at-lt b x in omega (arith, bit_at_or a b x))

pub or_right : (a b x : ℕ) → row_set b x ≡ true → row_set (bit_or a b) x ≡ true
or_right a b x e =
    bit_row (bit_or a b) x (let h = row_bit b x e in let l =
    bit_at-lt a x in omega (arith, bit_at_or a b x))

pub or_cases : (a b x : ℕ) → row_set (bit_or a b) x ≡ true → (row_set a x ≡ true)
    ⊎ (row_set b x ≡ true)
or_cases a b x e = let h = row_bit (bit_or a b) x e in let l = bit_at-lt a x in let m =
    bit_at-lt b x in let f = bit_at_or a b x in dite (ℕ_discrete (bit_at a x) 1)
    (λ is. inl (bit_row a x is))
    (λ not. inr (bit_row b x (omega arith)))

pub bool_cases : (b : Bool) → (b ≡ true) ⊎ (b ≡ false)
bool_cases true = inl refl
bool_cases false = inr refl

pub not_both : (b : Bool) → b ≡ true → b ≡ false → ⊥
not_both b t f = let e : true ≡ false = sym t ∙ f in cc

-- the rows of the current record, and those held besides
module _ (s : State) (current held : ℕ) (now : (x : ℕ) → s.rows s.current x ≡ row_set current x)
    (all : (x : ℕ) → IsHeld s x → row_set held x ≡ true)
    (only : (x : ℕ) → row_set held x ≡ true → IsHeld s x) where
  -- a row that is neither the current record's nor held is blank
  blank_from : (x : ℕ) → (row_set current x ≡ true → ⊥) → (row_set held x ≡ true → ⊥) → IsBlank s x
  blank_from x off free r live = ⊎_elim
      (λ (none : s.rows r x ≡ true). absurd (dite (ℕ_discrete r s.current)
      (λ here. off (sym (now x) ∙ ap (λ (z : ℕ). s.rows z x) (sym here) ∙ none))
      (λ away. ⊎_elim (λ (same : r ≡ s.current). away same)
      (λ (pinned : (p : ℕ) × (s.pins p ≡ Some r)). free (all x (r, away, pinned, none))) live)))
      (λ (none : s.rows r x ≡ false). none) (bool_cases (s.rows r x))

  not_blank_now : (x : ℕ) → IsBlank s x → row_set current x ≡ true → ⊥
  not_blank_now x blank e = not_both (s.rows s.current x) (now x ∙ e) (blank s.current (inl refl))

  not_blank_held : (x : ℕ) → IsBlank s x → row_set held x ≡ true → ⊥
  not_blank_held x blank e = let h = only x e in not_both (s.rows h.0 x) h.3 (blank h.0 (inr h.2))

  pub blank_from_bit : (x : ℕ) → bit_at (bit_or current held) x ≡ 0 → IsBlank s x
  blank_from_bit x e =
      blank_from x (λ h. let b = row_bit (bit_or current held) x (or_left current held x h) in
      absurd (omega arith))
      (λ h. let b = row_bit (bit_or current held) x (or_right current held x h) in
      absurd (omega arith))

  pub bit_from_blank : (x : ℕ) → IsBlank s x → bit_at (bit_or current held) x ≡ 0
  bit_from_blank x blank = let l = bit_at-lt (bit_or current held) x in
      dite (ℕ_discrete (bit_at (bit_or current held) x) 1)
      (λ is. absurd
      (⊎_elim (not_blank_now x blank) (not_blank_held x blank)
      (or_cases current held x (bit_row (bit_or current held) x is))))
      (λ not. omega arith)

  module _ (rows : ℕ) (small : rows < 2 ^ 64) (current_small : current < 2 ^ 64)
      (held_small : held < 2 ^ 64) where
    besides : ℕ
    besides = bit_and (bit_and rows (18446744073709551615 - current)) held

    bit_of : (x : ℕ) → x < 64 → bit_at besides x ≡ min (min (bit_at rows x) (1 - bit_at current x))
        (bit_at held x)
    unfolding besides
    bit_of x l = bit_at_and (bit_and rows (18446744073709551615 - current)) held x
        ∙ ap (λ (z : ℕ). min z (bit_at held x)) (bit_at_and rows (18446744073709551615 - current) x
        ∙ ap (λ (z : ℕ). min (bit_at rows x) z) (bit_at_not w64 current x current_small l))

    within : (x : ℕ) → bit_at rows x ≡ 1 → x < 64
    within x b =
        dite (dec_le 64 x)
        (λ high. absurd (let z = bit_at_above rows 64 x small high in omega arith))
        (λ low. omega arith)

    pub usable_from_none : bit_and (bit_and rows (18446744073709551615 - current)) held ≡ 0
        → AreUsable s (row_set rows)
    unfolding besides
    usable_from_none none x e = let b = row_bit rows x e in let l = within x b in let f =
        bit_of x l in
        let z : bit_at besides x ≡ 0 = ap (λ (n : ℕ). bit_at n x) none ∙ bit_at-zero x in ⊎_elim
        (λ (yes : row_set current x ≡ true). inl (now x ∙ yes))
        (λ (no : row_set current x ≡ false). inr
        (blank_from x (λ t. not_both (row_set current x) t no)
        (λ h. let hb = row_bit held x h in let c : bit_at current x ≢ 1 =
        λ is. not_both (row_set current x) (bit_row current x is) no in let cl =
        bit_at-lt current x in absurd (omega arith))))
        (bool_cases (row_set current x))

    pub none_from_usable : AreUsable s (row_set rows)
        → bit_and (bit_and rows (18446744073709551615 - current)) held ≡ 0
    unfolding besides
    none_from_usable usable = dite (ℕ_discrete besides 0) (λ is. is) (λ not.
        let below : besides < 2 ^ 64 = and_lt 64 (bit_and rows (18446744073709551615 - current))
        held (and_lt 64 rows (18446744073709551615 - current) small (omega arith)) held_small in
        let h = bit_at-trailing_zeros w64 besides (omega arith) below in
        let x : ℕ = trailing_zeros w64 besides in
        let one : bit_at besides x ≡ 1 = h.1 in
        let f = bit_of x h.0 in
        let rl = bit_at-lt rows x in let cl = bit_at-lt current x in let hl = bit_at-lt held x in
        let rb : bit_at rows x ≡ 1 = omega arith in let cb : bit_at current x ≡ 0 =
        omega arith in let hb : bit_at held x ≡ 1 = omega arith in
        absurd (⊎_elim
        (λ (mine : s.rows s.current x ≡ true). let b = row_bit current x (sym (now x) ∙ mine) in
        omega arith)
        (λ (blank : IsBlank s x). not_blank_held x blank (bit_row held x hb))
        (usable x (bit_row rows x rb))))

-- ---- the walk over the records

pub zero_rows : (s : State) (x : ℕ) → row_set 0 x ≡ true → IsHeld s x
zero_rows s x e = let b = row_bit 0 x e in let z = bit_at-zero x in absurd (omega arith)
