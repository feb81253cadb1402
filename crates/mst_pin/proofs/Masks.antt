-- The record that a pass pins, by the masks of the records.
use Rattle.mst_pin.proofs.Names.{◌≡◌, ℕ, suc, zero, ◌+◌, ◌-◌, ◌%◌, ◌^◌, ◌<◌, ◌≢◌, Bool, cond, eqb, eq-eqb, ne_eqb, Option, Some, None, sym, refl, ap, ◌∙◌, subst, arith, bit_xor, bit_at, dite, ℕ_discrete, bit_at-lt, record_with_bit, pinned_by}
use Rattle.mst_pin.specs.State.{with_value}
use Rattle.mst_pin.proofs.Bits.{bit_other, bit_same}

test_true : {A : Type 0} (a b : ℕ) (x y : A) → a ≡ b → cond (eqb a b) x y ≡ x
test_true a b x y e = ap (λ (t : Bool). cond t x y) (eq-eqb a b e)

test_false : {A : Type 0} (a b : ℕ) (x y : A) → a ≢ b → cond (eqb a b) x y ≡ y
test_false a b x y e = ap (λ (t : Bool). cond t x y) (ne_eqb a b e)

pub with_here : {A : Type 0} (f : ℕ → A) (k : ℕ) (v : A) (n : ℕ) → n ≡ k → with_value f k v n ≡ v
with_here f k v n e = test_true n k v (f n) e

pub with_else : {A : Type 0} (f : ℕ → A) (k : ℕ) (v : A) (n : ℕ) → n ≢ k → with_value f k v n ≡ f n
with_else f k v n e = test_false n k v (f n) e

some_same : {A : Type 0} (a b : A) → Some a ≡ Some b → a ≡ b
some_same a b e = cc

-- ---- one bit through all records

pub found_bit : (n : ℕ) (m : ℕ → ℕ) (k r : ℕ) → record_with_bit n m k ≡ Some r → (r < n)
    × (bit_at (m r) k ≡ 1)
found_bit zero m k r e = absurd (let f : None ≡ Some r = e in cc)
found_bit (suc n) m k r e = dite (ℕ_discrete (bit_at (m n) k) 1)
    (λ is. let same : n ≡ r =
    some_same n r (sym (test_true (bit_at (m n) k) 1 (Some n) (record_with_bit n m k) is) ∙ e)
    in
    (omega arith, subst (λ (z : ℕ). bit_at (m z) k ≡ 1) same is))
    (λ not. let h =
    found_bit n m k r (sym (test_false (bit_at (m n) k) 1 (Some n) (record_with_bit n m k) not)
    ∙ e) in (omega (arith, h.0), h.1))

pub missed_bit : (n : ℕ) (m : ℕ → ℕ) (k : ℕ) → record_with_bit n m k ≡ None → (r : ℕ) → r < n
    → bit_at (m r) k ≢ 1
missed_bit zero m k e r l = absurd (omega arith)
missed_bit (suc n) m k e r l = dite (ℕ_discrete (bit_at (m n) k) 1)
    (λ is. absurd
    (let f : Some n ≡ None =
    sym (test_true (bit_at (m n) k) 1 (Some n) (record_with_bit n m k) is) ∙ e in cc))
    (λ not. dite (ℕ_discrete r n)
    (λ same. λ b. not (subst (λ (z : ℕ). bit_at (m z) k ≡ 1) same b))
    (λ other. missed_bit n m k
    (sym (test_false (bit_at (m n) k) 1 (Some n) (record_with_bit n m k) not) ∙ e) r
    (omega arith)))

pub none_from_bits : (n : ℕ) (m : ℕ → ℕ) (k : ℕ) → ((r : ℕ) → r < n → bit_at (m r) k ≢ 1)
    → record_with_bit n m k ≡ None
none_from_bits zero m k h = refl
none_from_bits (suc n) m k h = test_false (bit_at (m n) k) 1 (Some n) (record_with_bit n m k)
    (h n (omega arith)) ∙ none_from_bits n m k (λ r l. h r (omega arith))

pub some_from_bits : (n : ℕ) (m : ℕ → ℕ) (k r : ℕ) → r < n → bit_at (m r) k ≡ 1
    → ((s : ℕ) → s < n → bit_at (m s) k ≡ 1 → s ≡ r) → record_with_bit n m k ≡ Some r
some_from_bits zero m k r l b only = absurd (omega arith)
some_from_bits (suc n) m k r l b only = dite (ℕ_discrete (bit_at (m n) k) 1)
    (λ is. test_true (bit_at (m n) k) 1 (Some n) (record_with_bit n m k) is ∙ ap (λ (z : ℕ). Some z)
    (only n (omega arith) is))
    (λ not. test_false (bit_at (m n) k) 1 (Some n) (record_with_bit n m k) not
    ∙ some_from_bits n m k r
    (let other : r ≢ n = λ e. not (subst (λ (z : ℕ). bit_at (m z) k ≡ 1) e b) in omega arith) b
    (λ s l2 b2. only s (omega arith) b2))

same_from_masks : (n : ℕ) (m m' : ℕ → ℕ) (k : ℕ) → ((r : ℕ) → bit_at (m' r) k ≡ bit_at (m r) k)
    → record_with_bit n m' k ≡ record_with_bit n m k
same_from_masks zero m m' k h = refl
same_from_masks (suc n) m m' k h = ap (λ (z : ℕ). cond (eqb z 1) (Some n) (record_with_bit n m' k))
    (h n) ∙ ap (λ (z : Option ℕ). cond (eqb (bit_at (m n) k) 1) (Some n) z)
    (same_from_masks n m m' k h)

-- ---- passes

some_pass : (n : ℕ) (m : ℕ → ℕ) (p : ℕ) → 0 < p → pinned_by n m p ≡ record_with_bit n m (p - 1)
some_pass n m p l = test_false p 0 None (record_with_bit n m (p - 1)) (λ e. omega arith)

pub pinned_none : (n : ℕ) (m : ℕ → ℕ) (p : ℕ) → 0 < p → ((r : ℕ) → r < n → bit_at (m r) (p - 1) ≢ 1)
    → pinned_by n m p ≡ None
pinned_none n m p l h = some_pass n m p l ∙ none_from_bits n m (p - 1) h

pub pinned_some : (n : ℕ) (m : ℕ → ℕ) (p r : ℕ) → 0 < p → r < n → bit_at (m r) (p - 1) ≡ 1
    → ((s : ℕ) → s < n → bit_at (m s) (p - 1) ≡ 1 → s ≡ r) → pinned_by n m p ≡ Some r
pinned_some n m p r l within b only = some_pass n m p l ∙ some_from_bits n m (p - 1) r within b only

-- a pass that pins a record has its bit in the record's mask
pub pinned_bit : (n : ℕ) (m : ℕ → ℕ) (p r : ℕ) → pinned_by n m p ≡ Some r → (0 < p) × (r < n)
    × (bit_at (m r) (p - 1) ≡ 1)
pinned_bit n m p r e = dite (ℕ_discrete p 0)
    (λ none. absurd
    (let f : None ≡ Some r = sym (test_true p 0 None (record_with_bit n m (p - 1)) none) ∙ e in
    cc))
    (λ some. let l : 0 < p = omega arith in let h =
    found_bit n m (p - 1) r (sym (some_pass n m p l) ∙ e) in (l, h.0, h.1))

pub unpinned_bit : (n : ℕ) (m : ℕ → ℕ) (p : ℕ) → 0 < p → pinned_by n m p ≡ None → (r : ℕ) → r < n
    → bit_at (m r) (p - 1) ≢ 1
unpinned_bit n m p l e = missed_bit n m (p - 1) (sym (some_pass n m p l) ∙ e)

pub pinned_same : (n : ℕ) (m m' : ℕ → ℕ) → ((r : ℕ) → m' r ≡ m r) → (p : ℕ) → pinned_by n m' p
    ≡ pinned_by n m p
pinned_same n m m' h p = ap (λ (z : Option ℕ). cond (eqb p 0) None z)
    (same_from_masks n m m' (p - 1) (λ r. ap (λ (z : ℕ). bit_at z (p - 1)) (h r)))

-- the bit of pass p turns in the mask of record r
module _ (n : ℕ) (m m' : ℕ → ℕ) (p r : ℕ) (pass : 0 < p) (within : r < n)
    (here : m' r ≡ bit_xor (m r) (2 ^ (p - 1))) (else : (s : ℕ) → s ≢ r → m' s ≡ m s) where
  bit_there : bit_at (m' r) (p - 1) ≡ (bit_at (m r) (p - 1) + 1) % 2
  bit_there = ap (λ (z : ℕ). bit_at z (p - 1)) here ∙ bit_same (m r) (p - 1)

  bit_else : (s k : ℕ) → s ≢ r → bit_at (m' s) k ≡ bit_at (m s) k
  bit_else s k other = ap (λ (z : ℕ). bit_at z k) (else s other)

  bit_others : (s k : ℕ) → k ≢ p - 1 → bit_at (m' s) k ≡ bit_at (m s) k
  bit_others s k other = dite (ℕ_discrete s r)
      (λ same. ap (λ (z : ℕ). bit_at (m' z) k) same ∙ ap (λ (z : ℕ). bit_at z k) here
      ∙ bit_other (m r) (p - 1) k other ∙ ap (λ (z : ℕ). bit_at (m z) k) (sym same))
      (λ not. bit_else s k not)

  -- what the other passes pin stays
  others : (q : ℕ) → q ≢ p → pinned_by n m' q ≡ pinned_by n m q
  others q not = dite (ℕ_discrete q 0)
      (λ none. test_true q 0 None (record_with_bit n m' (q - 1)) none
      ∙ sym (test_true q 0 None (record_with_bit n m (q - 1)) none))
      (λ some. ap (λ (z : Option ℕ). cond (eqb q 0) None z)
      (same_from_masks n m m' (q - 1) (λ s. bit_others s (q - 1) (omega arith))))

  -- the pass pinned nothing, and pins the record now
  module _ (free : pinned_by n m p ≡ None) where
    bit_now : bit_at (m' r) (p - 1) ≡ 1
    bit_now = let b : ℕ = bit_at (m r) (p - 1) in let l : b < 2 = bit_at-lt (m r) (p - 1) in
        let z : b ≢ 1 = unpinned_bit n m p pass free r within in
        let f : b ≡ 0 = omega arith in bit_there ∙ ap (λ (x : ℕ). (x + 1) % 2) f

    only_now : (s : ℕ) → s < n → bit_at (m' s) (p - 1) ≡ 1 → s ≡ r
    only_now s l b =
        dite (ℕ_discrete s r) (λ same. same)
        (λ not. absurd (unpinned_bit n m p pass free s l (sym (bit_else s (p - 1) not) ∙ b)))

    pub pin_adds : (q : ℕ) → pinned_by n m' q ≡ with_value (pinned_by n m) p (Some r) q
    pin_adds q = dite (ℕ_discrete q p)
        (λ same. ap (pinned_by n m') same ∙ pinned_some n m' p r pass within bit_now only_now
        ∙ sym (with_here (pinned_by n m) p (Some r) q same))
        (λ not. others q not ∙ sym (with_else (pinned_by n m) p (Some r) q not))

    pub pin_one : ((a b k : ℕ) → a < n → b < n → bit_at (m a) k ≡ 1 → bit_at (m b) k ≡ 1 → a ≡ b)
        → (a b k : ℕ) → a < n → b < n → bit_at (m' a) k ≡ 1 → bit_at (m' b) k ≡ 1 → a ≡ b
    pin_one one a b k la lb x y = dite (ℕ_discrete k (p - 1))
        (λ same. only_now a la (ap (λ (z : ℕ). bit_at (m' a) z) (sym same) ∙ x)
        ∙ sym (only_now b lb (ap (λ (z : ℕ). bit_at (m' b) z) (sym same) ∙ y)))
        (λ not. one a b k la lb (sym (bit_others a k not) ∙ x) (sym (bit_others b k not) ∙ y))

  -- the pass pinned the record, and pins nothing now
  module _ (pinned : pinned_by n m p ≡ Some r)
      (one : (a b k : ℕ) → a < n → b < n → bit_at (m a) k ≡ 1 → bit_at (m b) k ≡ 1 → a ≡ b) where
    none_now : (s : ℕ) → s < n → bit_at (m' s) (p - 1) ≢ 1
    none_now s l b = let h : bit_at (m r) (p - 1) ≡ 1 = (pinned_bit n m p r pinned).2 in
        dite (ℕ_discrete s r)
        (λ same. absurd (let f : 0 ≡ 1 = sym (bit_there ∙ ap (λ (x : ℕ). (x + 1) % 2) h)
        ∙ ap (λ (z : ℕ). bit_at (m' z) (p - 1)) (sym same) ∙ b in omega arith))
        (λ not. not (one s r (p - 1) l within (sym (bit_else s (p - 1) not) ∙ b) h))

    pub unpin_drops : (q : ℕ) → pinned_by n m' q ≡ with_value (pinned_by n m) p None q
    unpin_drops q = dite (ℕ_discrete q p)
        (λ same. ap (pinned_by n m') same ∙ pinned_none n m' p pass none_now
        ∙ sym (with_here (pinned_by n m) p None q same))
        (λ not. others q not ∙ sym (with_else (pinned_by n m) p None q not))

    pub unpin_one : (a b k : ℕ) → a < n → b < n → bit_at (m' a) k ≡ 1 → bit_at (m' b) k ≡ 1 → a ≡ b
    unpin_one a b k la lb x y = dite (ℕ_discrete k (p - 1))
        (λ same. absurd (none_now a la (ap (λ (z : ℕ). bit_at (m' a) z) (sym same) ∙ x)))
        (λ not. one a b k la lb (sym (bit_others a k not) ∙ x) (sym (bit_others b k not) ∙ y))
