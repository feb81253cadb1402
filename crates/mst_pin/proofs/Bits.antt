-- One bit of a mask, and of CURRENT.
use Rattle.mst_pin.proofs.Names.{◌≡◌, ℕ, ◌+◌, ◌-◌, ◌*◌, ◌%◌, ◌^◌, ◌<◌, ◌≤◌, ◌≢◌, sym, ap, ◌∙◌, arith, bit_xor, bit_at, dec_le, xor_lt, pow-lt, bit_at-lt, masks}
use Rattle.std.proofs.Common.{◌/◌}
use Rattle.std.proofs.lemmas.Nat.Bits.{bit_at_xor, bit_at-pow_same, bit_at-pow_other, bit_at_cat_low, bit_at_cat_high, same_from_bits}

bit_mod : (n i : ℕ) → (bit_at n i + 0) % 2 ≡ bit_at n i
bit_mod n i = let b : ℕ = bit_at n i in let l : b < 2 = bit_at-lt n i in let g : (b + 0) % 2 ≡ b =
    omega arith in g

-- a xor of a bit below 32 is one of the mask
pub xor_low : (cur mask k : ℕ) → mask < masks → k < 32 → bit_xor (cur * masks + mask) (2 ^ k)
    ≡ cur * masks + bit_xor mask (2 ^ k)
xor_low cur mask k small within = same_from_bits _ _ (λ i. by i (dec_le 32 i))
  where
    below : bit_xor mask (2 ^ k) < 2 ^ 32
    below = xor_lt 32 mask (2 ^ k) small (pow-lt within)

    by : (i : ℕ) → Dec (32 ≤ i) → bit_at (bit_xor (cur * masks + mask) (2 ^ k)) i ≡ bit_at
        (cur * masks + bit_xor mask (2 ^ k)) i
    by i (yes high) = bit_at_xor (cur * masks + mask) (2 ^ k) i
        ∙ ap (λ (z : ℕ). (z + bit_at (2 ^ k) i) % 2) (bit_at_cat_high cur 32 mask i small high)
        ∙ ap (λ (z : ℕ). (bit_at cur (i - 32) + z) % 2) (bit_at-pow_other k i (λ e. omega arith))
        ∙ bit_mod cur (i - 32)
        ∙ sym (bit_at_cat_high cur 32 (bit_xor mask (2 ^ k)) i below high)
    by i (no low) = let l : i < 32 = omega arith in bit_at_xor (cur * masks + mask) (2 ^ k) i
        ∙ ap (λ (z : ℕ). (z + bit_at (2 ^ k) i) % 2) (bit_at_cat_low cur 32 mask i l)
        ∙ sym (bit_at_xor mask (2 ^ k) i) ∙ sym (bit_at_cat_low cur 32 (bit_xor mask (2 ^ k)) i l)

pub xor_small : (mask k : ℕ) → mask < masks → k < 32 → bit_xor mask (2 ^ k) < masks
xor_small mask k small within = xor_lt 32 mask (2 ^ k) small (pow-lt within)

-- a xor of a pass's bit into CURRENT keeps the record, and turns the bit in the mask
pub xor_current : (word k : ℕ) → k < 32 → (bit_xor word (2 ^ k) / masks ≡ word / masks)
    × (bit_xor word (2 ^ k) % masks ≡ bit_xor (word % masks) (2 ^ k))
xor_current word k within =
    let cur : ℕ = word / masks in
    let mask : ℕ = word % masks in
    let small : mask < masks = omega arith in
    let is : word ≡ cur * masks + mask = omega arith in
    let below : bit_xor mask (2 ^ k) < 2 ^ 32 = xor_lt 32 mask (2 ^ k) small (pow-lt within) in
    let now : bit_xor word (2 ^ k) ≡ cur * masks + bit_xor mask (2 ^ k) =
    ap (λ (z : ℕ). bit_xor z (2 ^ k)) is ∙ xor_low cur mask k small within in
    (omega arith, omega arith)

-- the other bits stay
pub bit_other : (n k i : ℕ) → i ≢ k → bit_at (bit_xor n (2 ^ k)) i ≡ bit_at n i
bit_other n k i other = bit_at_xor n (2 ^ k) i ∙ ap (λ (z : ℕ). (bit_at n i + z) % 2)
    (bit_at-pow_other k i other) ∙ bit_mod n i

-- the bit turns
pub bit_same : (n k : ℕ) → bit_at (bit_xor n (2 ^ k)) k ≡ (bit_at n k + 1) % 2
bit_same n k = bit_at_xor n (2 ^ k) k ∙ ap (λ (z : ℕ). (bit_at n k + z) % 2) (bit_at-pow_same k)

mod_assoc : (a b c : ℕ) → ((a + b) % 2 + c) % 2 ≡ (a + (b + c) % 2) % 2
mod_assoc a b c = omega arith

pub xor_assoc : (a b c : ℕ) → bit_xor (bit_xor a b) c ≡ bit_xor a (bit_xor b c)
xor_assoc a b c =
    same_from_bits _ _ (λ i. bit_at_xor (bit_xor a b) c i ∙ ap (λ (z : ℕ). (z + bit_at c i) % 2)
    (bit_at_xor a b i)
    ∙ mod_assoc (bit_at a i) (bit_at b i) (bit_at c i) ∙ ap (λ (z : ℕ). (bit_at a i + z) % 2)
    (sym (bit_at_xor b c i)) ∙ sym (bit_at_xor a (bit_xor b c) i))

pub turn_left : (a b : ℕ) → a < 2 → b < 2 → (a + b) % 2 ≡ 0 → ((a + 1) % 2 + b) % 2 ≡ 1
turn_left a b l m e = omega arith

pub turn_right : (a b : ℕ) → a < 2 → b < 2 → (a + b) % 2 ≡ 1 → (a + (b + 1) % 2) % 2 ≡ 0
turn_right a b l m e = omega arith
