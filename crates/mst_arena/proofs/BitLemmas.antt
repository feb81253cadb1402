-- One bit of words, after a write of a word.
use Rattle.mst_arena.proofs.Names.{◌≡◌, ◌≢◌, ℕ, zero, suc, ◌+◌, ◌-◌, ◌*◌, ◌/◌, ◌%◌, ◌^◌, ◌<◌, ◌≤◌, List, [], ◌∷◌, length, refl, sym, ◌∙◌, ap, arith, inl, inr, ◌⊎◌, slice_index, slice_set, w64, bit_at, trailing_zeros, cases_eq, cases_lt, get_or-set_same, get_or-set_other, bit_at-zero, bit}
use Rattle.std.proofs.Common.{min}
use Rattle.std.specs.Prelude.{bit_and}
use Rattle.std.specs.Int.Count.{trailing_of_zero}
use Rattle.std.proofs.lemmas.Nat.{and_le_r, trailing_le}
use Rattle.std.specs.Int.{bit_not}
use Rattle.std.proofs.lemmas.Nat.Bits.{bit_at-trailing_zeros, bit_at_and, bit_at_not, bit_at_mask_inside, bit_at_mask_below, ones_shl, bit_at-lt}

-- the bits of the word that was written, and of the others
pub bit_written : (words : List ℕ) (j x i : ℕ) → j < length words → i / 64 ≡ j
    → bit (slice_set words j x) i ≡ bit_at x (i % 64)
bit_written words j x i lt e =
    ap (λ (k : ℕ). bit_at (slice_index (slice_set words j x) k) (i % 64)) e
    ∙ ap (λ (w : ℕ). bit_at w (i % 64)) (get_or-set_same words j x 0 lt)

pub bit_elsewhere : (words : List ℕ) (j x i : ℕ) → i / 64 ≢ j → bit (slice_set words j x) i
    ≡ bit words i
bit_elsewhere words j x i e =
    ap (λ (w : ℕ). bit_at w (i % 64)) (get_or-set_other words j (i / 64) x 0 e)

-- a word with one bit other than before
pub other_bits : (words : List ℕ) (index x : ℕ) → index / 64 < length words
    → ((k : ℕ) → k < 64 → k ≢ index % 64 → bit_at x k ≡ bit_at (slice_index words (index / 64)) k)
    → (i : ℕ) → i ≢ index → bit (slice_set words (index / 64) x) i ≡ bit words i
other_bits words index x lt same i other = go (cases_eq (i / 64) (index / 64))
  where
    go : (i / 64 ≡ index / 64) ⊎ (i / 64 ≢ index / 64) → bit (slice_set words (index / 64) x) i
        ≡ bit words i
    go (inl e) =
        let apart : i % 64 ≢ index % 64 = λ m. other (omega arith) in
        bit_written words (index / 64) x i lt e
        ∙ same (i % 64) (omega arith) apart
        ∙ ap (λ (k : ℕ). bit_at (slice_index words k) (i % 64)) (sym e)
    go (inr e) = bit_elsewhere words (index / 64) x i e

-- the lowest bit of a word that is not 0
pub bit_of_lowest : (words : List ℕ) (j : ℕ) (w : ℕ) → w < 2 ^ 64 → 0 < w
    → ((k : ℕ) → bit_at w k ≡ 1 → bit_at (slice_index words j) k ≡ 1)
    → bit words (64 * j + trailing_zeros w64 w) ≡ 1
bit_of_lowest words j w small some within =
    let low = bit_at-trailing_zeros w64 w some small in
    let div : (64 * j + trailing_zeros w64 w) / 64 ≡ j = omega (arith, low.0) in
    let rest : (64 * j + trailing_zeros w64 w) % 64 ≡ trailing_zeros w64 w = omega (arith, low.0) in
    ap (λ (k : ℕ). bit_at (slice_index words k) ((64 * j + trailing_zeros w64 w) % 64)) div
    ∙ ap (bit_at (slice_index words j)) rest
    ∙ within (trailing_zeros w64 w) low.1

pub lowest_lt : (w : ℕ) → w < 2 ^ 64 → 0 < w → trailing_zeros w64 w < 64
lowest_lt w small some = (bit_at-trailing_zeros w64 w some small).0

-- `word & (MAX << k)`
abbrev pub from_bit : ℕ → ℕ → ℕ
from_bit w k = bit_and w (18446744073709551615 * 2 ^ k % 18446744073709551616)

from_bit_is : (w k : ℕ) → k < 64 → from_bit w k ≡ bit_and w (2 ^ 64 - 2 ^ k)
from_bit_is w k lt = ap (bit_and w) (ones_shl 64 k (omega arith))

from_bit_at : (w k i : ℕ) → k < 64
    → bit_at (from_bit w k) i ≡ min (bit_at w i) (bit_at (2 ^ 64 - 2 ^ k) i)
from_bit_at w k i lt =
    ap (λ (x : ℕ). bit_at x i) (from_bit_is w k lt) ∙ bit_at_and w (2 ^ 64 - 2 ^ k) i

pub masked_bit : (w k i : ℕ) → k < 64 → bit_at (from_bit w k) i ≡ 1 → bit_at w i ≡ 1
masked_bit w k i lt is =
    let e : bit_at (from_bit w k) i ≡ min (bit_at w i) (bit_at (2 ^ 64 - 2 ^ k) i) =
    from_bit_at w k i lt in
    omega (arith, bit_at-lt w i)

pub masked_none : (w k i : ℕ) → k < 64 → k ≤ i → i < 64 → from_bit w k ≡ 0 → bit_at w i ≡ 0
masked_none w k i lt le within none =
    let e : bit_at (from_bit w k) i ≡ min (bit_at w i) (bit_at (2 ^ 64 - 2 ^ k) i) =
    from_bit_at w k i lt in
    let zero_bit : bit_at (from_bit w k) i ≡ 0 = ap (λ (x : ℕ). bit_at x i) none ∙ bit_at-zero i in
    omega (arith, bit_at_mask_inside k 64 i le within)

-- below the lowest bit that is set, or in a word that is 0, no bit is set
below_lowest : (x i : ℕ) → x < 2 ^ 64 → i < trailing_zeros w64 x → bit_at x i ≡ 0
below_lowest x i small below = go (cases_lt 0 x)
  where
    go : (0 < x) ⊎ (x ≤ 0) → bit_at x i ≡ 0
    go (inl some) = (bit_at-trailing_zeros w64 x some small).2 i below
    go (inr none) = ap (λ (n : ℕ). bit_at n i) (none_is none) ∙ bit_at-zero i
      where
        none_is : x ≤ 0 → x ≡ 0
        none_is le = omega (arith, le)

-- a word has a bit that is set if the lowest of them is below 64
lowest_is : (x : ℕ) → x < 2 ^ 64 → trailing_zeros w64 x < 64 → bit_at x (trailing_zeros w64 x) ≡ 1
lowest_is x small there = go (cases_lt 0 x)
  where
    go : (0 < x) ⊎ (x ≤ 0) → bit_at x (trailing_zeros w64 x) ≡ 1
    go (inl some) = (bit_at-trailing_zeros w64 x some small).1
    go (inr none) =
        let zero_is : x ≡ 0 = omega (arith, none) in
        let all : trailing_zeros w64 x ≡ 64 =
        ap (trailing_zeros w64) zero_is ∙ trailing_of_zero 64 in
        absurd (omega (arith, all, there))

-- the lowest bit of a word from bit k on that is clear; 64 if all of them are set
abbrev pub lowest_clear : ℕ → ℕ → ℕ
lowest_clear w k = trailing_zeros w64 (from_bit (bit_not w64 w) k)

from_bit_small : (w k : ℕ) → from_bit w k < 2 ^ 64
from_bit_small w k = omega (arith, and_le_r w (18446744073709551615 * 2 ^ k % 18446744073709551616))

pub lowest_clear_le : (w k : ℕ) → lowest_clear w k ≤ 64
lowest_clear_le w k = trailing_le 64 (from_bit (bit_not w64 w) k)

pub set_below_clear : (w k i : ℕ) → w < 2 ^ 64 → k < 64 → k ≤ i → i < lowest_clear w k
    → bit_at w i ≡ 1
set_below_clear w k i small lt le below =
    let x = from_bit (bit_not w64 w) k in
    let few : i < 64 = omega (arith, lowest_clear_le w k, below) in
    let none : bit_at x i ≡ 0 = below_lowest x i (from_bit_small (bit_not w64 w) k) below in
    let e : bit_at x i ≡ min (bit_at (bit_not w64 w) i) (bit_at (2 ^ 64 - 2 ^ k) i) =
    from_bit_at (bit_not w64 w) k i lt in
    omega (
      arith,
      none,
      e,
      bit_at_mask_inside k 64 i le few,
      bit_at_not w64 w i small few,
      bit_at-lt w i,
    )

pub clear_there : (w k : ℕ) → w < 2 ^ 64 → k < 64 → lowest_clear w k < 64
    → bit_at w (lowest_clear w k) ≡ 0
clear_there w k small lt there =
    let x = from_bit (bit_not w64 w) k in
    let i = lowest_clear w k in
    let is : bit_at x i ≡ 1 = lowest_is x (from_bit_small (bit_not w64 w) k) there in
    let e : bit_at x i ≡ min (bit_at (bit_not w64 w) i) (bit_at (2 ^ 64 - 2 ^ k) i) =
    from_bit_at (bit_not w64 w) k i lt in
    omega (arith, is, e, bit_at_not w64 w i small there, bit_at-lt w i)

pub clear_from_on : (w k : ℕ) → k < 64 → k ≤ lowest_clear w k
clear_from_on w k lt = go (cases_lt (lowest_clear w k) k)
  where
    go : (lowest_clear w k < k) ⊎ (k ≤ lowest_clear w k) → k ≤ lowest_clear w k
    go (inr le) = le
    go (inl below) =
        let x = from_bit (bit_not w64 w) k in
        let i = lowest_clear w k in
        let is : bit_at x i ≡ 1 =
        lowest_is x (from_bit_small (bit_not w64 w) k) (omega (arith, below, lt)) in
        let e : bit_at x i ≡ min (bit_at (bit_not w64 w) i) (bit_at (2 ^ 64 - 2 ^ k) i) =
        from_bit_at (bit_not w64 w) k i lt in
        absurd (omega (arith, is, e, bit_at_mask_below k 64 i below))

-- a word that is not 0 is within the words
pub word_within : (words : List ℕ) (i : ℕ) → slice_index words i ≢ 0 → i < length words
word_within [] i some = absurd (some refl)
word_within (w ∷ ws) zero some = omega arith
word_within (w ∷ ws) (suc i) some = omega (arith, word_within ws i some)
