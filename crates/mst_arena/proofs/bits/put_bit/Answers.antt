use Rattle.mst_arena.proofs.Names.{◌≡◌, ◌≢◌, ℕ, ◌/◌, ◌%◌, ◌⊎◌, inl, inr, List, sym, ◌∙◌, ap, arith, rules, slice_index, bit_at, cases_eq, bit_at-zero, bit, BitWritten, Sums}
use Rattle.mst_arena.proofs.bits.put_bit.Goals as goal

-- a bit set in the words and in their summary
sums_set : (words summary words' summary' : List ℕ) (index : ℕ) → Sums words summary
    → BitWritten words words' index 1 → BitWritten summary summary' (index / 64) 1
    → Sums words' summary'
sums_set words summary words' summary' index sums own sum = record {
  room = omega (arith, own.len, sum.len, sums.room);
  no = λ w clear.
      let other : w ≢ index / 64 = λ e.
      omega (arith, sum.here, ap (bit summary') (sym e), clear) in
      own.elsewhere w other ∙ sums.no w (sym (sum.others w other) ∙ clear);
  yes = λ w set. some w set (cases_eq w (index / 64));
}
  where
    some : (w : ℕ) → bit summary' w ≡ 1 → (w ≡ index / 64) ⊎ (w ≡ index / 64 → ⊥)
        → slice_index words' w ≢ 0
    some w set (inl here) = λ none.
        let zero_bit : bit words' index ≡ 0 =
        ap (λ (x : ℕ). bit_at x (index % 64)) (ap (slice_index words') (sym here) ∙ none)
        ∙ bit_at-zero (index % 64) in
        omega (arith, own.here, zero_bit)
    some w set (inr other) = λ none.
        sums.yes w (sym (sum.others w other) ∙ set) (sym (own.elsewhere w other) ∙ none)

pub returns-clause-sums : goal.returns-clause-sums
returns-clause-sums c = search (rules, sums_set)
