use Rattle.mst_arena.proofs.Names.{◌≡◌, ◌≢◌, ℕ, ◌/◌, ◌%◌, ◌⊎◌, inl, inr, List, sym, ◌∙◌, ap, arith, rules, slice_index, bit_at, cases_eq, bit_at-zero, bit, BitWritten, Sums}
use Rattle.mst_arena.proofs.bits.take_bit.Goals as goal

-- a bit cleared in the words, and in their summary as its word is now 0
sums_clear : (words summary words' summary' : List ℕ) (index : ℕ) → Sums words summary
    → BitWritten words words' index 0 → slice_index words' (index / 64) ≡ 0
    → BitWritten summary summary' (index / 64) 0 → Sums words' summary'
sums_clear words summary words' summary' index sums own none sum = record {
  room = omega (arith, own.len, sum.len, sums.room);
  no = λ w clear. now w clear (cases_eq w (index / 64));
  yes = λ w set.
      let other : w ≢ index / 64 = λ e.
      omega (arith, sum.here, ap (bit summary') (sym e), set) in
      λ zero. sums.yes w (sym (sum.others w other) ∙ set) (sym (own.elsewhere w other) ∙ zero);
}
  where
    now : (w : ℕ) → bit summary' w ≡ 0 → (w ≡ index / 64) ⊎ (w ≡ index / 64 → ⊥)
        → slice_index words' w ≡ 0
    now w clear (inl here) = ap (slice_index words') here ∙ none
    now w clear (inr other) = own.elsewhere w other ∙ sums.no w (sym (sum.others w other) ∙ clear)

-- a bit cleared in a word that is still not 0
sums_kept : (words summary words' : List ℕ) (index : ℕ) → Sums words summary → bit words index ≡ 1
    → BitWritten words words' index 0 → slice_index words' (index / 64) ≢ 0 → Sums words' summary
sums_kept words summary words' index sums was own some = record {
  room = omega (arith, own.len, sums.room);
  no = λ w clear.
      let other : w ≢ index / 64 = λ e.
      let zero_bit : bit words index ≡ 0 =
      ap (λ (x : ℕ). bit_at x (index % 64)) (ap (slice_index words) (sym e) ∙ sums.no w clear)
      ∙ bit_at-zero (index % 64) in
      omega (arith, was, zero_bit) in
      own.elsewhere w other ∙ sums.no w clear;
  yes = λ w set. now w set (cases_eq w (index / 64));
}
  where
    now : (w : ℕ) → bit summary w ≡ 1 → (w ≡ index / 64) ⊎ (w ≡ index / 64 → ⊥)
        → slice_index words' w ≢ 0
    now w set (inl here) = λ none. some (sym (ap (slice_index words') here) ∙ none)
    now w set (inr other) = λ none. sums.yes w set (sym (own.elsewhere w other) ∙ none)

pub returns-then-clear_bit-clause-sums : goal.returns-then-clear_bit-clause-sums
returns-then-clear_bit-clause-sums c =
    sums_clear _ _ _ _ c.args.index c.requires.sums c.if-clear_bit.ensures.written (search rules)
    c.clear_bit-then-clear_bit.ensures.written

pub returns-else-clear_bit-clause-sums : goal.returns-else-clear_bit-clause-sums
returns-else-clear_bit-clause-sums c =
    sums_kept _ _ _ _ c.requires.sums c.requires.set (search rules) (search rules)
