-- The order of two keys is that of their words, and if these are the same, of their lengths.
use Rattle.mst_arena.proofs.Names.{◌≡◌, ℕ, zero, suc, ◌+◌, ◌%◌, ◌<◌, ◌≤◌, List, [], ◌∷◌, length, refl, sym, ◌∙◌, ap, arith, Ordering, Less, Equal, Greater, slice_index, IsBytes, key_cmp, words_order}
use Rattle.std.proofs.Common.{nat_cmp}
use Rattle.std.specs.Ordering.{ordering_then}
use Rattle.mst_node.proofs.FirstWords.{less, greater, same, eight}
use Rattle.mst_arena.specs.Words.{word_from}
use Rattle.mst_arena.proofs.Packing.{byte_lt}

-- ---- bytes one after another

-- so many bytes from an index on, and then the rest; a byte past the end is 0
abbrev bytes_order : ℕ → ℕ → List ℕ → List ℕ → Ordering → Ordering
bytes_order zero i x y r = r
bytes_order (suc n) i x y r = ordering_then (nat_cmp (slice_index x i) (slice_index y i))
    (bytes_order n (suc i) x y r)

later : (n i a b : ℕ) (x y : List ℕ) (r : Ordering) → bytes_order n (suc i) (a ∷ x) (b ∷ y) r
    ≡ bytes_order n i x y r
later zero i a b x y r = refl
later (suc n) i a b x y r = ap (ordering_then (nat_cmp (slice_index x i) (slice_index y i)))
    (later n (suc i) a b x y r)

none_less : (m : ℕ) → ordering_then (nat_cmp 0 m) Less ≡ Less
none_less zero = refl
none_less (suc m) = ap (λ (o : Ordering). ordering_then o Less) (less 0 (suc m) (omega arith))

none_greater : (m : ℕ) → ordering_then (nat_cmp m 0) Greater ≡ Greater
none_greater zero = refl
none_greater (suc m) = ap (λ (o : Ordering). ordering_then o Greater)
    (greater (suc m) 0 (omega arith))

front_less : (n i : ℕ) (y : List ℕ) → bytes_order n i [] y Less ≡ Less
front_less zero i y = refl
front_less (suc n) i y = ap (ordering_then (nat_cmp 0 (slice_index y i))) (front_less n (suc i) y)
    ∙ none_less (slice_index y i)

front_greater : (n i : ℕ) (x : List ℕ) → bytes_order n i x [] Greater ≡ Greater
front_greater zero i x = refl
front_greater (suc n) i x = ap (ordering_then (nat_cmp (slice_index x i) 0))
    (front_greater n (suc i) x) ∙ none_greater (slice_index x i)

nothing : (n i : ℕ) (r : Ordering) → bytes_order n i [] [] r ≡ r
nothing zero i r = refl
nothing (suc n) i r = nothing n (suc i) r

-- bytes up to the end of both, and then the lengths
to_end : (n : ℕ) (x y : List ℕ) (r : Ordering) → length x ≤ n → length y ≤ n
    → (length x < length y → r ≡ Less) → (length x ≡ length y → r ≡ Equal)
    → (length y < length x → r ≡ Greater) → bytes_order n 0 x y r ≡ key_cmp x y
to_end n [] [] r lx ly l e g = nothing n 0 r ∙ e refl
to_end n [] (b ∷ y) r lx ly l e g = ap (bytes_order n 0 [] (b ∷ y)) (l (omega arith))
    ∙ front_less n 0 (b ∷ y)
to_end n (a ∷ x) [] r lx ly l e g = ap (bytes_order n 0 (a ∷ x) []) (g (omega arith))
    ∙ front_greater n 0 (a ∷ x)
to_end zero (a ∷ x) (b ∷ y) r lx ly l e g = absurd (omega (arith, lx))
to_end (suc n) (a ∷ x) (b ∷ y) r lx ly l e g =
    ap (ordering_then (nat_cmp a b))
    (later n 0 a b x y r ∙ to_end n x y r (omega (arith, lx)) (omega (arith, ly))
    (λ h. l (omega (arith, h))) (λ h. e (omega (arith, h))) (λ h. g (omega (arith, h))))

-- ---- words one after another

word_step : (x y : List ℕ) (i : ℕ) (r : Ordering) → IsBytes x → IsBytes y
    → ordering_then (nat_cmp (slice_index x i) (slice_index y i))
    (ordering_then (nat_cmp (slice_index x (i + 1)) (slice_index y (i + 1)))
    (ordering_then (nat_cmp (slice_index x (i + 2)) (slice_index y (i + 2)))
    (ordering_then (nat_cmp (slice_index x (i + 3)) (slice_index y (i + 3)))
    (ordering_then (nat_cmp (slice_index x (i + 4)) (slice_index y (i + 4)))
    (ordering_then (nat_cmp (slice_index x (i + 5)) (slice_index y (i + 5)))
    (ordering_then (nat_cmp (slice_index x (i + 6)) (slice_index y (i + 6)))
    (ordering_then (nat_cmp (slice_index x (i + 7)) (slice_index y (i + 7))) r)))))))
    ≡ ordering_then (nat_cmp (word_from x i) (word_from y i)) r
unfolding word_from
word_step x y i r bx by = eight _ _ _ _ _ _ _ _ _ _ _ _ _ _ _ _ r
    (byte_lt x (i + 1) bx) (byte_lt y (i + 1) by) (byte_lt x (i + 2) bx) (byte_lt y (i + 2) by)
    (byte_lt x (i + 3) bx) (byte_lt y (i + 3) by) (byte_lt x (i + 4) bx) (byte_lt y (i + 4) by)
    (byte_lt x (i + 5) bx) (byte_lt y (i + 5) by) (byte_lt x (i + 6) bx) (byte_lt y (i + 6) by)
    (byte_lt x (i + 7) bx) (byte_lt y (i + 7) by)

four_words : (x y : List ℕ) (r : Ordering) → IsBytes x → IsBytes y
    → bytes_order 32 0 x y r ≡ ordering_then (nat_cmp (word_from x 0) (word_from y 0))
    (ordering_then (nat_cmp (word_from x 8) (word_from y 8))
    (ordering_then (nat_cmp (word_from x 16) (word_from y 16))
    (ordering_then (nat_cmp (word_from x 24) (word_from y 24)) r)))
four_words x y r bx by =
    word_step x y 0 (bytes_order 24 8 x y r) bx by
    ∙ ap (ordering_then (nat_cmp (word_from x 0) (word_from y 0)))
    (word_step x y 8 (bytes_order 16 16 x y r) bx by
    ∙ ap (ordering_then (nat_cmp (word_from x 8) (word_from y 8)))
    (word_step x y 16 (bytes_order 8 24 x y r) bx by
    ∙ ap (ordering_then (nat_cmp (word_from x 16) (word_from y 16)))
    (word_step x y 24 r bx by)))

-- the words of a key beside those of another decide as the keys do
pub by_words : (x y : List ℕ) (word : ℕ → ℕ) → IsBytes x → IsBytes y → length x ≤ 32 → length y ≤ 32
    → word 4 ≡ word_from y 0 → word 5 ≡ word_from y 8 → word 6 ≡ word_from y 16
    → word 7 ≡ word_from y 24 → word 3 % 256 ≡ length y → words_order x word ≡ key_cmp x y
by_words x y word bx by lx ly four five six seven size =
    rw (four, five, six, seven, size)
    (flat (nat_cmp (word_from x 0) (word_from y 0)) (nat_cmp (word_from x 8) (word_from y 8))
    (nat_cmp (word_from x 16) (word_from y 16)) (nat_cmp (word_from x 24) (word_from y 24))
    (nat_cmp (length x) (length y))
    ∙ sym (four_words x y (nat_cmp (length x) (length y)) bx by)
    ∙ to_end 32 x y (nat_cmp (length x) (length y)) lx ly (less (length x) (length y))
    (same (length x) (length y)) (greater (length x) (length y)))
  where
    flat : (a b c d e : Ordering)
        → ordering_then (ordering_then (ordering_then (ordering_then a b) c) d) e ≡ ordering_then a
        (ordering_then b (ordering_then c (ordering_then d e)))
    flat Less b c d e = refl
    flat Equal Less c d e = refl
    flat Equal Equal Less d e = refl
    flat Equal Equal Equal d e = refl
    flat Equal Equal Greater d e = refl
    flat Equal Greater c d e = refl
    flat Greater b c d e = refl
