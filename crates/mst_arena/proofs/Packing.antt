-- Bytes that were packed into words are got back from them.
use Rattle.mst_arena.proofs.Names.{◌≡◌, ℕ, zero, suc, ◌+◌, ◌*◌, ◌/◌, ◌%◌, ◌<◌, ◌≤◌, List, [], ◌∷◌, length, get_or, map, take, refl, ◌∙◌, ap, arith, slice_index, w64, range_with_len, ext_get_or, length-map-range_with_len, get_or-map-range_with_len, IsBytes, byte_of_words}
use Rattle.std.specs.Int.{to_be_bytes}
use Rattle.std.proofs.lemmas.Nat.{be_bytes_8}
use Rattle.std.proofs.lemmas.List.{get_or_past}
use Rattle.std.proofs.lemmas.List.FromFn.{take-map-range_with_len}
use Rattle.mst_arena.specs.Words.{eight_from, word_from}

-- each byte is below 256, and so is what stands for one past the end
pub byte_lt : (bytes : List ℕ) (i : ℕ) → IsBytes bytes → slice_index bytes i < 256
byte_lt [] i all = omega arith
byte_lt (b ∷ bytes) zero all = all.0
byte_lt (b ∷ bytes) (suc i) all = byte_lt bytes i all.1

eight_lt : (bytes : List ℕ) (i j : ℕ) → IsBytes bytes → get_or (eight_from bytes i) j 0 < 256
eight_lt bytes i zero all = byte_lt bytes i all
eight_lt bytes i (suc zero) all = byte_lt bytes (i + 1) all
eight_lt bytes i (suc (suc zero)) all = byte_lt bytes (i + 2) all
eight_lt bytes i (suc (suc (suc zero))) all = byte_lt bytes (i + 3) all
eight_lt bytes i (suc (suc (suc (suc zero)))) all = byte_lt bytes (i + 4) all
eight_lt bytes i (suc (suc (suc (suc (suc zero))))) all = byte_lt bytes (i + 5) all
eight_lt bytes i (suc (suc (suc (suc (suc (suc zero)))))) all = byte_lt bytes (i + 6) all
eight_lt bytes i (suc (suc (suc (suc (suc (suc (suc zero))))))) all = byte_lt bytes (i + 7) all
eight_lt bytes i (suc (suc (suc (suc (suc (suc (suc (suc j)))))))) all = omega arith

eight_at : (bytes : List ℕ) (i j : ℕ) → j < 8 → slice_index (eight_from bytes i) j ≡ slice_index
    bytes (i + j)
eight_at bytes i zero lt = ap (slice_index bytes) (omega arith)
eight_at bytes i (suc zero) lt = refl
eight_at bytes i (suc (suc zero)) lt = refl
eight_at bytes i (suc (suc (suc zero))) lt = refl
eight_at bytes i (suc (suc (suc (suc zero)))) lt = refl
eight_at bytes i (suc (suc (suc (suc (suc zero))))) lt = refl
eight_at bytes i (suc (suc (suc (suc (suc (suc zero)))))) lt = refl
eight_at bytes i (suc (suc (suc (suc (suc (suc (suc zero))))))) lt = refl
eight_at bytes i (suc (suc (suc (suc (suc (suc (suc (suc j)))))))) lt = absurd (omega arith)

-- the word of eight bytes past the end
pub past_word : (bytes : List ℕ) (i : ℕ) → length bytes ≤ i → 0 ≡ word_from bytes i
unfolding word_from
past_word bytes i le =
    rw (
      get_or_past bytes i 0 le,
      get_or_past bytes (i + 1) 0 (omega (arith, le)),
      get_or_past bytes
          (i + 2) 0 (omega (arith, le)),
      get_or_past bytes (i + 3) 0 (omega (arith, le)),
      get_or_past bytes (i + 4) 0 (omega (arith, le)),
      get_or_past bytes (i + 5) 0
          (omega (arith, le)),
      get_or_past bytes (i + 6) 0 (omega (arith, le)),
      get_or_past bytes
          (i + 7) 0 (omega (arith, le)),
    )

-- so many words of the bytes
abbrev pub packed : ℕ → List ℕ → List ℕ
packed n bytes = map (λ j. word_from bytes (8 * j)) (range_with_len 0 n)

bytes_of_word : (bytes : List ℕ) (i : ℕ) → IsBytes bytes → to_be_bytes w64 (word_from bytes i)
    ≡ eight_from bytes i
unfolding word_from
bytes_of_word bytes i all = be_bytes_8 (eight_from bytes i) (word_from bytes i) refl
    (λ j. eight_lt bytes i j all) refl

byte_back : (n : ℕ) (bytes : List ℕ) (i : ℕ) → IsBytes bytes → i < 8 * n
    → byte_of_words (packed n bytes) i ≡ slice_index bytes i
byte_back n bytes i all lt =
    let word : slice_index (packed n bytes) (i / 8) ≡ word_from bytes (8 * (i / 8)) =
    get_or-map-range_with_len (λ j. word_from bytes (8 * j)) 0 n (i / 8) (i / 8) 0 (omega arith)
    (omega arith) in
    let whole : 8 * (i / 8) + i % 8 ≡ i = omega arith in
    ap (λ w. slice_index (to_be_bytes w64 w) (i % 8)) word
    ∙ ap (λ b. slice_index b (i % 8)) (bytes_of_word bytes (8 * (i / 8)) all)
    ∙ eight_at bytes (8 * (i / 8)) (i % 8) (omega arith)
    ∙ ap (slice_index bytes) whole

-- the bytes of the words are the bytes that were packed
pub bytes_back : (n : ℕ) (bytes : List ℕ) → IsBytes bytes → length bytes ≤ 8 * n
    → map (byte_of_words (packed n bytes)) (range_with_len 0 (length bytes)) ≡ bytes
bytes_back n bytes all le = ext_get_or 0 _ bytes
    (length-map-range_with_len (byte_of_words (packed n bytes)) 0 (length bytes))
    (λ i lt.
    let within : i < length bytes =
    omega (arith, length-map-range_with_len (byte_of_words (packed n bytes)) 0 (length bytes))
    in
    get_or-map-range_with_len (byte_of_words (packed n bytes)) 0 (length bytes) i i 0 within
    (omega arith)
    ∙ byte_back n bytes i all (omega arith))

-- the same, if more bytes were read than the list has
pub front_back : (n m : ℕ) (bytes : List ℕ) → IsBytes bytes → length bytes ≤ m → m ≤ 8 * n
    → take (length bytes) (map (byte_of_words (packed n bytes)) (range_with_len 0 m)) ≡ bytes
front_back n m bytes all le few = take-map-range_with_len (byte_of_words (packed n bytes)) 0 m
    (length bytes) le ∙ bytes_back n bytes all (omega arith)
