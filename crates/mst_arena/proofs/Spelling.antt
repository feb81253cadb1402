-- The row that words spell has these words, and each row is spelt by its words.
use Rattle.mst_arena.proofs.Names.{◌≡◌, ◌≢◌, ℕ, zero, suc, ◌+◌, ◌*◌, ◌/◌, ◌%◌, ◌<◌, Bool, true, false, cond, eqb, List, [], ◌∷◌, length, get_or, take, map, refl, sym, ◌∙◌, ap, subst, arith, Some, None, Option, slice_index, slice_range, range_with_len, nat_tests, IsBytes, Row, Entry, Head, IsRow, HasBytes, words_of, byte_of_words, bytes_in}
use Rattle.std.proofs.Common.{◌&&◌}
use Rattle.std.specs.Prelude.{IsSome}
use Rattle.std.specs.Int.{byte_at}
use Rattle.std.specs.Str.{bytes_eq}
use Rattle.std.proofs.lemmas.Slice.Eq.{bytes_eq-Decides}
use Rattle.mst_arena.specs.Words.{entry_in, head_in, candidate, has_limits, row_in}
use Rattle.mst_arena.proofs.Packing.{packed, bytes_back, front_back}

-- ---- the bytes of words are bytes

byte_small : (k w : ℕ) → byte_at k w < 256
byte_small zero w = omega arith
byte_small (suc k) w = omega arith

all_bytes : (words : List ℕ) → IsBytes (bytes_in words)
all_bytes [] = tt
all_bytes (w ∷ ws) = (
  byte_small 7 w,
  (
    byte_small 6 w,
    (
      byte_small 5 w,
      (
        byte_small 4 w,
        (byte_small 3 w, (byte_small 2 w, (byte_small 1 w, (byte_small 0 w, all_bytes ws)))),
      ),
    ),
  ),
)

front_bytes : (n : ℕ) (bytes : List ℕ) → IsBytes bytes → IsBytes (take n bytes)
front_bytes zero bytes all = tt
front_bytes (suc n) [] all = tt
front_bytes (suc n) (b ∷ bytes) all = (all.0, front_bytes n bytes all.1)

pub bytes-at : (xs : List ℕ) → ((i : ℕ) → get_or xs i 0 < 256) → IsBytes xs
bytes-at [] small = tt
bytes-at (x ∷ xs) small = (small 0, bytes-at xs (λ i. small (suc i)))

-- ---- the bytes of the words of a row

-- ---- limits as a test

limits_test : (row : Row) → IsRow row → HasBytes row → has_limits row ≡ true
limits_test (Entry child next key value) is has = grind (arith, nat_tests)
limits_test (Head layer count first tail digest) is has = grind (arith, nat_tests)

limits_row : (row : Row) → has_limits row ≡ true → IsRow row
limits_row (Entry child next key value) e =
    (grind (arith, nat_tests), grind (arith, nat_tests))
limits_row (Head layer count first tail digest) e = (
  grind (arith, nat_tests),
  grind (arith, nat_tests),
  grind (arith, nat_tests),
  grind (arith, nat_tests),
  grind (arith, nat_tests),
  grind (arith, nat_tests),
)

-- ---- what is spelt

pub spelt : (words : List ℕ) (row : Row) → candidate words ≡ row → has_limits row ≡ true
    → words_of row ≡ words → row_in words ≡ Some row
unfolding row_in
spelt words row is limits same =
    let test : bytes_eq (words_of row) words ≡ true = (bytes_eq-Decides (words_of row) words).1 same
    in
    rw (is, limits, test)

pub is_spelt : (words : List ℕ) (row : Row) → row_in words ≡ Some row → (candidate words ≡ row)
    × (has_limits row ≡ true) × (words_of row ≡ words)
unfolding row_in
is_spelt words row e = go (candidate words) refl (has_limits (candidate words))
    (bytes_eq (words_of (candidate words)) words) refl refl e
  where
    go : (c : Row) → candidate words ≡ c → (l t : Bool) → has_limits c ≡ l → bytes_eq (words_of c)
        words ≡ t → cond (l && t) (Some c) None ≡ Some row → (candidate words ≡ row)
        × (has_limits row ≡ true) × (words_of row ≡ words)
    go c is true true limits test e =
        let same : c ≡ row = cc in
        let words_are : words_of c ≡ words = (bytes_eq-Decides (words_of c) words).0 test in
        (is ∙ same, ap has_limits (sym same) ∙ limits, ap words_of (sym same) ∙ words_are)
    go c is true false limits test e = cc
    go c is false t limits test e = cc

-- ---- a row is spelt by its words

candidate_of : (row : Row) → HasBytes row → candidate (words_of row) ≡ row
candidate_of (Entry child next key value) has =
    let key_len : (length key + 256 * length value) % 256 ≡ length key = omega (arith, has.0) in
    let value_len : (length key + 256 * length value) / 256 ≡ length value = omega (arith, has.0) in
    let key_is : take ((length key + 256 * length value) % 256) (bytes_in (packed 4 key)) ≡ key =
    ap (λ (n : ℕ). take n (bytes_in (packed 4 key))) key_len ∙ front_back 4 32 key has.1 has.0.1
    (omega arith) in
    let value_is : take ((length key + 256 * length value) / 256) (bytes_in (packed 8 value))
    ≡ value =
    ap (λ (n : ℕ). take n (bytes_in (packed 8 value))) value_len ∙ front_back 8 64 value has.3 has.2
    (omega arith) in
    ap (λ (k : List ℕ). Entry child next k
    (take ((length key + 256 * length value) / 256) (bytes_in (packed 8 value)))) key_is
    ∙ ap (λ (v : List ℕ). Entry child next key v) value_is
candidate_of (Head layer count first tail digest) has =
    let digest_is : bytes_in (packed 4 digest) ≡ digest =
    ap (λ (n : ℕ). map (byte_of_words (packed 4 digest)) (range_with_len 0 n)) (sym has.0)
    ∙ bytes_back 4 digest has.1 (omega (arith, has.0)) in
    ap (λ (d : List ℕ). Head layer count first tail d) digest_is

pub row_of_words : (row : Row) → IsRow row → HasBytes row → row_in (words_of row) ≡ Some row
row_of_words row is has = spelt (words_of row) row (candidate_of row has) (limits_test row is has)
    refl

-- ---- what is spelt is a row of these words

candidate_bytes : (words : List ℕ) (b : Bool) → has_limits (cond b (entry_in words) (head_in words))
    ≡ true → HasBytes (cond b (entry_in words) (head_in words))
candidate_bytes words true e = (
  (grind (arith, nat_tests), grind (arith, nat_tests)),
  front_bytes (slice_index words 3 % 256) _ (all_bytes (slice_range words 4 8)),
  grind (arith, nat_tests),
  front_bytes (slice_index words 3 / 256) _ (all_bytes (slice_range words 8 16)),
)
candidate_bytes words false e = (grind (arith, nat_tests), all_bytes (slice_range words 5 9))

pub words_of_row : (words : List ℕ) (row : Row) → row_in words ≡ Some row → IsRow row × HasBytes row
    × (words_of row ≡ words)
words_of_row words row e =
    let parts : (candidate words ≡ row) × (has_limits row ≡ true) × (words_of row ≡ words) =
    is_spelt words row e in
    let bytes : HasBytes (candidate words) = candidate_bytes words (eqb (slice_index words 0) 1)
    (ap has_limits parts.0 ∙ parts.1) in
    (limits_row row parts.1, subst HasBytes parts.0 bytes, parts.2)

-- ---- a row that was read

pub row_with_words : (words : List ℕ) (row : Row) → IsRow row → HasBytes row → words_of row ≡ words
    → row_in words ≡ Some row
row_with_words words row is has e = ap row_in (sym e) ∙ row_of_words row is has

-- what is exact for each row that has the words
pub from_exact : (words : List ℕ) (o : Option Row)
    → ((row : Row) → IsRow row → HasBytes row → words_of row ≡ words → o ≡ Some row)
    → IsSome (row_in words) → row_in words ≡ o
from_exact words o exact some = go (row_in words) refl some
  where
    go : (r : Option Row) → row_in words ≡ r → IsSome (row_in words) → row_in words ≡ o
    go None e some = cc
    go (Some row) e some =
        let parts : IsRow row × HasBytes row × (words_of row ≡ words) = words_of_row words row e in
        e ∙ sym (exact row parts.0 parts.1 parts.2)

-- words spell no row if the only row that they may be of is none, is not within its limits, or has
-- other words
pub none_found : (words : List ℕ) (o : Option Row) → (IsSome (row_in words) → row_in words ≡ o)
    → ((row : Row) → o ≡ Some row → IsRow row → words_of row ≡ words → ⊥) → None ≡ row_in words
none_found words o exact other = go (row_in words) refl exact
  where
    go : (r : Option Row) → row_in words ≡ r → (IsSome (row_in words) → row_in words ≡ o)
        → None ≡ row_in words
    go None e exact = sym e
    go (Some row) e exact =
        let parts : IsRow row × HasBytes row × (words_of row ≡ words) = words_of_row words row e in
        let some : IsSome (row_in words) = cc in
        absurd (other row (sym (exact some) ∙ e) parts.0 parts.2)

-- and then no row has these words
pub no_row : (words : List ℕ) → None ≡ row_in words → (row : Row) → IsRow row → HasBytes row
    → words_of row ≢ words
no_row words none row is has e =
    let some : row_in words ≡ Some row = row_with_words words row is has e in
    cc
