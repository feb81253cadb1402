-- A set of rows, when a row is put into it or taken out of it.
use Rattle.mst_arena.proofs.Names.{◌≡◌, ◌≢◌, ℕ, zero, suc, ◌+◌, ◌-◌, ◌*◌, ◌/◌, ◌%◌, ◌<◌, ◌≤◌, Bool, true, false, eqb, List, [], ◌∷◌, length, refl, sym, ◌∙◌, ap, arith, Some, inl, inr, ◌⊎◌, take, drop, ◌++◌, slice_get, slice_set, slice_index, length-set, cases_lt, nat_tests, bit_at-zero, bit_at, bit, flags, count_true, BitWritten, Sums}
use Rattle.std.specs.Prelude.{replicate}
use Rattle.std.proofs.Math.Seq.{take-append_seam}
use Rattle.mst_arena.specs.Bits.{IsSet}
use Rattle.mst_arena.proofs.FlagLemmas.{count_drop, count_more, count_le, count_none, length-flags, flag_at, flag_within, flags_set, bit_of_flag}

-- a word with a bit set is not 0
pub some_bit : (words : List ℕ) (row : ℕ) → bit words row ≡ 1 → slice_index words (row / 64) ≢ 0
some_bit words row is none =
    let e : bit words row ≡ 0 = ap (λ (w : ℕ). bit_at w (row % 64)) none ∙ bit_at-zero (row % 64) in
    omega arith

-- ---- the set as a whole

module _ (rows count at : ℕ) (words sums : List ℕ) (wc sc : ℕ)
    (set : IsSet rows count at words sums wc sc) where
  pub put_flags : (new : List ℕ) (row : ℕ) → BitWritten words new row 1 → flags rows new ≡ slice_set
      (flags rows words) row true
  put_flags new row w =
      flags_set rows words new row true (let e = w.here in grind (arith, nat_tests)) w.others

  pub take_flags : (new : List ℕ) (row : ℕ) → BitWritten words new row 0 → flags rows new
      ≡ slice_set (flags rows words) row false
  take_flags new row w =
      flags_set rows words new row false (let e = w.here in grind (arith, nat_tests)) w.others

  pub put_room : (row : ℕ) → slice_get (flags rows words) row ≡ Some false → count + 1 ≤ 65535
  put_room row out =
      omega (
        arith,
        set.counted,
        count_more (flags rows words) row out,
        count_le
            (slice_set (flags rows words) row true),
        length_same,
        length-flags rows words,
        set.few,
      )
    where
      length_same : length (slice_set (flags rows words) row true) ≡ length (flags rows words)
      length_same = length-set (flags rows words) row true

  pub set_put : (new sums' : List ℕ) (row : ℕ) → slice_get (flags rows words) row ≡ Some false
      → BitWritten words new row 1 → Sums new sums' → length sums' ≡ length sums
      → IsSet rows (count + 1) at new sums' wc sc
  set_put new sums' row out w s few = record {
    few = set.few;
    room = omega (arith, set.room, w.len);
    few_words = omega (arith, set.few_words, w.len);
    few_sums = omega (arith, set.few_sums, few);
    cursor = omega (arith, set.cursor, w.len);
    beyond = λ r far. let apart : r ≢ row =
        (λ e. absurd (omega (arith, flag_within rows words row false out))) in w.others r apart
        ∙ set.beyond r far;
    sums = s;
    counted = ap (λ (n : ℕ). n + 1) set.counted ∙ sym (count_more (flags rows words) row out)
        ∙ ap count_true (sym (put_flags new row w));
    fits = omega (arith, set.fits, w.len);
    sums_fit = omega (arith, set.sums_fit, few, w.len);
    words_full = omega (arith, set.words_full, w.len);
    summary_full = omega (arith, set.summary_full, few);
  }

  pub set_take : (new sums' : List ℕ) (row at' : ℕ) → slice_get (flags rows words) row ≡ Some true
      → BitWritten words new row 0 → Sums new sums' → length sums' ≡ length sums
      → at' < length words → IsSet rows (count - 1) at' new sums' wc sc
  set_take new sums' row at' has w s few lt = record {
    few = set.few;
    room = omega (arith, set.room, w.len);
    few_words = omega (arith, set.few_words, w.len);
    few_sums = omega (arith, set.few_sums, few);
    cursor = omega (arith, w.len);
    beyond = λ r far. let apart : r ≢ row =
        (λ e. absurd (omega (arith, flag_within rows words row true has))) in w.others r apart
        ∙ set.beyond r far;
    sums = s;
    counted =
        omega (
          arith,
          set.counted,
          count_drop (flags rows words) row has,
          ap count_true
              (take_flags new row w),
        );
    fits = omega (arith, set.fits, w.len);
    sums_fit = omega (arith, set.sums_fit, few, w.len);
    words_full = omega (arith, set.words_full, w.len);
    summary_full = omega (arith, set.summary_full, few);
  }

  pub take_some : (row : ℕ) → slice_get (flags rows words) row ≡ Some true → 0 < count
  take_some row has = omega (arith, set.counted, count_drop (flags rows words) row has)

  -- a bit that is set is of a row
  pub bit_there : (row : ℕ) → bit words row ≡ 1 → row < rows
  bit_there row is = go (cases_lt row rows)
    where
      go : (row < rows) ⊎ (rows ≤ row) → row < rows
      go (inl lt) = lt
      go (inr far) = absurd (omega (arith, set.beyond row far))

  pub set_bit_flag : (row : ℕ) → bit words row ≡ 1 → slice_get (flags rows words) row ≡ Some true
  set_bit_flag row is = flag_at rows words row (bit_there row is) ∙ ap (λ (x : ℕ). Some (eqb x 1))
      is

  -- if all words are 0, no row is in the set
  pub set_none : ((w : ℕ) → slice_index words w ≡ 0) → count_true (flags rows words) ≡ 0
  set_none none =
      count_none (flags rows words)
      (λ r at. some_bit words r (bit_of_flag rows words r at) (none (r / 64)))

-- the items that are written back to a vector
pub written : {X : Type 0} (n : ℕ) (new old : List X) → length new ≡ n
    → take n (new ++ drop (length new) old) ≡ new
written n new old e = ap (λ (k : ℕ). take k (new ++ drop (length new) old)) (sym e)
    ∙ take-append_seam new (drop (length new) old)

-- ---- places of a list, after a write

pub get_set_same : {X : Type 0} (xs : List X) (i : ℕ) (x y : X) → slice_get xs i ≡ Some x
    → slice_get (slice_set xs i y) i ≡ Some y
get_set_same [] i x y at = cc
get_set_same (z ∷ zs) zero x y at = refl
get_set_same (z ∷ zs) (suc i) x y at = get_set_same zs i x y at

pub get_set_other : {X : Type 0} (xs : List X) (i j : ℕ) (y : X) → j ≢ i
    → slice_get (slice_set xs i y) j ≡ slice_get xs j
get_set_other [] i j y apart = refl
get_set_other (z ∷ zs) zero zero y apart = absurd (apart refl)
get_set_other (z ∷ zs) zero (suc j) y apart = refl
get_set_other (z ∷ zs) (suc i) zero y apart = refl
get_set_other (z ∷ zs) (suc i) (suc j) y apart = get_set_other zs i j y (λ e. apart (ap suc e))

pub all_true : (bs : List Bool) (n : ℕ) → length bs ≡ n
    → ((k : ℕ) → k < n → slice_get bs k ≡ Some true) → bs ≡ replicate n true
all_true [] zero len all = refl
all_true [] (suc n) len all = absurd (omega arith)
all_true (b ∷ bs) zero len all = absurd (omega arith)
all_true (b ∷ bs) (suc n) len all =
    let here : Some b ≡ Some true = all 0 (omega arith) in
    let rest = all_true bs n (omega arith) (λ k lt. all (suc k) (omega arith)) in
    cc

-- ---- a set with no row

index_zeros : (n i : ℕ) → slice_index (replicate n 0) i ≡ 0
index_zeros zero i = refl
index_zeros (suc n) zero = refl
index_zeros (suc n) (suc i) = index_zeros n i

pub length_zeros : (n : ℕ) → length {A = ℕ} (replicate n 0) ≡ n
length_zeros zero = refl
length_zeros (suc n) = omega (arith, length_zeros n)

pub bit_zeros : (n i : ℕ) → bit (replicate n 0) i ≡ 0
bit_zeros n i = ap (λ (w : ℕ). bit_at w (i % 64)) (index_zeros n (i / 64)) ∙ bit_at-zero (i % 64)

pub no_flag : (rows n r : ℕ) → r < rows → slice_get (flags rows (replicate n 0)) r ≡ Some false
no_flag rows n r lt = flag_at rows (replicate n 0) r lt ∙ ap (λ (x : ℕ). Some (eqb x 1))
    (bit_zeros n r)

pub empty_set : (rows n m : ℕ) → rows ≤ 65535 → rows ≤ 64 * n → n ≤ 64 * m → 0 < n → n ≤ 65535
    → m ≤ 65535 → 64 * n < rows + 64 → 64 * m < n + 64
    → IsSet rows 0 0 (replicate n 0) (replicate m 0) n m
empty_set rows n m few room sums some few_n few_m fits sums_fit = record {
  few = few;
  room = omega (arith, length_zeros n);
  few_words = omega (arith, length_zeros n);
  few_sums = omega (arith, length_zeros m);
  cursor = omega (arith, length_zeros n);
  beyond = λ r far. bit_zeros n r;
  sums = record {
    room = omega (arith, length_zeros n, length_zeros m);
    no = λ w none. index_zeros n w;
    yes = λ w is. absurd (omega (arith, bit_zeros m w));
  };
  counted = sym (count_none (flags rows (replicate n 0)) (λ r at.
      let off : Some false ≡ Some true =
      sym (no_flag rows n r (flag_within rows (replicate n 0) r true at)) ∙ at in
      cc));
  fits = omega (arith, length_zeros n);
  sums_fit = omega (arith, length_zeros n, length_zeros m);
  words_full = omega (arith, length_zeros n);
  summary_full = omega (arith, length_zeros m);
}
