-- The flags of rows, and how many of them are true.
use Rattle.mst_arena.proofs.Names.{◌≡◌, ◌≢◌, ℕ, zero, suc, ◌+◌, ◌<◌, ◌≤◌, Bool, true, false, cond, eqb, List, [], ◌∷◌, length, get_or, refl, sym, ◌∙◌, ap, arith, Some, inl, inr, ◌⊎◌, slice_get, slice_set, length-set, cases_eq, nat_tests, get_or-set_same, get_or-set_other, length-map-range_with_len, get_or-map-range_with_len, slice_get-get_or, bit, flags, count_true}
use Rattle.std.proofs.lemmas.List.FromFn.{fill_by_all}
use Rattle.std.proofs.lemmas.List.Recursion.{is_count_by}
use Rattle.std.proofs.lemmas.Option.{slice_get_within}

-- ---- how many are true

trues : List Bool → ℕ
trues [] = 0
trues (b ∷ bs) = cond b (1 + trues bs) (trues bs)

trues_is : (bs : List Bool) → trues bs ≡ count_true bs
unfolding trues
trues_is = is_count_by trues (λ b. b) refl (λ x xs. refl)

trues_drop : (bs : List Bool) (r : ℕ) → slice_get bs r ≡ Some true → trues (slice_set bs r false)
    + 1 ≡ trues bs
unfolding trues
trues_drop [] r at = cc
trues_drop (true ∷ bs) zero at = omega arith
trues_drop (false ∷ bs) zero at = cc
trues_drop (true ∷ bs) (suc r) at = omega (arith, trues_drop bs r at)
trues_drop (false ∷ bs) (suc r) at = trues_drop bs r at

trues_more : (bs : List Bool) (r : ℕ) → slice_get bs r ≡ Some false → trues (slice_set bs r true)
    ≡ trues bs + 1
unfolding trues
trues_more [] r at = cc
trues_more (true ∷ bs) zero at = cc
trues_more (false ∷ bs) zero at = omega arith
trues_more (true ∷ bs) (suc r) at = omega (arith, trues_more bs r at)
trues_more (false ∷ bs) (suc r) at = trues_more bs r at

pub count_drop : (bs : List Bool) (r : ℕ) → slice_get bs r ≡ Some true
    → count_true (slice_set bs r false) + 1 ≡ count_true bs
count_drop bs r at = omega (arith, trues_is bs, trues_is (slice_set bs r false), trues_drop bs r at)

pub count_more : (bs : List Bool) (r : ℕ) → slice_get bs r ≡ Some false
    → count_true (slice_set bs r true) ≡ count_true bs + 1
count_more bs r at = omega (arith, trues_is bs, trues_is (slice_set bs r true), trues_more bs r at)

trues_le : (bs : List Bool) → trues bs ≤ length bs
unfolding trues
trues_le [] = omega arith
trues_le (true ∷ bs) = omega (arith, trues_le bs)
trues_le (false ∷ bs) = omega (arith, trues_le bs)

pub count_le : (bs : List Bool) → count_true bs ≤ length bs
count_le bs = omega (arith, trues_is bs, trues_le bs)

trues_none : (bs : List Bool) → ((r : ℕ) → slice_get bs r ≢ Some true) → trues bs ≡ 0
unfolding trues
trues_none [] none = refl
trues_none (true ∷ bs) none = absurd (none 0 refl)
trues_none (false ∷ bs) none = trues_none bs (λ r. none (suc r))

pub count_none : (bs : List Bool) → ((r : ℕ) → slice_get bs r ≢ Some true) → count_true bs ≡ 0
count_none bs none = sym (trues_is bs) ∙ trues_none bs none

-- ---- flags and bits

pub length-flags : (rows : ℕ) (words : List ℕ) → length (flags rows words) ≡ rows
length-flags rows words = length-map-range_with_len (λ r. eqb (bit words r) 1) 0 rows

pub flag_at : (rows : ℕ) (words : List ℕ) (r : ℕ) → r < rows → slice_get (flags rows words) r ≡ Some
    (eqb (bit words r) 1)
flag_at rows words r lt =
    slice_get-get_or (flags rows words) r false (omega (arith, length-flags rows words))
    ∙ ap Some (get_or-map-range_with_len (λ i. eqb (bit words i) 1) 0 rows r r false lt
    (omega arith))

pub flag_within : (rows : ℕ) (words : List ℕ) (r : ℕ) (b : Bool) → slice_get (flags rows words) r
    ≡ Some b → r < rows
flag_within rows words r b at =
    omega (arith, length-flags rows words, slice_get_within (flags rows words) r b at)

-- a flag that is true is a bit that is set
pub bit_of_flag : (rows : ℕ) (words : List ℕ) (r : ℕ) → slice_get (flags rows words) r ≡ Some true
    → bit words r ≡ 1
bit_of_flag rows words r at =
    let e : Some (eqb (bit words r) 1) ≡ Some true =
    sym (flag_at rows words r (flag_within rows words r true at)) ∙ at in
    let t : eqb (bit words r) 1 ≡ true = cc in
    grind (arith, nat_tests)

-- one bit was written
pub flags_set : (rows : ℕ) (old new : List ℕ) (row : ℕ) (b : Bool) → eqb (bit new row) 1 ≡ b
    → ((i : ℕ) → i ≢ row → bit new i ≡ bit old i) → flags rows new ≡ slice_set (flags rows old) row
    b
flags_set rows old new row b here others =
    sym (fill_by_all (λ r. eqb (bit new r) 1) (slice_set (flags rows old) row b) rows false
    (length-set (flags rows old) row b ∙ length-flags rows old) each)
  where
    each : (k : ℕ) → k < rows → get_or (slice_set (flags rows old) row b) k false ≡ eqb (bit new k)
        1
    each k lt = go (cases_eq k row)
      where
        go : (k ≡ row) ⊎ (k ≢ row) → get_or (slice_set (flags rows old) row b) k false ≡ eqb
            (bit new k) 1
        go (inl e) =
            ap (λ (j : ℕ). get_or (slice_set (flags rows old) row b) j false) e
            ∙ get_or-set_same (flags rows old) row b false (omega (arith, length-flags rows old))
            ∙ sym here ∙ ap (λ (j : ℕ). eqb (bit new j) 1) (sym e)
        go (inr e) =
            get_or-set_other (flags rows old) row k b false e
            ∙ get_or-map-range_with_len (λ i. eqb (bit old i) 1) 0 rows k k false lt (omega arith)
            ∙ ap (λ (x : ℕ). eqb x 1) (sym (others k e))
