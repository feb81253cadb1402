-- The text of a set's rows, from one row on.
use Rattle.mst_replay.proofs.Names.{◌≡◌, ◌≢◌, ℕ, zero, suc, ◌+◌, ◌-◌, ◌*◌, ◌%◌, ◌<◌, ◌≤◌, ◌^◌, inl, inr, ⊎_elim, true, false, eqb, Option, Some, None, List, [], ◌∷◌, ◌++◌, drop, sym, refl, ap, ◌∙◌, subst, arith, bit_or, decimal, dite, ℕ_discrete, dec_le, decimal_digit, row_set, rows_text, rest_text, IsRest}
use Rattle.std.proofs.Common.{◌/◌, ◌⊎◌, Bool, cond, eq-eqb, ne_eqb, filter, eqb-true}
use Rattle.std.specs.List.{range_with_len}
use Rattle.std.specs.Int.{bit_at}
use denote.Ref.{Bor}
use Rattle.std.proofs.lemmas.Fmt.{decimal_step}
use Rattle.std.proofs.lemmas.Nat.Bits.{bit_at_above, bit_at-zero, bit_at-lt, same_from_bits_below, bit_at_set_same, bit_at_set_other}
use Rattle.std.specs.Int.{w64}
use Rattle.std.proofs.Math.Pow.{pow-lt}
use Rattle.std.proofs.lemmas.Nat.{or_lt, one_shl}
use Rattle.mst_replay.specs.Line.{listed}
use Rattle.mst_replay.proofs.Numbers.{tail_same, cancel}

-- the text of the rows of s among the n from a on, each after a comma
abbrev pub part : ℕ → ℕ → ℕ → List ℕ
part a n s = listed (filter (row_set s) (range_with_len a n))

pub part_has : (a n s : ℕ) → row_set s a ≡ true → part a (suc n) s ≡ 44
    ∷ (decimal a ++ part (a + 1) n s)
part_has a n s e =
    ap (λ (t : Bool). listed
    (cond t (a ∷ filter (row_set s) (range_with_len (a + 1) n))
    (filter (row_set s) (range_with_len (a + 1) n)))) e

pub part_skips : (a n s : ℕ) → row_set s a ≡ false → part a (suc n) s ≡ part (a + 1) n s
part_skips a n s e =
    ap (λ (t : Bool). listed
    (cond t (a ∷ filter (row_set s) (range_with_len (a + 1) n))
    (filter (row_set s) (range_with_len (a + 1) n)))) e

pub bool_cases : (b : Bool) → (b ≡ true) ⊎ (b ≡ false)
bool_cases true = inl refl
bool_cases false = inr refl

pub not_both : (b : Bool) → b ≡ true → b ≡ false → ⊥
not_both b t f = let e : true ≡ false = sym t ∙ f in cc

-- it is nothing, or begins with a row of the set
abbrev pub IsPrefix : ℕ → ℕ → ℕ → List ℕ → Type 0
IsPrefix a n s xs =
    (xs ≡ []) ⊎ ((j : ℕ) × (a ≤ j) × (j < a + n)
    × ((more : List ℕ) × IsRest more × (xs ≡ 44 ∷ (decimal j ++ more))))

is_rest : (a n s : ℕ) → IsRest (part a n s)
is_rest a zero s = tt
is_rest a (suc n) s =
    ⊎_elim (λ (has : row_set s a ≡ true). subst IsRest (sym (part_has a n s has)) refl)
    (λ (not : row_set s a ≡ false). subst IsRest (sym (part_skips a n s not)) (is_rest (a + 1) n s))
    (bool_cases (row_set s a))

pub part_is_rest : (a n s : ℕ) → IsRest (part a n s)
part_is_rest = is_rest

pub begins : (a n s : ℕ) → IsPrefix a n s (part a n s)
begins a zero s = inl refl
begins a (suc n) s =
    ⊎_elim (λ (has : row_set s a ≡ true). inr
    (a, omega arith, omega arith, (part (a + 1) n s, is_rest (a + 1) n s, part_has a n s has)))
    (λ (not : row_set s a ≡ false). ⊎_elim
    (λ (none : part (a + 1) n s ≡ []). inl (part_skips a n s not ∙ none))
    (λ (h : (j : ℕ) × (a + 1 ≤ j) × (j < a + 1 + n)
    × ((more : List ℕ) × IsRest more × (part (a + 1) n s ≡ 44 ∷ (decimal j ++ more)))).
    inr (
      h.0,
      let l = h.1 in omega arith,
      let l =
          h.2 in omega arith,
      (h.3.0, h.3.1, part_skips a n s not ∙ h.3.2),
    )) (begins (a + 1) n s))
    (bool_cases (row_set s a))

-- ---- a numeral before a comma or the end says its number

one_digit : (n : ℕ) → n < 10 → decimal n ≡ (48 + n) ∷ []
one_digit n l = decimal_digit n l

two_digits : (n : ℕ) → 10 ≤ n → n < 64 → decimal n ≡ (48 + n / 10) ∷ (48 + n % 10) ∷ []
two_digits n l h = decimal_step n l (omega arith) ∙ ap (λ (z : List ℕ). z ++ ((48 + n % 10) ∷ []))
    (decimal_digit (n / 10) (omega arith))

comma_only : (x : ℕ) (xs rest : List ℕ) → IsRest rest → x ∷ xs ≡ rest → x ≡ 44
comma_only x xs [] h e = absurd cc
comma_only x xs (y ∷ ys) h e = let f : x ≡ y = cc in f ∙ h

heads : (x y : ℕ) (xs ys : List ℕ) → x ∷ xs ≡ y ∷ ys → x ≡ y
heads x y xs ys e = cc

tails : (x y : ℕ) (xs ys : List ℕ) → x ∷ xs ≡ y ∷ ys → xs ≡ ys
tails x y xs ys e = cc

pub numeral_tells : (j k : ℕ) (r t : List ℕ) → j < 64 → k < 64 → IsRest r → IsRest t
    → decimal j ++ r ≡ decimal k ++ t → j ≡ k
numeral_tells j k r t lj lk hr ht e = dite (dec_le 10 j)
    (λ bigj. dite (dec_le 10 k)
    (λ bigk. let f : (48 + j / 10) ∷ (48 + j % 10) ∷ r ≡ (48 + k / 10) ∷ (48 + k % 10) ∷ t =
    sym (ap (λ (z : List ℕ). z ++ r) (two_digits j bigj lj)) ∙ e ∙ ap (λ (z : List ℕ). z ++ t)
    (two_digits k bigk lk) in
    let x = heads _ _ _ _ f in let y = heads _ _ _ _ (tails _ _ _ _ f) in omega arith)
    (λ smallk. let f : (48 + j / 10) ∷ (48 + j % 10) ∷ r ≡ (48 + k) ∷ t =
    sym (ap (λ (z : List ℕ). z ++ r) (two_digits j bigj lj)) ∙ e ∙ ap (λ (z : List ℕ). z ++ t)
    (one_digit k (omega arith)) in
    absurd (let x = comma_only (48 + j % 10) r t ht (tails _ _ _ _ f) in omega arith)))
    (λ smallj. dite (dec_le 10 k)
    (λ bigk. let f : (48 + j) ∷ r ≡ (48 + k / 10) ∷ (48 + k % 10) ∷ t =
    sym (ap (λ (z : List ℕ). z ++ r) (one_digit j (omega arith))) ∙ e
    ∙ ap (λ (z : List ℕ). z ++ t) (two_digits k bigk lk) in
    absurd (let x = comma_only (48 + k % 10) t r hr (sym (tails _ _ _ _ f)) in omega arith))
    (λ smallk. let f : (48 + j) ∷ r ≡ (48 + k) ∷ t =
    sym (ap (λ (z : List ℕ). z ++ r) (one_digit j (omega arith))) ∙ e
    ∙ ap (λ (z : List ℕ). z ++ t) (one_digit k (omega arith)) in
    let x = heads _ _ _ _ f in omega arith))

-- ---- the walk over the rows: after those below k, these were read and this text is left
pub record Walked (field : List ℕ) (k rows : ℕ) (rest : List ℕ) : Type 0 where
  pub small : rows < 2 ^ k
  -- what is left is the text of a set's further rows: then the whole is the text of that set
  pub sound : (s : ℕ) → ((x : ℕ) → x < k → row_set s x ≡ row_set rows x) → rest ≡ part k (64 - k) s
      → 44 ∷ field ≡ part 0 64 s
  -- and the other way round
  pub left : (s : ℕ) → 44 ∷ field ≡ part 0 64 s → rest ≡ part k (64 - k) s
  pub read : (s : ℕ) → 44 ∷ field ≡ part 0 64 s → (x : ℕ) → x < k → row_set s x ≡ row_set rows x

pub walked_none : (field : List ℕ) → Walked field 0 0 (44 ∷ field)
walked_none field = record {
  small = omega arith;
  sound = λ s same e. e;
  left = λ s e. e;
  read =
      λ s e x l. absurd (omega arith);
}

counts_down : (k : ℕ) → k < 64 → 64 - k ≡ suc (64 - (k + 1))
counts_down k l = omega arith

bit_below : (rows k : ℕ) → rows < 2 ^ k → row_set rows k ≡ false
bit_below rows k small =
    ne_eqb (bit_at rows k) 1 (λ e. let z = bit_at_above rows k k small (omega arith) in
    absurd (omega arith))

module _ (field : List ℕ) (k rows : ℕ) (rest : List ℕ) (in_range : k < 64)
    (walked : Walked field k rows rest) where
  n : ℕ
  n = 64 - (k + 1)

  has_now : (s : ℕ) → row_set s k ≡ true → part k (64 - k) s ≡ 44
      ∷ (decimal k ++ part (k + 1) (64 - (k + 1)) s)
  has_now s e = ap (λ (z : ℕ). part k z s) (counts_down k in_range) ∙ part_has k (64 - (k + 1)) s e

  skips_now : (s : ℕ) → row_set s k ≡ false → part k (64 - k) s ≡ part (k + 1) (64 - (k + 1)) s
  skips_now s e = ap (λ (z : ℕ). part k z s) (counts_down k in_range) ∙ part_skips k (64 - (k + 1))
      s e

  -- the list goes on with the row
  module _ (after : List ℕ) (is_rest_after : IsRest after)
      (goes_on : rest ≡ 44 ∷ (decimal k ++ after)) (more : ℕ) (more_small : more < 2 ^ (k + 1))
      (more_here : row_set more k ≡ true)
      (more_below : (x : ℕ) → x < k → row_set more x ≡ row_set rows x) where
    must_have : (s : ℕ) → 44 ∷ field ≡ part 0 64 s → row_set s k ≡ true
    must_have s e = ⊎_elim (λ (has : row_set s k ≡ true). has)
        (λ (not : row_set s k ≡ false). absurd
        (let whole : 44 ∷ (decimal k ++ after) ≡ part (k + 1) (64 - (k + 1)) s =
        sym goes_on ∙ walked.left s e ∙ skips_now s not in ⊎_elim
        (λ (none : part (k + 1) (64 - (k + 1)) s ≡ []). let f : 44 ∷ (decimal k ++ after) ≡ [] =
        whole ∙ none in cc)
        (λ (h : (j : ℕ) × (k + 1 ≤ j) × (j < k + 1 + (64 - (k + 1)))
        × ((t : List ℕ) × IsRest t × (part (k + 1) (64 - (k + 1)) s ≡ 44 ∷ (decimal j ++ t)))).
        let l = h.1 in let u = h.2 in let small : h.0 < 64 = omega arith in
        let same = numeral_tells k h.0 after h.3.0 in_range small is_rest_after h.3.1
        (tail_same 44 (decimal k ++ after) (decimal h.0 ++ h.3.0) (whole ∙ h.3.2)) in
        omega arith)
        (begins (k + 1) (64 - (k + 1)) s)))
        (bool_cases (row_set s k))

    pub walked_has : Walked field (k + 1) more after
    walked_has = record {
      small = more_small;
      sound = λ s same e. walked.sound s (λ x l. same x (omega arith) ∙ more_below x l)
          (goes_on ∙ ap (λ (z : List ℕ). 44 ∷ (decimal k ++ z)) e
          ∙ sym (has_now s (same k (omega arith) ∙ more_here)));
      left = λ s e. cancel (decimal k) after (part (k + 1) (64 - (k + 1)) s)
          (tail_same 44 (decimal k ++ after) (decimal k ++ part (k + 1) (64 - (k + 1)) s)
          (sym goes_on ∙ walked.left s e ∙ has_now s (must_have s e)));
      read =
          λ s e x l. dite (ℕ_discrete x k)
          (λ same. ap (row_set s) same ∙ must_have s e ∙ sym more_here ∙ ap (row_set more)
          (sym same)) (λ other. walked.read s e x (omega arith) ∙ sym (more_below x (omega arith)));
    }

  -- the list does not go on with the row
  module _ (stops : (after : List ℕ) → IsRest after → rest ≢ 44 ∷ (decimal k ++ after)) where
    must_miss : (s : ℕ) → 44 ∷ field ≡ part 0 64 s → row_set s k ≡ false
    must_miss s e =
        ⊎_elim (λ (has : row_set s k ≡ true). absurd
        (stops (part (k + 1) (64 - (k + 1)) s) (part_is_rest (k + 1) (64 - (k + 1)) s)
        (walked.left s e ∙ has_now s has)))
        (λ (not : row_set s k ≡ false). not) (bool_cases (row_set s k))

    pub walked_skips : Walked field (k + 1) rows rest
    walked_skips = record {
      small = let l : 2 ^ k < 2 ^ (k + 1) = pow-lt (let m : k < k + 1 = omega arith in m) in let w =
          walked.small in omega arith;
      sound = λ s same e. walked.sound s (λ x l. same x (omega arith))
          (e ∙ sym (skips_now s (same k (omega arith) ∙ bit_below rows k walked.small)));
      left = λ s e. walked.left s e ∙ skips_now s (must_miss s e);
      read =
          λ s e x l. dite (ℕ_discrete x k)
          (λ same. ap (row_set s) same ∙ must_miss s e ∙ sym (bit_below rows k walked.small)
          ∙ ap (row_set rows) (sym same)) (λ other. walked.read s e x (omega arith));
    }

-- ---- the whole list

part_of_none : (a n : ℕ) → part a n 0 ≡ []
part_of_none a zero = refl
part_of_none a (suc n) =
    part_skips a n 0 (ne_eqb (bit_at 0 a) 1 (λ e. let z = bit_at-zero a in absurd (omega arith)))
    ∙ part_of_none (a + 1) n

part_empty : (a n s : ℕ) → part a n s ≡ [] → (x : ℕ) → a ≤ x → x < a + n → row_set s x ≡ false
part_empty a zero s e x l h = absurd (omega arith)
part_empty a (suc n) s e x l h =
    ⊎_elim (λ (has : row_set s a ≡ true). absurd
    (let f : 44 ∷ (decimal a ++ part (a + 1) n s) ≡ [] = sym (part_has a n s has) ∙ e in cc))
    (λ (not : row_set s a ≡ false). dite (ℕ_discrete x a) (λ same. ap (row_set s) same ∙ not)
    (λ other. part_empty (a + 1) n s (sym (part_skips a n s not) ∙ e) x (omega arith)
    (omega arith)))
    (bool_cases (row_set s a))

same_bit : (a b x : ℕ) → row_set a x ≡ row_set b x → bit_at a x ≡ bit_at b x
same_bit a b x e = let la = bit_at-lt a x in let lb =
    bit_at-lt b x in dite (ℕ_discrete (bit_at a x) 1)
    (λ one. let y : bit_at b x ≡ 1 = eqb-true (bit_at b x) 1 (sym e ∙ eq-eqb (bit_at a x) 1 one) in
    omega arith)
    (λ not. let y : bit_at b x ≢ 1 =
    λ one. not (eqb-true (bit_at a x) 1 (e ∙ eq-eqb (bit_at b x) 1 one)) in omega arith)

empty_zero : (s : ℕ) → s < 2 ^ 64 → part 0 64 s ≡ [] → s ≡ 0
empty_zero s small e = same_from_bits_below 64 s 0 small (omega arith)
    (λ x l. same_bit s 0 x
    (part_empty 0 64 s e x (omega arith) (omega arith)
    ∙ sym (ne_eqb (bit_at 0 x) 1 (λ f. let z = bit_at-zero x in absurd (omega arith)))))

text_of_some : (s : ℕ) → s ≢ 0 → rows_text s ≡ drop 1 (part 0 64 s)
text_of_some s some = ap (λ (t : Bool). cond t (45 ∷ []) (drop 1 (part 0 64 s))) (ne_eqb s 0 some)

pub text_of_zero : (s : ℕ) → s ≡ 0 → rows_text s ≡ 45 ∷ []
text_of_zero s none = ap (λ (t : Bool). cond t (45 ∷ []) (drop 1 (part 0 64 s))) (eq-eqb s 0 none)

pub whole_some : (field : List ℕ) (rows : ℕ) → Walked field 64 rows [] → field ≡ rows_text rows
whole_some field rows walked = let e : 44 ∷ field ≡ part 0 64 rows =
    walked.sound rows (λ x l. refl) refl in dite (ℕ_discrete rows 0)
    (λ none. absurd (let f : 44 ∷ field ≡ [] = e ∙ ap (part 0 64) none ∙ part_of_none 0 64 in cc))
    (λ some. ap (drop 1) e ∙ sym (text_of_some rows some))

-- the text of a set that is not empty, with a comma before it
pub comma_before : (field : List ℕ) (s : ℕ) → s < 2 ^ 64 → s ≢ 0 → field ≡ rows_text s
    → 44 ∷ field ≡ part 0 64 s
comma_before field s small some e =
    ⊎_elim (λ (none : part 0 64 s ≡ []). absurd (some (empty_zero s small none)))
    (λ (h : (j : ℕ) × (0 ≤ j) × (j < 0 + 64)
    × ((t : List ℕ) × IsRest t × (part 0 64 s ≡ 44 ∷ (decimal j ++ t)))).
    ap (λ (z : List ℕ). 44 ∷ z) (e ∙ text_of_some s some ∙ ap (drop 1) h.3.2) ∙ sym h.3.2)
    (begins 0 64 s)

pub whole_only : (field : List ℕ) (rows : ℕ) (rest : List ℕ) → Walked field 64 rows rest
    → field ≢ 45 ∷ [] → (s : ℕ) → s < 2 ^ 64 → field ≡ rows_text s → (rest ≡ []) × (rows ≡ s)
whole_only field rows rest walked other s small e = dite (ℕ_discrete s 0)
    (λ none. absurd (other (e ∙ text_of_zero s none)))
    (λ some. let whole = comma_before field s small some e in (
      walked.left s whole,
      same_from_bits_below 64 rows s walked.small small
          (λ x l. same_bit rows s x (sym (walked.read s whole x l))),
    ))

first_digit : (n : ℕ) → n < 64 → (d : ℕ) × (ds : List ℕ) × (48 ≤ d) × (decimal n ≡ d ∷ ds)
first_digit n l =
    dite (dec_le 10 n) (λ big. (48 + n / 10, (48 + n % 10) ∷ [], omega arith, two_digits n big l))
    (λ small. (48 + n, [], omega arith, one_digit n (omega arith)))

pub minus_only : (field : List ℕ) → field ≡ 45 ∷ [] → (s : ℕ) → s < 2 ^ 64 → field ≡ rows_text s
    → 0 ≡ s
minus_only field minus s small e = dite (ℕ_discrete s 0) (λ none. sym none)
    (λ some. absurd (⊎_elim (λ (none : part 0 64 s ≡ []). some (empty_zero s small none))
    (λ (h : (j : ℕ) × (0 ≤ j) × (j < 0 + 64)
    × ((t : List ℕ) × IsRest t × (part 0 64 s ≡ 44 ∷ (decimal j ++ t)))).
    let d = first_digit h.0 h.2 in
    let f : 45 ∷ [] ≡ d.0 ∷ (d.1 ++ h.3.0) = sym minus ∙ e ∙ text_of_some s some ∙ ap (drop 1) h.3.2
    ∙ ap (λ (z : List ℕ). z ++ h.3.0) d.3 in
    let x = heads _ _ _ _ f in let y = d.2 in omega arith) (begins 0 64 s)))

pub rest_is_text : (r : Option (Bor (List ℕ))) → IsRest (rest_text r)
rest_is_text None = tt
rest_is_text (Some x) = refl

pub added_small : (rows k : ℕ) → rows < 2 ^ k → k < 64 → bit_or rows (1 * 2 ^ k % 2 ^ 64) < 2 ^
    (k + 1)
added_small rows k small l = or_lt (k + 1) rows (1 * 2 ^ k % 2 ^ 64) (let m : 2 ^ k < 2 ^ (k + 1) =
    pow-lt (let q : k < k + 1 = omega arith in q) in omega arith)
    (let m : 2 ^ k < 2 ^ (k + 1) = pow-lt (let q : k < k + 1 = omega arith in q) in
    subst (λ (z : ℕ). z < 2 ^ (k + 1)) (sym (one_shl k 64 l)) m)

pub added_here : (rows k : ℕ) → k < 64 → row_set (bit_or rows (1 * 2 ^ k % 2 ^ 64)) k ≡ true
added_here rows k l = eq-eqb (bit_at (bit_or rows (1 * 2 ^ k % 2 ^ 64)) k) 1
    (bit_at_set_same w64 rows k l)

pub added_below : (rows k : ℕ) → k < 64 → (x : ℕ) → x < k
    → row_set (bit_or rows (1 * 2 ^ k % 2 ^ 64)) x ≡ row_set rows x
added_below rows k l x m =
    ap (λ (z : ℕ). eqb z 1) (bit_at_set_other w64 rows k l x (λ e. omega arith))
