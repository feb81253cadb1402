-- What edits leave a key, one by one; edits of distinct keys leave one map in any order.
use Rattle.mst_key.proofs.Names.{◌≡◌, ◌≢◌, ℕ, zero, suc, cond, ◌⊎◌, inl, inr, List, [], ◌∷◌, ◌++◌, Option, Contains, is_eq, refl, sym, ap, ◌∙◌, arith, cond-true, cond-false, Contains-append_right, Edit, batched, key_of, value_of, value_after, IsEdited, Pair, IsAscending, key_cmp, map_get}
use Rattle.std.proofs.lemmas.List.Elements.{Contains-append_cases}
use Rattle.std.proofs.lemmas.List.Sorted.{Contains-permutation, IsPermutation-sym}
use Rattle.std.specs.List.Sorted.{IsPermutation}
use Rattle.mst_key.specs.Edits.{HaveOwnKeys}
use Rattle.mst_key.proofs.Batches.{batched_alike}
use Rattle.mst_key.proofs.KeyOrder.{by_same, test_of_same, test_of_other}

-- ---- one edit before others

pub value_after-same : (e : Edit) (es : List Edit) (q : List ℕ) (old : Option (List ℕ))
    → q ≡ key_of e → value_after (e ∷ es) q old ≡ value_after es q (value_of e)
value_after-same e es q old same =
    ap (λ (o : Option (List ℕ)). value_after es q o)
    (cond-true (is_eq (key_cmp (key_of e) q)) (value_of e) old
    (test_of_same (key_of e) q (sym same)))

pub value_after-other : (e : Edit) (es : List Edit) (q : List ℕ) (old : Option (List ℕ))
    → q ≢ key_of e → value_after (e ∷ es) q old ≡ value_after es q old
value_after-other e es q old other =
    ap (λ (o : Option (List ℕ)). value_after es q o)
    (cond-false (is_eq (key_cmp (key_of e) q)) (value_of e) old
    (test_of_other (key_of e) q (λ same. other (sym same))))

pub value_after-append : (es fs : List Edit) (q : List ℕ) (old : Option (List ℕ))
    → value_after (es ++ fs) q old ≡ value_after fs q (value_after es q old)
value_after-append [] fs q old = refl
value_after-append (e ∷ es) fs q old =
    value_after-append es fs q (cond (is_eq (key_cmp (key_of e) q)) (value_of e) old)

-- a key without an edit keeps what it has
pub value_after-unedited : (es : List Edit) (q : List ℕ) (old : Option (List ℕ))
    → (IsEdited q es → ⊥) → value_after es q old ≡ old
value_after-unedited [] q old none = refl
value_after-unedited (e ∷ es) q old none =
    value_after-other e es q old (λ same. none (inl same))
    ∙ value_after-unedited es q old (λ i. none (inr i))

-- ---- all edits of a key leave it one value

abbrev AllLeave : List ℕ → Option (List ℕ) → List Edit → Type 0
AllLeave q v es = (e : Edit) → Contains es e → q ≡ key_of e → value_of e ≡ v

rest_leave : (q : List ℕ) (v : Option (List ℕ)) (e : Edit) (es : List Edit) → AllLeave q v (e ∷ es)
    → AllLeave q v es
rest_leave q v e es all f i = all f (Contains-append_right (e ∷ []) es f i)

first_leaves : (q : List ℕ) (v : Option (List ℕ)) (e : Edit) (es : List Edit)
    → AllLeave q v (e ∷ es) → q ≡ key_of e → value_of e ≡ v
first_leaves q v e es all = all e (0, omega arith, refl)

kept_value : (es : List Edit) (q : List ℕ) (v : Option (List ℕ)) → AllLeave q v es
    → value_after es q v ≡ v
kept_value [] q v all = refl
kept_value (e ∷ es) q v all =
    by_same {G = value_after (e ∷ es) q v ≡ v} q (key_of e)
    (λ same. value_after-same e es q v same
    ∙ ap (λ (o : Option (List ℕ)). value_after es q o) (first_leaves q v e es all same)
    ∙ kept_value es q v (rest_leave q v e es all))
    (λ other. value_after-other e es q v other ∙ kept_value es q v (rest_leave q v e es all))

left_value : (es : List Edit) (q : List ℕ) (v old : Option (List ℕ)) → AllLeave q v es
    → IsEdited q es → value_after es q old ≡ v
left_value [] q v old all edited = absurd edited
left_value (e ∷ es) q v old all (inl same) =
    value_after-same e es q old same
    ∙ ap (λ (o : Option (List ℕ)). value_after es q o) (first_leaves q v e es all same)
    ∙ kept_value es q v (rest_leave q v e es all)
left_value (e ∷ es) q v old all (inr i) =
    left_value es q v (cond (is_eq (key_cmp (key_of e) q)) (value_of e) old)
    (rest_leave q v e es all) i

-- ---- the edit of a key

pub edit_of : (es : List Edit) (q : List ℕ) → IsEdited q es
    → (e : Edit) × Contains es e × (q ≡ key_of e)
edit_of [] q edited = absurd edited
edit_of (e ∷ es) q (inl same) = (e, (0, omega arith, refl), same)
edit_of (e ∷ es) q (inr i) =
    let found : (f : Edit) × Contains es f × (q ≡ key_of f) = edit_of es q i in
    (found.0, Contains-append_right (e ∷ []) es found.0 found.1, found.2)

-- an element of a list is its first or one of the others
first_or_rest : (e : Edit) (es : List Edit) (f : Edit) → Contains (e ∷ es) f
    → (e ≡ f) ⊎ Contains es f
first_or_rest e es f i = elim (Contains-append_cases (e ∷ []) es f i) [
  | inl one ↦ inl (only e f one)
  | inr more ↦ inr more
]
  where
    only : (e f : Edit) → Contains (e ∷ []) f → e ≡ f
    only e f (zero, low, is) = is
    only e f (suc k, low, is) = absurd (omega (arith, low))

pub is_edited : (es : List Edit) (q : List ℕ) (e : Edit) → Contains es e → q ≡ key_of e
    → IsEdited q es
is_edited [] q e (k, low, is) same = absurd (omega (arith, low))
is_edited (f ∷ es) q e i same = elim (first_or_rest f es e i) [
  | inl first ↦ inl (same ∙ ap key_of (sym first))
  | inr more ↦ inr (is_edited es q e more same)
]

edited_or_not : (es : List Edit) (q : List ℕ) → IsEdited q es ⊎ (IsEdited q es → ⊥)
edited_or_not [] q = inr (λ i. i)
edited_or_not (e ∷ es) q =
    by_same {G = IsEdited q (e ∷ es) ⊎ (IsEdited q (e ∷ es) → ⊥)} q (key_of e)
    (λ same. inl (inl same))
    (λ other. elim (edited_or_not es q) [
      | inl i ↦ inl (inr i)
      | inr none ↦ inr (neither other none)
    ])
  where
    neither : q ≢ key_of e → (IsEdited q es → ⊥) → IsEdited q (e ∷ es) → ⊥
    neither other none (inl same) = other same
    neither other none (inr i) = none i

-- of edits of distinct keys two of one key are one
one_edit : (es : List Edit) → HaveOwnKeys es → (e f : Edit) → Contains es e → Contains es f
    → key_of e ≡ key_of f → e ≡ f
one_edit [] own e f (k, low, is) j same = absurd (omega (arith, low))
one_edit (g ∷ es) own e f i j same = elim (first_or_rest g es e i) [
  | inl e_first ↦ elim (first_or_rest g es f j) [
    | inl f_first ↦ sym e_first ∙ f_first
    | inr f_more ↦ absurd (own.0 (is_edited es (key_of g) f f_more (ap key_of e_first ∙ same)))
  ]
  | inr e_more ↦ elim (first_or_rest g es f j) [
    | inl f_first ↦ absurd
        (own.0 (is_edited es (key_of g) e e_more (ap key_of f_first ∙ sym same)))
    | inr f_more ↦ one_edit es own.1 e f e_more f_more same
  ]
]

-- ---- the same edits in another order

same_values : (es fs : List Edit) → HaveOwnKeys es → IsPermutation es fs → (q : List ℕ)
    (old : Option (List ℕ)) → value_after es q old ≡ value_after fs q old
same_values es fs own moved q old = elim (edited_or_not es q) [
  | inl edited ↦
      let found : (e : Edit) × Contains es e × (q ≡ key_of e) = edit_of es q edited in
      let here : AllLeave q (value_of found.0) es =
      λ f i same. ap value_of (one_edit es own f found.0 i found.1 (sym same ∙ found.2)) in
      let there : AllLeave q (value_of found.0) fs =
      λ f i same. here f (Contains-permutation fs es f (IsPermutation-sym es fs moved) i) same in
      left_value es q (value_of found.0) old here edited
      ∙ sym (left_value fs q (value_of found.0) old there
      (is_edited fs q found.0 (Contains-permutation es fs found.0 moved found.1) found.2))
  | inr none ↦ value_after-unedited es q old none
      ∙ sym (value_after-unedited fs q old (λ edited.
      let found : (e : Edit) × Contains fs e × (q ≡ key_of e) = edit_of fs q edited in
      none (is_edited es q found.0
      (Contains-permutation fs es found.0 (IsPermutation-sym es fs moved) found.1) found.2)))
]

pub batched-any_order : (m : List Pair) (es fs : List Edit) → IsAscending m → HaveOwnKeys es
    → IsPermutation es fs → batched m es ≡ batched m fs
batched-any_order m es fs rise own moved =
    batched_alike m es fs rise (λ q. same_values es fs own moved q (map_get m q))
