-- The parts of edits are all edits.
use Rattle.mst_shards.proofs.Names.{◌≡◌, ◌≢◌, ◌<◌, ℕ, Bool, true, false, cond, List, [], ◌∷◌, ◌++◌, Option, refl, sym, ap, ◌∙◌, arith, zero, suc, ◌+◌, map, filter, length, take, get_or, subst, filter-append, dite, ℕ_discrete, Edit, key_of, place}
use Rattle.std.specs.Prelude.{◌==◌, if◌then◌else◌}
use Rattle.std.proofs.lemmas.Bool.{cond-true, cond-false}
use Rattle.std.proofs.lemmas.Bool.Decides.{nat_tests}
use Rattle.mst_key.specs.History.{value_after}
use Rattle.mst_key.proofs.BatchOrder.{value_after-other}
use Rattle.mst_shards.specs.Parts.{edits_at, picked}

pub same_test : (m n : ℕ) → m ≡ n → (m == n) ≡ true
same_test m n is = grind (arith, nat_tests)

pub other_test : (m n : ℕ) → m ≢ n → (m == n) ≡ false
other_test m n other = grind (arith, nat_tests)

pub part_mine : (splits : List (List ℕ)) (before behind : List Edit) (e : Edit) (i : ℕ)
    → place splits (key_of e) ≡ i → edits_at splits (before ++ e ∷ behind) i
    ≡ edits_at splits before i ++ e ∷ edits_at splits behind i
part_mine splits before behind e i is =
    let rest = edits_at splits behind i in
    filter-append (λ (x : Edit). place splits (key_of x) == i) before (e ∷ behind)
    ∙ ap (λ (l : List Edit). edits_at splits before i ++ l)
    (cond-true (place splits (key_of e) == i) (e ∷ rest) rest
    (same_test (place splits (key_of e)) i is))

pub part_others : (splits : List (List ℕ)) (before behind : List Edit) (e : Edit) (i : ℕ)
    → place splits (key_of e) ≢ i
    → edits_at splits (before ++ e ∷ behind) i ≡ edits_at splits (before ++ behind) i
part_others splits before behind e i other =
    let test : Edit → Bool = λ x. place splits (key_of x) == i in
    let rest = edits_at splits behind i in
    filter-append (λ (x : Edit). place splits (key_of x) == i) before (e ∷ behind)
    ∙ ap (λ (l : List Edit). edits_at splits before i ++ l)
    (cond-false (place splits (key_of e) == i) (e ∷ rest) rest
    (other_test (place splits (key_of e)) i other))
    ∙ sym (filter-append (λ (x : Edit). place splits (key_of x) == i) before behind)

-- the edits of other shards leave the key alone
pub part_value : (splits : List (List ℕ)) (edits : List Edit) (k : List ℕ) (old : Option (List ℕ))
    → value_after (edits_at splits edits (place splits k)) k old ≡ value_after edits k old
part_value splits [] k old = refl
part_value splits (e ∷ edits) k old =
    let i = place splits k in
    let rest = edits_at splits edits (place splits k) in
    dite (ℕ_discrete (place splits (key_of e)) (place splits k))
    (λ (is : place splits (key_of e) ≡ place splits k).
    ap (λ (l : List Edit). value_after l k old)
    (cond-true (place splits (key_of e) == place splits k) (e ∷ rest) rest
    (same_test (place splits (key_of e)) (place splits k) is))
    ∙ part_value splits edits k _)
    (λ (other : place splits (key_of e) ≢ place splits k).
    ap (λ (l : List Edit). value_after l k old)
    (cond-false (place splits (key_of e) == place splits k) (e ∷ rest) rest
    (other_test (place splits (key_of e)) (place splits k) other))
    ∙ part_value splits edits k old
    ∙ sym (value_after-other e edits k old
    (λ same. other (ap (λ (x : List ℕ). place splits x) (sym same)))))

pub picked_is : (at : Edit → ℕ) (edits : List Edit) (i : ℕ)
    → picked (map at edits) edits i ≡ filter (λ e. at e == i) edits
picked_is at [] i = refl
picked_is at (e ∷ edits) i =
    ap (λ (rest : List Edit). if at e == i then e ∷ rest else rest) (picked_is at edits i)

picked_next : (places : List ℕ) (edits : List Edit) (n i : ℕ) (p : ℕ) (e : Edit)
    → n < length places → n < length edits → get_or places n 0 ≡ p → e ≡ get_or edits n e
    → picked (take (suc n) places) (take (suc n) edits) i
    ≡ picked (take n places) (take n edits) i ++ cond (p == i) (e ∷ []) []
picked_next [] edits n i p e low high there is = absurd (omega (arith, low))
picked_next (q ∷ places) [] n i p e low high there is = absurd (omega (arith, high))
picked_next (q ∷ places) (x ∷ edits) zero i p e low high there is =
    ap (λ (j : ℕ). cond (j == i) (x ∷ []) []) there
    ∙ ap (λ (y : Edit). cond (p == i) (y ∷ []) []) (sym is)
picked_next (q ∷ places) (x ∷ edits) (suc n) i p e low high there is =
    go (q == i)
    (picked_next places edits n i p e (omega (arith, low)) (omega (arith, high)) there is)
  where
    go : (b : Bool) → picked (take (suc n) places) (take (suc n) edits) i
        ≡ picked (take n places) (take n edits) i ++ cond (p == i) (e ∷ []) []
        → cond b (x ∷ picked (take (suc n) places) (take (suc n) edits) i)
        (picked (take (suc n) places) (take (suc n) edits) i)
        ≡ cond b (x ∷ picked (take n places) (take n edits) i)
        (picked (take n places) (take n edits) i) ++ cond (p == i) (e ∷ []) []
    go true more = ap (λ (l : List Edit). x ∷ l) more
    go false more = more

-- one edit more
pub picked_more : (places : List ℕ) (edits : List Edit) (n i : ℕ) (p : ℕ) (e : Edit)
    → n < length places → n < length edits → get_or places n 0 ≡ p → e ≡ get_or edits n e
    → picked (take (n + 1) places) (take (n + 1) edits) i
    ≡ picked (take n places) (take n edits) i ++ cond (p == i) (e ∷ []) []
picked_more places edits n i p e low high there is =
    let same : suc n ≡ n + 1 = omega arith in
    subst (λ (m : ℕ). picked (take m places) (take m edits) i
    ≡ picked (take n places) (take n edits) i ++ cond (p == i) (e ∷ []) []) same
    (picked_next places edits n i p e low high there is)
