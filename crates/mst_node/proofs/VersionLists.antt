-- Tests that one of the versions of a list has to pass, for equal lists and for longer ones.
use Rattle.mst_node.proofs.Names.{◌≡◌, ℕ, ◌<◌, ◌≤◌, ◌==◌, Bool, true, false, not, ◌&&◌, ◌||◌, ◌⊎◌, inl, inr, List, [], ◌∷◌, refl, sym, ap, ◌∙◌, arith, true≢false, Contains, list_any, or_cases, nat_tests, contains-cases, contains-nothing}
use Rattle.std.specs.Prelude.{◌↔◌}
use Rattle.mst_key.proofs.SpanLaws.{contains-first, contains-later}

-- ---- bools

abbrev SameWhere : Bool → Bool → Type 0
SameWhere a b = (a ≡ true → b ≡ true) × (b ≡ true → a ≡ true)

same_bool : (a b : Bool) → SameWhere a b → a ≡ b
same_bool true true is = refl
same_bool true false is = sym (is.0 refl)
same_bool false true is = is.1 refl
same_bool false false is = refl

pub true_or : (a b : Bool) → (a ≡ true) ⊎ (b ≡ true) → (a || b) ≡ true
true_or true b e = refl
true_or false b (inl e) = absurd (true≢false (sym e))
true_or false b (inr e) = e

pub up_to : (u w : ℕ) → u ≤ w → (u ≡ w) ⊎ (u < w)
up_to u w le = go (u == w) refl
  where
    go : (b : Bool) → (u == w) ≡ b → (u ≡ w) ⊎ (u < w)
    go true e = inl (grind (arith, nat_tests, e))
    go false e = let other : u ≡ w → ⊥ = grind (arith, nat_tests, e) in
        inr (omega (arith, le, other))

-- ---- lists of versions

pub any_in : (p : ℕ → Bool) (live : List ℕ) → list_any p live ≡ true → (v : ℕ) × Contains live v
    × (p v ≡ true)
any_in p [] e = absurd (true≢false (sym e))
any_in p (u ∷ live) e = elim (or_cases (p u) (list_any p live) e) [
  | inl is ↦ (u, contains-first u live u refl, is)
  | inr is ↦ let more = any_in p live is in (more.0, contains-later u live more.0 more.1, more.2)
]

pub in_any : (p : ℕ → Bool) (live : List ℕ) (v : ℕ) → Contains live v → p v ≡ true → list_any p live
    ≡ true
in_any p [] v has is = absurd (contains-nothing v has)
in_any p (u ∷ live) v has is = true_or (p u) (list_any p live) (elim (contains-cases u live v has) [
  | inl same ↦ inl (ap p same ∙ is)
  | inr later ↦ inr (in_any p live v later is)
])

pub any_more : (p : ℕ → Bool) (one other : List ℕ) → ((v : ℕ) → Contains one v → Contains other v)
    → list_any p one ≡ true → list_any p other ≡ true
any_more p one other more e = let is = any_in p one e in in_any p other is.0 (more is.0 is.1) is.2

pub any_same : (p : ℕ → Bool) (one other : List ℕ) → ((v : ℕ) → Contains one v ↔ Contains other v)
    → list_any p one ≡ list_any p other
any_same p one other same = same_bool (list_any p one) (list_any p other)
    (any_more p one other (λ v. (same v).0), any_more p other one (λ v. (same v).1))

pub and_true_same : (a : Bool) → (a && true) ≡ a
and_true_same true = refl
and_true_same false = refl

pub not_from : (b : Bool) → (b ≡ true → ⊥) → not b ≡ true
not_from true other = absurd (other refl)
not_from false other = refl

pub from_not : (b : Bool) → not b ≡ true → b ≡ true → ⊥
from_not true is also = true≢false (sym is)
from_not false is also = true≢false (sym also)
