-- That a number stands in a list, taken apart and put together; and as the library says it.
use Rattle.mst_words.proofs.Names.{◌≡◌, ℕ, ◌⊎◌, inl, inr, List, [], ◌∷◌, sym, ap, refl, ⊎_elim, arith, AllByRecursion, In}
use Rattle.std.proofs.Common.{Contains}
use Rattle.std.proofs.lemmas.Bool.{eq-eqb}
use Rattle.mst_key.proofs.SpanLaws.{contains-cases, contains-nothing, contains-first, contains-later}
use Rattle.mst_arena.specs.Lists.{bit}
use Rattle.mst_arena.proofs.ListLemmas.{in_either, one_row}

pub in_nothing : (x : ℕ) → In x [] → ⊥
in_nothing x i = omega (arith, i)

pub in_first : (x y : ℕ) (ys : List ℕ) → x ≡ y → In x (y ∷ ys)
in_first x y ys is = omega (arith, ap bit (eq-eqb x y is))

pub in_later : (x y : ℕ) (ys : List ℕ) → In x ys → In x (y ∷ ys)
in_later x y ys i = omega (arith, i)

pub in_cases : (x y : ℕ) (ys : List ℕ) → In x (y ∷ ys) → (x ≡ y) ⊎ In x ys
in_cases x y ys i = ⊎_elim (λ (here : In x (y ∷ [])). inl (one_row x y here))
    (λ (t : In x ys). inr t) (in_either x (y ∷ []) ys i)

-- what holds of each number of the list
pub each : (P : ℕ → Type 0) (xs : List ℕ) → ((x : ℕ) → In x xs → P x) → AllByRecursion P xs
each P [] all = tt
each P (x ∷ xs) all = (all x (in_first x x xs refl), each P xs (λ y i. all y (in_later y x xs i)))

pub contained : (x : ℕ) (xs : List ℕ) → In x xs → Contains xs x
contained x [] i = absurd (in_nothing x i)
contained x (y ∷ ys) i = ⊎_elim (λ (is : x ≡ y). contains-first y ys x (sym is))
    (λ (t : In x ys). contains-later y ys x (contained x ys t)) (in_cases x y ys i)

pub within : (x : ℕ) (xs : List ℕ) → Contains xs x → In x xs
within x [] has = absurd (contains-nothing x has)
within x (y ∷ ys) has = ⊎_elim (λ (is : y ≡ x). in_first x y ys (sym is))
    (λ (later : Contains ys x). in_later x y ys (within x ys later)) (contains-cases y ys x has)
