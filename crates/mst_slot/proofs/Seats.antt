-- What the view of one seat tells of a place, and of the other seats.
use Rattle.std.proofs.Common.{◌≡◌, ℕ, zero, suc, List, [], ◌∷◌, ◌++◌, set, sym, refl, ap, ◌∙◌, subst, Some, None}
use Rattle.std.specs.List.{AllByRecursion}
use mathlib.Core.Option as maybe
use mathlib.Core.Option.{some-injective, some-ne-none}
use lib.ListN.{get_elem?}
use Rattle.atomic_table.proofs.Lists.{set_again}
use Rattle.mst_slot.specs.declared.rule.Stage.{Stage}
use Rattle.mst_slot.specs.declared.rule.Stage.TheVariants.{Vacant, Filling, Keeps}
use Rattle.mst_slot.specs.Places.{Home, Known}

module _ {T : Type 0} where
  value_in : T → Stage T → T
  value_in x Vacant = x
  value_in x Filling = x
  value_in x (Keeps y) = y

  pub same_value : (x y : T) → Keeps x ≡ Keeps y → x ≡ y
  unfolding value_in
  same_value x y e = ap (value_in x) e

  -- no seat is beside one that is alone
  nobody : (vs : List (Stage T)) (j : ℕ) (v : Stage T) → vs ≡ [] → get_elem? vs j ≡ maybe.some v
      → ⊥
  nobody vs j v e at =
      some-ne-none v (sym (subst (λ us. get_elem? us j ≡ maybe.some v) e at))

  each_is : (vs : List (Stage T)) (j : ℕ) (u v : Stage T) → AllByRecursion (λ v. v ≡ u) vs
      → get_elem? vs j ≡ maybe.some v → v ≡ u
  each_is [] j u v all at = absurd (some-ne-none v (sym at))
  each_is (x ∷ xs) zero u v all at = sym (some-injective x v at) ∙ all.0
  each_is (x ∷ xs) (suc j) u v all at = each_is xs j u v all.1 at

  and_one : (vs : List (Stage T)) (u : Stage T) → AllByRecursion (λ v. v ≡ u) vs
      → AllByRecursion (λ v. v ≡ u) (vs ++ u ∷ [])
  and_one [] u all = (refl, tt)
  and_one (x ∷ xs) u all = (all.0, and_one xs u all.1)

  -- the only seat, which knows nothing
  pub vacant_at : (w : ℕ) (h : Home T) (vs : List (Stage T)) (id : ℕ) → Known w h vs
      → get_elem? vs id ≡ maybe.some Vacant
      → (h ≡ maybe.some None) × (vs ≡ Vacant ∷ []) × (id ≡ 0)
  vacant_at w h [] id k at = absurd k
  vacant_at w h (Vacant ∷ vs) zero k at = (k.0, ap (λ us. Vacant ∷ us) k.1, refl)
  vacant_at w h (Vacant ∷ vs) (suc j) k at = absurd (nobody vs j Vacant k.1 at)
  vacant_at w h (Filling ∷ vs) zero k at = absurd (cc (some-injective _ _ at))
  vacant_at w h (Filling ∷ vs) (suc j) k at = absurd (nobody vs j Vacant k at)
  vacant_at w h (Keeps x ∷ vs) zero k at = absurd (cc (some-injective _ _ at))
  vacant_at w h (Keeps x ∷ vs) (suc j) k at = absurd (cc (each_is vs j (Keeps x) Vacant k.1 at))

  -- the only seat, which is filling the place
  pub filling_at : (w : ℕ) (h : Home T) (vs : List (Stage T)) (id : ℕ) → Known w h vs
      → get_elem? vs id ≡ maybe.some Filling → (vs ≡ Filling ∷ []) × (id ≡ 0)
  filling_at w h [] id k at = absurd k
  filling_at w h (Vacant ∷ vs) zero k at = absurd (cc (some-injective _ _ at))
  filling_at w h (Vacant ∷ vs) (suc j) k at = absurd (nobody vs j Filling k.1 at)
  filling_at w h (Filling ∷ vs) zero k at = (ap (λ us. Filling ∷ us) k, refl)
  filling_at w h (Filling ∷ vs) (suc j) k at = absurd (nobody vs j Filling k at)
  filling_at w h (Keeps x ∷ vs) zero k at = absurd (cc (some-injective _ _ at))
  filling_at w h (Keeps x ∷ vs) (suc j) k at =
      absurd (cc (each_is vs j (Keeps x) Filling k.1 at))

  -- a seat that knows the value: so do all others
  pub keeps_at : (w : ℕ) (h : Home T) (vs : List (Stage T)) (id : ℕ) (x : T) → Known w h vs
      → get_elem? vs id ≡ maybe.some (Keeps x)
      → (us : List (Stage T)) × (vs ≡ Keeps x ∷ us) × (w ≡ 0 → h ≡ maybe.some (Some x))
      × AllByRecursion (λ v. v ≡ Keeps x) us
  keeps_at w h [] id x k at = absurd k
  keeps_at w h (Vacant ∷ vs) zero x k at = absurd (cc (some-injective _ _ at))
  keeps_at w h (Vacant ∷ vs) (suc j) x k at = absurd (nobody vs j (Keeps x) k.1 at)
  keeps_at w h (Filling ∷ vs) zero x k at = absurd (cc (some-injective _ _ at))
  keeps_at w h (Filling ∷ vs) (suc j) x k at = absurd (nobody vs j (Keeps x) k at)
  keeps_at w h (Keeps y ∷ vs) zero x k at = let e = same_value y x (some-injective _ _ at) in
      let q = subst (λ z. Known w h (Keeps z ∷ vs)) e k in (vs, ap (λ z. Keeps z ∷ vs) e, q.0, q.1)
  keeps_at w h (Keeps y ∷ vs) (suc j) x k at =
      let e = same_value y x (sym (each_is vs j (Keeps y) (Keeps x) k.1 at)) in
      let q = subst (λ z. Known w h (Keeps z ∷ vs)) e k in (vs, ap (λ z. Keeps z ∷ vs) e, q.0, q.1)

  -- its step leaves all that is known, if the value is at home where the word is 0
  pub keeps_on : (w : ℕ) (h : Home T) (vs : List (Stage T)) (id : ℕ) (x : T) → Known w h vs
      → get_elem? vs id ≡ maybe.some (Keeps x) → (n : ℕ) (g : Home T)
      → (n ≡ 0 → g ≡ maybe.some (Some x)) → Known n g (set vs id (Keeps x))
  keeps_on w h vs id x k at n g home = let p = keeps_at w h vs id x k at in
      subst (λ us. Known n g us) (sym p.1 ∙ sym (set_again vs id (Keeps x) at)) (home, p.3)

  pub keeps_both : (w : ℕ) (h : Home T) (vs : List (Stage T)) (id : ℕ) (x : T) → Known w h vs
      → get_elem? vs id ≡ maybe.some (Keeps x) → Known w h (set vs id (Keeps x) ++ Keeps x ∷ [])
  keeps_both w h vs id x k at = let p = keeps_at w h vs id x k at in
      subst (λ us. Known w h (us ++ Keeps x ∷ [])) (sym p.1 ∙ sym (set_again vs id (Keeps x) at))
      (p.2, and_one p.0 (Keeps x) p.3)
