-- One view among the views.
use Rattle.mst_words.proofs.Names.{◌≡◌, ℕ, ◌≢◌, List, set, subst, ⊎_elim, sym, ◌∙◌, some, some-injective, at_set, View}
use lib.ListN.{get_elem?}

-- a fact of each seat after one view changed
pub each_seat : (P : ℕ → View → Type 0) (vs : List View) (id : ℕ) (w : View) → P id w
    → ((i : ℕ) (u : View) → i ≢ id → get_elem? vs i ≡ some u → P i u) → (i : ℕ) (u : View)
    → get_elem? (set vs id w) i ≡ some u → P i u
each_seat P vs id w mine others i u e =
    ⊎_elim (λ (t : (i ≡ id) × (w ≡ u)). subst (λ (z : ℕ). P z u) (sym t.0) (subst (P id) t.1 mine))
    (λ (t : (i ≢ id) × (get_elem? vs i ≡ some u)). others i u t.0 t.1) (at_set vs id i w u e)

-- two views at one place are one
pub same_view : (vs : List View) (id : ℕ) (u v : View) → get_elem? vs id ≡ some u → get_elem? vs id
    ≡ some v → u ≡ v
same_view vs id u v a b = some-injective u v (sym a ∙ b)
