-- What the desk's changes do to the versions that reach a row.
use Rattle.mst_arena.proofs.Names.{◌≡◌, ◌≢◌, ℕ, zero, suc, ◌<◌, ◌≤◌, Bool, true, false, cond, List, [], ◌∷◌, map, Some, refl, sym, ◌∙◌, ap, arith, slice_get, slice_set, nat_le, nat_lt, ◌&&◌, ◌==◌, list_any, nat_tests, Life, Free, Born, Dead, reaches, reaches_life, swept_life}

-- a row whose new life is reached like its old one
pub same_set : (lives : List Life) (row k : ℕ) (x y : Life) (v : ℕ) → slice_get lives row ≡ Some x
    → reaches_life y v ≡ reaches_life x v → reaches (slice_set lives row y) v k ≡ reaches lives v k
same_set [] row k x y v at same = refl
same_set (l ∷ ls) zero zero x y v at same = let e : l ≡ x =
    cc in same ∙ ap (λ (z : Life). reaches_life z v) (sym e)
same_set (l ∷ ls) zero (suc k) x y v at same = refl
same_set (l ∷ ls) (suc row) zero x y v at same = refl
same_set (l ∷ ls) (suc row) (suc k) x y v at same = same_set ls row k x y v at same

none_at : (P : ℕ → Bool) (live : List ℕ) (v : ℕ) → list_any (λ w. w == v) live ≡ true
    → list_any P live ≡ false → P v ≡ false
none_at P [] v has none = cc
none_at P (w ∷ ws) v has none = go (w == v) (P w) refl refl (none_at P ws v)
  where
    go : (s t : Bool) → (w == v) ≡ s → P w ≡ t
        → (list_any (λ u. u == v) ws ≡ true → list_any P ws ≡ false → P v ≡ false) → P v ≡ false
    go true t e f more = grind (arith, nat_tests)
    go false t e f more = grind (arith, nat_tests)

pub swept_reach : (live : List ℕ) (x : Life) (v : ℕ) → list_any (λ w. w == v) live ≡ true
    → reaches_life (swept_life live x) v ≡ reaches_life x v
swept_reach live Free v has = refl
swept_reach live (Born b) v has = refl
swept_reach live (Dead b d) v has = go (list_any (reaches_life (Dead b d)) live) refl
  where
    go : (t : Bool) → list_any (reaches_life (Dead b d)) live ≡ t
        → reaches_life (cond t (Dead b d) Free) v ≡ reaches_life (Dead b d) v
    go true e = refl
    go false e = sym (none_at (reaches_life (Dead b d)) live v has e)

pub same_sweep : (live : List ℕ) (lives : List Life) (v k : ℕ) → list_any (λ w. w == v) live ≡ true
    → reaches (map (swept_life live) lives) v k ≡ reaches lives v k
same_sweep live [] v k has = refl
same_sweep live (l ∷ ls) v zero has = swept_reach live l v has
same_sweep live (l ∷ ls) v (suc k) has = same_sweep live ls v k has

pub born_later : (b v : ℕ) → v < b → reaches_life (Born b) v ≡ false
born_later b v lt = grind (arith, nat_tests)

pub dies_later : (b d v : ℕ) → v < d → reaches_life (Dead b d) v ≡ reaches_life (Born b) v
dies_later b d v lt = go (nat_le b v) (nat_lt v d) refl
  where
    go : (s t : Bool) → nat_lt v d ≡ t → (s && t) ≡ s
    go true true e = refl
    go true false e = grind (arith, nat_tests)
    go false t e = refl

pub died : (b d v : ℕ) → d ≤ v → reaches_life (Dead b d) v ≡ false
died b d v le = go (nat_le b v) (nat_lt v d) refl
  where
    go : (s t : Bool) → nat_lt v d ≡ t → (s && t) ≡ false
    go s true e = grind (arith, nat_tests)
    go true false e = refl
    go false false e = refl

-- ---- which versions reach a row that was born

pub born_on : (b v : ℕ) → b ≤ v → reaches_life (Born b) v ≡ true
born_on b v le = grind (arith, nat_tests)

pub dead_from : (b d v : ℕ) → b ≤ v → v < d → reaches_life (Dead b d) v ≡ true
dead_from b d v le lt = dies_later b d v lt ∙ born_on b v le

-- the row that was changed, and another one
pub reach_set : (lives : List Life) (row : ℕ) (x y : Life) (v : ℕ) → slice_get lives row ≡ Some x
    → reaches (slice_set lives row y) v row ≡ reaches_life y v
reach_set [] row x y v at = absurd (cc)
reach_set (l ∷ ls) zero x y v at = refl
reach_set (l ∷ ls) (suc row) x y v at = reach_set ls row x y v at

pub reach_else : (lives : List Life) (other row : ℕ) (life : Life) (v : ℕ) → other ≢ row
    → reaches (slice_set lives other life) v row ≡ reaches lives v row
reach_else [] other row life v not = refl
reach_else (l ∷ ls) zero zero life v not = absurd (not refl)
reach_else (l ∷ ls) zero (suc row) life v not = refl
reach_else (l ∷ ls) (suc other) zero life v not = refl
reach_else (l ∷ ls) (suc other) (suc row) life v not =
    reach_else ls other row life v (λ e. not (ap suc e))

pub reach_swept : (live : List ℕ) (lives : List Life) (row b v : ℕ) → slice_get lives row ≡ Some
    (Born b) → reaches (map (swept_life live) lives) v row ≡ reaches_life (Born b) v
reach_swept live [] row b v at = absurd (cc)
reach_swept live (l ∷ ls) zero b v at = let e : l ≡ Born b =
    cc in ap (λ (z : Life). reaches_life (swept_life live z) v) e
reach_swept live (l ∷ ls) (suc row) b v at = reach_swept live ls row b v at
