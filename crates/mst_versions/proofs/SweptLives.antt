-- Which rows the holder of the turn may read, and what a sweep leaves of their lives.
use Rattle.mst_versions.proofs.Names.{◌≡◌, ℕ, ◌<◌, ◌&&◌, ◌||◌, not, eqb, if◌then◌else◌, Bool, true, false, List, length, map, slice_index, Option, Some, None, refl, sym, ap, ◌∙◌, subst, arith, slice_get, list_any, nat_tests, slice_get_within, length-map, State, reaches, reached_at, swept_life, IsSettled, Life, Free, Born, Dead, In, same_swept, free_swept, Asked, HasAsked, SeatState}
use Rattle.std.proofs.Common.{zero, suc}
use Rattle.std.specs.Prelude.{option_map}
use Rattle.std.proofs.lemmas.Option.{slice_get-map}
use Rattle.mst_path.proofs.lemmas.versions.Reached.{some_reach}
use Rattle.mst_words.specs.Access.{all_below}
use Rattle.mst_versions.proofs.Pinning.{in_list}

pub all_below_true : (n : ℕ) (p : ℕ → Bool) → ((r : ℕ) → r < n → p r ≡ true) → all_below n p ≡ true
all_below_true zero p all = refl
all_below_true (suc n) p all = ap (λ (b : Bool). b && all_below n p) (all n (omega arith))
    ∙ all_below_true n p (λ r l. all r (omega (arith, l)))

-- a row that a live version reaches keeps its life in a sweep
pub kept_life : (live : List ℕ) (o : Option Life) (v : ℕ) → In v live → reached_at o v ≡ true
    → option_map (swept_life live) o ≡ o
kept_life live None v i is = refl
kept_life live (Some Free) v i is = refl
kept_life live (Some (Born b)) v i is = refl
kept_life live (Some (Dead b d)) v i is = ap (λ (t : Bool). Some (if t then Dead b d else Free))
    (some_reach (Dead b d) live v i is)

pub same_ages : (live : List ℕ) (lives : List Life) (v x w : ℕ) → In v live
    → reaches lives v x ≡ true
    → reaches (map (swept_life live) lives) w x ≡ reaches lives w x
same_ages live lives v x w i is = ap (λ (o : Option Life). reached_at o w)
    (slice_get-map (swept_life live) lives x ∙ kept_life live (slice_get lives x) v i is)

pub is_not : (t : Bool) → (t ≡ true → ⊥) → t ≡ false
is_not true other = absurd (other refl)
is_not false other = refl

module _ (n : ℕ) (desk : State) (a : Asked) (m : SeatState) (h : HasAsked n desk a m) where
  -- the version of a record that was not found drained is live
  pub live_of : (r : ℕ) → r < n → (In r m.0.drained → ⊥)
      → In (slice_index desk.versions r) a.live.items
  live_of r l out = go (eqb r desk.current) refl
    where
      go : (t : Bool) → eqb r desk.current ≡ t → In (slice_index desk.versions r) a.live.items
      go true e = let same : r ≡ desk.current = grind (arith, nat_tests) in
          subst (λ (z : ℕ). In (slice_index desk.versions z) a.live.items) (sym same) h.now
      go false e = let other : (r ≡ desk.current → ⊥) = grind (arith, nat_tests) in
          h.others r l other out

  -- such a version reaches the same rows after the sweep
  pub same_rows : (r x : ℕ) → r < n → (In r m.0.drained → ⊥)
      → reaches (map (swept_life a.live.items) desk.lives) (slice_index desk.versions r) x ≡ reaches
      desk.lives (slice_index desk.versions r) x
  same_rows r x l out = same_swept desk a.live.items (slice_index desk.versions r) x
      (live_of r l out)

  -- none of them reaches a row that is free then
  pub unreached : IsSettled desk → (x : ℕ) → slice_get (map (swept_life a.live.items) desk.lives) x
      ≡ Some Free → x < length desk.lives
      → all_below n
      (λ r. list_any (eqb r) m.0.drained || not
      (reaches desk.lives (slice_index desk.versions r) x)) ≡ true
  unreached settled x free lt =
      all_below_true n
      (λ r. list_any (eqb r) m.0.drained || not
      (reaches desk.lives (slice_index desk.versions r) x))
      (λ r l. go r l (list_any (eqb r) m.0.drained) refl)
    where
      go : (r : ℕ) → r < n → (t : Bool) → list_any (eqb r) m.0.drained ≡ t
          → (t || not (reaches desk.lives (slice_index desk.versions r) x)) ≡ true
      go r l true e = refl
      go r l false e =
          ap not ((free_swept desk a.live.items x settled h.now lt).0 free
          (slice_index desk.versions r)
          (live_of r l (λ within. let yes = in_list r m.0.drained within in cc)))

pub free_inside : (live : List ℕ) (lives : List Life) (x : ℕ)
    → slice_get (map (swept_life live) lives) x ≡ Some Free → x < length lives
free_inside live lives x free =
    omega (
      arith,
      slice_get_within (map (swept_life live) lives) x Free free,
      length-map lives
          (swept_life live),
    )
