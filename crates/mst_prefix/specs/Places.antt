-- An item put into a list.
use Rattle.std.specs.Prelude.{◌≡◌, ◌⊎◌, ℕ, List, [], ◌∷◌, ◌++◌, slice_get, slice_set, Some}

-- the item stands at this place, where another stood or at the end, and all others stand as before
pub record IsPutAt {T : Type 0} (place : ℕ) (item : T) (old new : List T) : Type 0 where
  pub there : slice_get new place ≡ Some item
  pub others : (new ≡ slice_set old place item) ⊎ (new ≡ old ++ item ∷ [])
