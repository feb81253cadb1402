-- A list of pairs cut at a key: the pairs below it, and the pairs above it.
use Rattle.mst_change.proofs.Names.{◌≡◌, ℕ, List, [], ◌∷◌, ◌++◌, filter, sym, ap, subst, ◌∙◌, Less, Equal, cond-false, append-nil, filter-append, Pair, key_cmp, AllBelow, AllAbove, IsAscending, equal_from_same, IsAscending-below, IsAscending-above}
use Rattle.std.proofs.Common.{is_lt, is_gt}
use Rattle.mst_key.proofs.MapLaws.{AllAbove-less, AllBelow-less}
use Rattle.mst_key.proofs.Splits.{below-kept, below-dropped, above-kept, above-dropped}

abbrev pub lesser : List ℕ → List Pair → List Pair
lesser k m = filter (λ p. is_lt (key_cmp p.0 k)) m

abbrev pub greater : List ℕ → List Pair → List Pair
greater k m = filter (λ p. is_gt (key_cmp p.0 k)) m

pub lesser-left : (xs ys : List Pair) (k : List ℕ) → AllAbove ys k → lesser k (xs ++ ys) ≡ lesser k
    xs
lesser-left xs ys k high =
    filter-append (λ (p : Pair). is_lt (key_cmp p.0 k)) xs ys
    ∙ ap (λ (l : List Pair). lesser k xs ++ l) (above-dropped ys k high)
    ∙ append-nil (lesser k xs)

pub lesser-right : (xs ys : List Pair) (k : List ℕ) → AllBelow xs k → lesser k (xs ++ ys) ≡ xs
    ++ lesser k ys
lesser-right xs ys k low = filter-append (λ (p : Pair). is_lt (key_cmp p.0 k)) xs ys
    ∙ ap (λ (l : List Pair). l ++ lesser k ys) (below-kept xs k low)

pub greater-left : (xs ys : List Pair) (k : List ℕ) → AllAbove ys k → greater k (xs ++ ys) ≡ greater
    k xs ++ ys
greater-left xs ys k high = filter-append (λ (p : Pair). is_gt (key_cmp p.0 k)) xs ys
    ∙ ap (λ (l : List Pair). greater k xs ++ l) (above-kept ys k high)

pub greater-right : (xs ys : List Pair) (k : List ℕ) → AllBelow xs k → greater k (xs ++ ys)
    ≡ greater k ys
greater-right xs ys k low = filter-append (λ (p : Pair). is_gt (key_cmp p.0 k)) xs ys
    ∙ ap (λ (l : List Pair). l ++ greater k ys) (below-dropped xs k low)

-- ---- a list with a pair in its middle, and a key below it, its own, or above it

module _ (xs : List Pair) (p : Pair) (ys : List Pair) (k : List ℕ)
    (rise : IsAscending (xs ++ p ∷ ys)) where
  -- the key is below the pair's, and below those of the pairs after it
  pub behind_above : key_cmp k p.0 ≡ Less → AllAbove (p ∷ ys) k
  behind_above less = (less, AllAbove-less ys k p.0 less (IsAscending-above xs ys p rise))

  pub before_below : key_cmp p.0 k ≡ Less → AllBelow xs k
  before_below more = AllBelow-less xs p.0 k (IsAscending-below xs ys p rise) more

  pub before_same : k ≡ p.0 → AllBelow xs k
  before_same same = subst (AllBelow xs) (sym same) (IsAscending-below xs ys p rise)

  pub behind_same : k ≡ p.0 → AllAbove ys k
  behind_same same = subst (AllAbove ys) (sym same) (IsAscending-above xs ys p rise)

  pub equal_same : k ≡ p.0 → key_cmp p.0 k ≡ Equal
  equal_same same = equal_from_same p.0 k (sym same)

  pub lesser_before : key_cmp k p.0 ≡ Less → lesser k (xs ++ p ∷ ys) ≡ lesser k xs
  lesser_before less = lesser-left xs (p ∷ ys) k (behind_above less)

  pub lesser_same : k ≡ p.0 → lesser k (xs ++ p ∷ ys) ≡ xs
  lesser_same same =
      lesser-right xs (p ∷ ys) k (before_same same)
      ∙ ap (λ (l : List Pair). xs ++ l)
      (cond-false (is_lt (key_cmp p.0 k)) (p ∷ lesser k ys) (lesser k ys)
      (ap is_lt (equal_same same)) ∙ above-dropped ys k (behind_same same))
      ∙ append-nil xs

  pub lesser_behind : key_cmp p.0 k ≡ Less → lesser k (xs ++ p ∷ ys) ≡ xs ++ p ∷ lesser k ys
  lesser_behind more = lesser-right xs (p ∷ ys) k (before_below more)
      ∙ ap (λ (l : List Pair). xs ++ l) (lesser-right (p ∷ []) ys k (more, tt))

  pub greater_before : key_cmp k p.0 ≡ Less → greater k (xs ++ p ∷ ys) ≡ greater k xs ++ p ∷ ys
  greater_before less = greater-left xs (p ∷ ys) k (behind_above less)

  pub greater_same : k ≡ p.0 → greater k (xs ++ p ∷ ys) ≡ ys
  greater_same same =
      greater-right xs (p ∷ ys) k (before_same same)
      ∙ cond-false (is_gt (key_cmp p.0 k)) (p ∷ greater k ys) (greater k ys)
      (ap is_gt (equal_same same))
      ∙ above-kept ys k (behind_same same)

  pub greater_behind : key_cmp p.0 k ≡ Less → greater k (xs ++ p ∷ ys) ≡ greater k ys
  greater_behind more = greater-right xs (p ∷ ys) k (before_below more) ∙ greater-right (p ∷ []) ys
      k (more, tt)
