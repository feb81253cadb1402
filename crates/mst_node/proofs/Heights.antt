-- How many layers a list of pairs spans: what builds or hashes its tree nests no deeper.
use Rattle.mst_node.proofs.Names.{◌≡◌, ◌≢◌, ℕ, suc, zero, ◌+◌, ◌<◌, ◌≤◌, max, List, [], ◌∷◌, ◌++◌, length, get_or, ap, arith, slice_range, Pair, layers, greatest}
use Rattle.mst_node.proofs.TreeEquation.{gap_more, gap_none}

-- how many layers there are up to the greatest of the keys, 0 if there is no pair
abbrev pub height_of : (List ℕ → ℕ) → List Pair → ℕ
height_of layer [] = 0
height_of layer (p ∷ m) = max (layer p.0 + 1) (height_of layer m)

pub height_some : (layer : List ℕ → ℕ) (m : List Pair) → 0 < length m
    → height_of layer m ≡ greatest (layers layer m) + 1
height_some layer [] some = absurd (omega arith)
height_some layer (p ∷ []) some = omega arith
height_some layer (p ∷ q ∷ m) some = let e = height_some layer (q ∷ m) (omega arith) in grind arith

height_push : (layer : List ℕ → ℕ) (m : List Pair) (p : Pair)
    → height_of layer (m ++ p ∷ []) ≡ max (height_of layer m) (layer p.0 + 1)
height_push layer [] p = grind arith
height_push layer (q ∷ m) p = let e = height_push layer m p in grind arith

-- no key is above the greatest layer
at_most : (layer : List ℕ → ℕ) (m : List Pair) (i : ℕ) (x : Pair) → i < length m → x ≡ get_or m i x
    → layer x.0 ≤ greatest (layers layer m)
at_most layer [] i x within is = absurd (omega arith)
at_most layer (p ∷ m) zero x within is =
    let same : layer x.0 ≡ layer p.0 = ap (λ (q : Pair). layer q.0) is in omega (arith, same)
at_most layer (p ∷ m) (suc i) x within is =
    let low = at_most layer m i x (omega arith) is in omega (arith, low)

-- the gap is empty after an entry
pub low_none : (layer : List ℕ → ℕ) (m : List Pair) (i l : ℕ)
    → height_of layer (slice_range m i i) ≤ l
low_none layer m i l = omega (arith, ap (height_of layer) (gap_none m i))

-- a pair of another layer than the greatest leaves the gap below it
pub low_more : (layer : List ℕ → ℕ) (m : List Pair) (x : Pair) (start i l : ℕ) → start ≤ i
    → i < length m → x ≡ get_or m i x → l ≡ greatest (layers layer m) → layer x.0 ≢ l
    → height_of layer (slice_range m start i) ≤ l
    → height_of layer (slice_range m start (i + 1)) ≤ l
low_more layer m x start i l order within is top other low =
    omega (
      arith,
      top,
      other,
      low,
      at_most layer m i x within is,
      ap (height_of layer) (gap_more m start i x order within is),
      height_push layer (slice_range m start i) x,
    )
