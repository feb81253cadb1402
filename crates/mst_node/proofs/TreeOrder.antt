-- How the layers and the keys of a tree lie: what holds of each Merkle search tree, and of each
-- tree whose pairs ascend.
use Rattle.mst_node.proofs.Names.{◌≡◌, ℕ, List, [], ◌∷◌, ◌++◌, Option, Some, None, AllByRecursion, Less, Format, Pair, key_cmp, IsAscending, Tree, empty, node, Entries, last, entry, pairs, entries_pairs, IsMst, IsMstEntries, LayersFall, LayersFallIn, IsBetween}
use Rattle.mst_node.specs.Gaps.{LiesBetween, EntriesLieBetween}

mutual
  pub layers_fall : (t : Tree) (format : Format) → IsMst format t → LayersFall t
  layers_fall empty format mst = tt
  layers_fall (node g l es) format mst = layers_fall_in es format l mst.2

  layers_fall_in : (es : Entries) (format : Format) (l : ℕ) → IsMstEntries format l es
      → LayersFallIn l es
  layers_fall_in (last child) format l mst = (mst.0, layers_fall child format mst.1)
  layers_fall_in (entry child key value rest) format l mst =
      (mst.0, layers_fall child format mst.1, layers_fall_in rest format l mst.3)

abbrev Between : Option (List ℕ) → Option (List ℕ) → List Pair → Type 0
Between low high m = AllByRecursion (λ p. IsBetween low high p.0) m

-- the parts of a list round a pair
pub record Split (xs : List Pair) (y : Pair) (ys : List Pair) : Type 0 where
  pub front : IsAscending xs
  pub back : IsAscending ys
  pub below : AllByRecursion (λ p. key_cmp p.0 y.0 ≡ Less) xs
  pub above : AllByRecursion (λ p. key_cmp y.0 p.0 ≡ Less) ys

pub all-front : (P : Pair → Type 0) (xs ys : List Pair) → AllByRecursion P (xs ++ ys)
    → AllByRecursion P xs × AllByRecursion P ys
all-front P [] ys all = (tt, all)
all-front P (x ∷ xs) ys all = let rest = all-front P xs ys all.1 in ((all.0, rest.0), rest.1)

pub split : (xs : List Pair) (y : Pair) (ys : List Pair) → IsAscending (xs ++ y ∷ ys)
    → Split xs y ys
split [] y ys rise = record { front = tt; back = rise.1; below = tt; above = rise.0 }
split (x ∷ xs) y ys rise =
    let rest = split xs y ys rise.1 in
    let parts = all-front (λ q. key_cmp x.0 q.0 ≡ Less) xs (y ∷ ys) rise.0 in
    record {
      front = (parts.0, rest.front);
      back = rest.back;
      below = (parts.1.0, rest.below);
      above = rest.above;
    }

-- what lies between the bounds and below a key lies between the low bound and the key
narrow_high : (low high : Option (List ℕ)) (k : List ℕ) (m : List Pair) → Between low high m
    → AllByRecursion (λ p. key_cmp p.0 k ≡ Less) m → Between low (Some k) m
narrow_high low high k [] all below = tt
narrow_high low high k (p ∷ m) all below =
    (record { above = all.0.above; below = below.0 }, narrow_high low high k m all.1 below.1)

narrow_low : (low high : Option (List ℕ)) (k : List ℕ) (m : List Pair) → Between low high m
    → AllByRecursion (λ p. key_cmp k p.0 ≡ Less) m → Between (Some k) high m
narrow_low low high k [] all above = tt
narrow_low low high k (p ∷ m) all above =
    (record { above = above.0; below = all.0.below }, narrow_low low high k m all.1 above.1)

pub between_none : (m : List Pair) → Between None None m
between_none [] = tt
between_none (p ∷ m) = (record { above = tt; below = tt }, between_none m)

mutual
  pub lies_between : (t : Tree) (low high : Option (List ℕ)) → IsAscending (pairs t)
      → Between low high (pairs t) → LiesBetween low high t
  lies_between empty low high rise all = tt
  lies_between (node format l es) low high rise all = entries_lie es low high rise all

  entries_lie : (es : Entries) (low high : Option (List ℕ)) → IsAscending (entries_pairs es)
      → Between low high (entries_pairs es) → EntriesLieBetween low high es
  entries_lie (last child) low high rise all = lies_between child low high rise all
  entries_lie (entry child key value rest) low high rise all =
      let s = split (pairs child) (key, value) (entries_pairs rest) rise in
      let parts = all-front (λ p. IsBetween low high p.0) (pairs child)
      ((key, value) ∷ entries_pairs rest) all in (
        parts.1.0,
        lies_between child low (Some key) s.front
            (narrow_high low high key (pairs child) parts.0 s.below),
        entries_lie rest (Some key) high s.back
            (narrow_low low high key (entries_pairs rest) parts.1.1 s.above),
      )
