-- The parts of a tree below and above a key: they are search trees, with the pairs below and above
-- it.
use Rattle.mst_change.proofs.Names.{◌≡◌, ℕ, List, [], ◌∷◌, ◌++◌, refl, sym, ap, ◌∙◌, Format, Pair, IsAscending, Tree, empty, node, Entries, last, entry, pairs, entries_pairs, IsUnder, IsMst, IsMstEntries, below, entries_below, above, entries_above}
use Rattle.mst_key.proofs.Splits.{IsAscending-front, IsAscending-back}
use Rattle.mst_change.proofs.Choices.{at_key}
use Rattle.mst_change.proofs.Parts.{node_of_pairs, node_of_mst, node_of_under}
use Rattle.mst_change.proofs.Split.Pairs.{lesser, greater, lesser_before, lesser_same, lesser_behind, greater_before, greater_same, greater_behind}

-- the entries after an entry rise too
pub rest_rises : (child : Tree) (key value : List ℕ) (rest : Entries)
    → IsAscending (entries_pairs (entry child key value rest)) → IsAscending (entries_pairs rest)
rest_rises child key value rest rise = IsAscending-back ((key, value) ∷ []) (entries_pairs rest)
    (IsAscending-back (pairs child) ((key, value) ∷ entries_pairs rest) rise)

pub child_rises : (child : Tree) (key value : List ℕ) (rest : Entries)
    → IsAscending (entries_pairs (entry child key value rest)) → IsAscending (pairs child)
child_rises child key value rest rise =
    IsAscending-front (pairs child) ((key, value) ∷ entries_pairs rest) rise

-- ---- pairs

mutual
  pub below_pairs : (t : Tree) (k : List ℕ) → IsAscending (pairs t) → pairs (below k t) ≡ lesser k
      (pairs t)
  below_pairs empty k rise = refl
  below_pairs (node g l es) k rise = node_of_pairs (entries_below k es) g l ∙ entries_below_pairs es
      k rise

  pub entries_below_pairs : (es : Entries) (k : List ℕ) → IsAscending (entries_pairs es)
      → entries_pairs (entries_below k es) ≡ lesser k (entries_pairs es)
  entries_below_pairs (last child) k rise = below_pairs child k rise
  entries_below_pairs (entry child key value rest) k rise =
      let xs = pairs child in
      let ys = entries_pairs rest in
      at_key (λ es. entries_pairs es ≡ lesser k (xs ++ (key, value) ∷ ys)) k key
      (last (below k child)) (last child) (entry child key value (entries_below k rest))
      (λ less. below_pairs child k (child_rises child key value rest rise)
      ∙ sym (lesser_before xs (key, value) ys k rise less))
      (λ same. sym (lesser_same xs (key, value) ys k rise same))
      (λ more. ap (λ (m : List Pair). xs ++ (key, value) ∷ m)
      (entries_below_pairs rest k (rest_rises child key value rest rise))
      ∙ sym (lesser_behind xs (key, value) ys k rise more))

mutual
  pub above_pairs : (t : Tree) (k : List ℕ) → IsAscending (pairs t) → pairs (above k t) ≡ greater k
      (pairs t)
  above_pairs empty k rise = refl
  above_pairs (node g l es) k rise = node_of_pairs (entries_above k es) g l ∙ entries_above_pairs es
      k rise

  pub entries_above_pairs : (es : Entries) (k : List ℕ) → IsAscending (entries_pairs es)
      → entries_pairs (entries_above k es) ≡ greater k (entries_pairs es)
  entries_above_pairs (last child) k rise = above_pairs child k rise
  entries_above_pairs (entry child key value rest) k rise =
      let xs = pairs child in
      let ys = entries_pairs rest in
      at_key (λ es. entries_pairs es ≡ greater k (xs ++ (key, value) ∷ ys)) k key
      (entry (above k child) key value rest) rest (entries_above k rest)
      (λ less. ap (λ (m : List Pair). m ++ (key, value) ∷ ys)
      (above_pairs child k (child_rises child key value rest rise))
      ∙ sym (greater_before xs (key, value) ys k rise less))
      (λ same. sym (greater_same xs (key, value) ys k rise same))
      (λ more. entries_above_pairs rest k (rest_rises child key value rest rise)
      ∙ sym (greater_behind xs (key, value) ys k rise more))

-- ---- search trees

mutual
  pub below_mst : (t : Tree) (format : Format) (k : List ℕ) → IsMst format t
      → IsMst format (below k t)
  below_mst empty format k mst = tt
  below_mst (node g l es) format k mst = node_of_mst (entries_below k es) format g l mst.0
      (entries_below_mst es format k l mst.2)

  pub below_under : (t : Tree) (format : Format) (k : List ℕ) (j : ℕ) → IsMst format t → IsUnder j t
      → IsUnder j (below k t)
  below_under empty format k j mst under = tt
  below_under (node g l es) format k j mst under = node_of_under (entries_below k es) format g l j
      under (entries_below_mst es format k l mst.2)

  pub entries_below_mst : (es : Entries) (format : Format) (k : List ℕ) (l : ℕ)
      → IsMstEntries format l es → IsMstEntries format l (entries_below k es)
  entries_below_mst (last child) format k l mst =
      (below_under child format k l mst.1 mst.0, below_mst child format k mst.1)
  entries_below_mst (entry child key value rest) format k l mst =
      at_key (IsMstEntries format l) k key (last (below k child)) (last child)
      (entry child key value (entries_below k rest))
      (λ less. (below_under child format k l mst.1 mst.0, below_mst child format k mst.1))
      (λ same. (mst.0, mst.1))
      (λ more. (mst.0, mst.1, mst.2, entries_below_mst rest format k l mst.3))

mutual
  pub above_mst : (t : Tree) (format : Format) (k : List ℕ) → IsMst format t
      → IsMst format (above k t)
  above_mst empty format k mst = tt
  above_mst (node g l es) format k mst = node_of_mst (entries_above k es) format g l mst.0
      (entries_above_mst es format k l mst.2)

  pub above_under : (t : Tree) (format : Format) (k : List ℕ) (j : ℕ) → IsMst format t → IsUnder j t
      → IsUnder j (above k t)
  above_under empty format k j mst under = tt
  above_under (node g l es) format k j mst under = node_of_under (entries_above k es) format g l j
      under (entries_above_mst es format k l mst.2)

  pub entries_above_mst : (es : Entries) (format : Format) (k : List ℕ) (l : ℕ)
      → IsMstEntries format l es → IsMstEntries format l (entries_above k es)
  entries_above_mst (last child) format k l mst =
      (above_under child format k l mst.1 mst.0, above_mst child format k mst.1)
  entries_above_mst (entry child key value rest) format k l mst =
      at_key (IsMstEntries format l) k key (entry (above k child) key value rest) rest
      (entries_above k rest)
      (λ less. (
        above_under child format k l mst.1 mst.0,
        above_mst child format k mst.1,
        mst.2,
        mst.3,
      ))
      (λ same. mst.3)
      (λ more. entries_above_mst rest format k l mst.3)
