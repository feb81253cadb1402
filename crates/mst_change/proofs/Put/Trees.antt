-- The tree after a put: it is a search tree, with the pairs of the new map.
use Rattle.mst_change.proofs.Names.{◌≡◌, ℕ, ◌<◌, List, [], ◌∷◌, ◌++◌, refl, sym, ap, subst, ◌∙◌, arith, Format, layer_in, Pair, IsAscending, Tree, empty, node, Entries, last, entry, entry_count, pairs, entries_pairs, IsUnder, IsMst, IsMstEntries, tree, pairs_tree, tree_unique, tree_mst, last_child, entries_below, entries_above, put_among, put_at, put_in_gap, tree_put}
use Rattle.mst_key.specs.Map as map
use Rattle.mst_key.proofs.Splits.{put-left, put-right, put-at}
use Rattle.mst_change.proofs.Choices.{at_key, at_layer}
use Rattle.mst_change.proofs.Parts.{seam_pairs, seam_mst, seam_count, last_mst}
use Rattle.mst_change.proofs.Split.Pairs.{lesser, behind_above, before_below, before_same, behind_same, equal_same}
use Rattle.mst_change.proofs.Split.Trees.{rest_rises, child_rises, entries_below_pairs, entries_above_pairs, entries_below_mst, entries_above_mst}

-- ---- pairs

pub put_among_pairs : (es : Entries) (k v : List ℕ) → IsAscending (entries_pairs es)
    → entries_pairs (put_among k v es) ≡ map.put (entries_pairs es) k v
put_among_pairs es k v rise =
    let low = entries_below k es in
    let high = entries_above k es in
    seam_pairs low (entry (last_child low) k v high) ((k, v) ∷ entries_pairs high) refl
    ∙ ap (λ (m : List Pair). m ++ (k, v) ∷ entries_pairs high) (entries_below_pairs es k rise)
    ∙ ap (λ (m : List Pair). lesser k (entries_pairs es) ++ (k, v) ∷ m)
    (entries_above_pairs es k rise)

mutual
  pub put_at_pairs : (t : Tree) (format : Format) (l : ℕ) (k v : List ℕ) → IsAscending (pairs t)
      → pairs (put_at format l k v t) ≡ map.put (pairs t) k v
  put_at_pairs empty format l k v rise = refl
  put_at_pairs (node g j es) format l k v rise =
      at_layer (λ t. pairs t ≡ map.put (entries_pairs es) k v) j l
      (node format l (put_among k v (last (node g j es)))) (node g j (put_among k v es))
      (node g j (put_in_gap format l k v es))
      (λ less. put_among_pairs (last (node g j es)) k v rise)
      (λ same. put_among_pairs es k v rise)
      (λ more. put_in_gap_pairs es format l k v rise)

  pub put_in_gap_pairs : (es : Entries) (format : Format) (l : ℕ) (k v : List ℕ)
      → IsAscending (entries_pairs es) → entries_pairs (put_in_gap format l k v es) ≡ map.put
      (entries_pairs es) k v
  put_in_gap_pairs (last child) format l k v rise = put_at_pairs child format l k v rise
  put_in_gap_pairs (entry child key value rest) format l k v rise =
      let xs = pairs child in
      let ys = entries_pairs rest in
      at_key (λ es. entries_pairs es ≡ map.put (xs ++ (key, value) ∷ ys) k v) k key
      (entry (put_at format l k v child) key value rest) (entry child k v rest)
      (entry child key value (put_in_gap format l k v rest))
      (λ less. ap (λ (m : List Pair). m ++ (key, value) ∷ ys)
      (put_at_pairs child format l k v (child_rises child key value rest rise))
      ∙ sym (put-left xs ((key, value) ∷ ys) k v (behind_above xs (key, value) ys k rise less)))
      (λ same. sym
      (put-at (xs ++ (key, value) ∷ ys) xs ys k key value refl
      (equal_same xs (key, value) ys k rise same) (before_same xs (key, value) ys k rise same)
      (behind_same xs (key, value) ys k rise same) v))
      (λ more. ap (λ (m : List Pair). xs ++ (key, value) ∷ m)
      (put_in_gap_pairs rest format l k v (rest_rises child key value rest rise))
      ∙ sym (put-right xs ((key, value) ∷ ys) k v (before_below xs (key, value) ys k rise more)
      ∙ ap (λ (m : List Pair). xs ++ m) (put-right ((key, value) ∷ []) ys k v (more, tt))))

-- ---- search trees

pub put_among_mst : (es : Entries) (format : Format) (l : ℕ) (k v : List ℕ) → layer_in format k ≡ l
    → IsMstEntries format l es → IsMstEntries format l (put_among k v es)
put_among_mst es format l k v is mst =
    let low = entries_below k es in
    let high = entries_above k es in
    let low_mst = entries_below_mst es format k l mst in
    let end = last_mst low format l low_mst in
    seam_mst low (entry (last_child low) k v high) format l low_mst
    (end.0, end.1, is, entries_above_mst es format k l mst)

pub put_among_some : (es : Entries) (k v : List ℕ) → 0 < entry_count (put_among k v es)
put_among_some es k v =
    omega (
      arith,
      seam_count (entries_below k es)
          (entry (last_child (entries_below k es)) k v (entries_above k es)),
    )

put_in_gap_some : (es : Entries) (format : Format) (l : ℕ) (k v : List ℕ) → 0 < entry_count es
    → 0 < entry_count (put_in_gap format l k v es)
put_in_gap_some (last child) format l k v some = some
put_in_gap_some (entry child key value rest) format l k v some =
    at_key (λ es. 0 < entry_count es) k key (entry (put_at format l k v child) key value rest)
    (entry child k v rest) (entry child key value (put_in_gap format l k v rest))
    (λ less. omega arith) (λ same. omega arith) (λ more. omega arith)

mutual
  pub put_at_mst : (t : Tree) (format : Format) (l : ℕ) (k v : List ℕ) → layer_in format k ≡ l
      → IsMst format t → IsMst format (put_at format l k v t)
  put_at_mst empty format l k v is mst = (refl, omega arith, (tt, tt, is, (tt, tt)))
  put_at_mst (node g j es) format l k v is mst =
      at_layer (IsMst format) j l (node format l (put_among k v (last (node g j es))))
      (node g j (put_among k v es)) (node g j (put_in_gap format l k v es))
      (λ less. (
        refl,
        put_among_some (last (node g j es)) k v,
        put_among_mst (last (node g j es))
            format l k v is (less, mst),
      ))
      (λ same. (mst.0, put_among_some es k v, put_among_mst es format j k v (is ∙ sym same) mst.2))
      (λ more. (
        mst.0,
        put_in_gap_some es format l k v mst.1,
        put_in_gap_mst es format l j k v
            is more mst.2,
      ))

  pub put_at_under : (t : Tree) (format : Format) (l i : ℕ) (k v : List ℕ) → l < i → IsUnder i t
      → IsUnder i (put_at format l k v t)
  put_at_under empty format l i k v low under = low
  put_at_under (node g j es) format l i k v low under =
      at_layer (IsUnder i) j l (node format l (put_among k v (last (node g j es))))
      (node g j (put_among k v es)) (node g j (put_in_gap format l k v es))
      (λ less. low) (λ same. under) (λ more. under)

  pub put_in_gap_mst : (es : Entries) (format : Format) (l j : ℕ) (k v : List ℕ) → layer_in format k
      ≡ l → l < j → IsMstEntries format j es → IsMstEntries format j (put_in_gap format l k v es)
  put_in_gap_mst (last child) format l j k v is low mst =
      (put_at_under child format l j k v low mst.0, put_at_mst child format l k v is mst.1)
  put_in_gap_mst (entry child key value rest) format l j k v is low mst =
      at_key (IsMstEntries format j) k key (entry (put_at format l k v child) key value rest)
      (entry child k v rest) (entry child key value (put_in_gap format l k v rest))
      (λ less. (
        put_at_under child format l j k v low mst.0,
        put_at_mst child format l k v is mst.1,
        mst.2,
        mst.3,
      ))
      (λ same. (mst.0, mst.1, ap (layer_in format) same ∙ mst.2, mst.3))
      (λ more. (mst.0, mst.1, mst.2, put_in_gap_mst rest format l j k v is low mst.3))

-- ---- the tree of the new map

pub put_tree : (format : Format) (m : List Pair) (k v : List ℕ) → IsAscending m → tree_put format
    (tree format m) k v ≡ tree format (map.put m k v)
put_tree format m k v rise =
    let t = tree format m in
    let new = tree_put format t k v in
    let rises : IsAscending (pairs t) = subst IsAscending (sym (pairs_tree format m)) rise in
    sym (tree_unique new format
    (put_at_mst t format (layer_in format k) k v refl (tree_mst format m)))
    ∙ ap (tree format) (put_at_pairs t format (layer_in format k) k v rises
    ∙ ap (λ (p : List Pair). map.put p k v) (pairs_tree format m))
