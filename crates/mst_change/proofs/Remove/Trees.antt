-- The tree after a remove: it is a search tree, with the pairs of the new map.
use Rattle.mst_change.proofs.Names.{◌≡◌, ℕ, List, [], ◌∷◌, ◌++◌, refl, sym, ap, subst, ◌∙◌, Format, Pair, IsAscending, Tree, empty, node, Entries, last, entry, pairs, entries_pairs, IsUnder, IsMst, IsMstEntries, tree, pairs_tree, tree_unique, tree_mst, first_child, with_first, join, tree_remove, entries_remove}
use Rattle.mst_key.specs.Map as map
use Rattle.mst_key.proofs.Splits.{remove-left, remove-right, remove-at}
use Rattle.mst_change.proofs.Choices.{at_key}
use Rattle.mst_change.proofs.Parts.{node_of_pairs, node_of_mst, node_of_under, with_first_pairs, with_first_mst, first_mst}
use Rattle.mst_change.proofs.Split.Pairs.{behind_above, before_below, before_same, behind_same, equal_same}
use Rattle.mst_change.proofs.Split.Trees.{rest_rises, child_rises}
use Rattle.mst_change.proofs.Join.Trees.{join_pairs, join_mst, join_under}

mutual
  pub remove_pairs : (t : Tree) (k : List ℕ) → IsAscending (pairs t) → pairs (tree_remove t k)
      ≡ map.remove (pairs t) k
  remove_pairs empty k rise = refl
  remove_pairs (node g l es) k rise = node_of_pairs (entries_remove es k) g l ∙ entries_remove_pairs
      es k rise

  pub entries_remove_pairs : (es : Entries) (k : List ℕ) → IsAscending (entries_pairs es)
      → entries_pairs (entries_remove es k) ≡ map.remove (entries_pairs es) k
  entries_remove_pairs (last child) k rise = remove_pairs child k rise
  entries_remove_pairs (entry child key value rest) k rise =
      let xs = pairs child in
      let ys = entries_pairs rest in
      let joined = join child (first_child rest) in
      at_key (λ es. entries_pairs es ≡ map.remove (xs ++ (key, value) ∷ ys) k) k key
      (entry (tree_remove child k) key value rest) (with_first joined rest)
      (entry child key value (entries_remove rest k))
      (λ less. ap (λ (m : List Pair). m ++ (key, value) ∷ ys)
      (remove_pairs child k (child_rises child key value rest rise))
      ∙ sym (remove-left xs ((key, value) ∷ ys) k
      (behind_above xs (key, value) ys k rise less)))
      (λ same. with_first_pairs rest joined xs (join_pairs child (first_child rest))
      ∙ sym (remove-at (xs ++ (key, value) ∷ ys) xs ys k key value refl
      (equal_same xs (key, value) ys k rise same) (before_same xs (key, value) ys k rise same)
      (behind_same xs (key, value) ys k rise same)))
      (λ more. ap (λ (m : List Pair). xs ++ (key, value) ∷ m)
      (entries_remove_pairs rest k (rest_rises child key value rest rise))
      ∙ sym (remove-right xs ((key, value) ∷ ys) k (before_below xs (key, value) ys k rise more)
      ∙ ap (λ (m : List Pair). xs ++ m) (remove-right ((key, value) ∷ []) ys k (more, tt))))

mutual
  pub remove_mst : (t : Tree) (format : Format) (k : List ℕ) → IsMst format t
      → IsMst format (tree_remove t k)
  remove_mst empty format k mst = tt
  remove_mst (node g l es) format k mst = node_of_mst (entries_remove es k) format g l mst.0
      (entries_remove_mst es format k l mst.2)

  pub remove_under : (t : Tree) (format : Format) (k : List ℕ) (j : ℕ) → IsMst format t
      → IsUnder j t → IsUnder j (tree_remove t k)
  remove_under empty format k j mst under = tt
  remove_under (node g l es) format k j mst under = node_of_under (entries_remove es k) format g l j
      under (entries_remove_mst es format k l mst.2)

  pub entries_remove_mst : (es : Entries) (format : Format) (k : List ℕ) (l : ℕ)
      → IsMstEntries format l es → IsMstEntries format l (entries_remove es k)
  entries_remove_mst (last child) format k l mst =
      (remove_under child format k l mst.1 mst.0, remove_mst child format k mst.1)
  entries_remove_mst (entry child key value rest) format k l mst =
      let first = first_mst rest format l mst.3 in
      at_key (IsMstEntries format l) k key (entry (tree_remove child k) key value rest)
      (with_first (join child (first_child rest)) rest)
      (entry child key value (entries_remove rest k))
      (λ less. (
        remove_under child format k l mst.1 mst.0,
        remove_mst child format k mst.1,
        mst.2,
        mst.3,
      ))
      (λ same. with_first_mst rest (join child (first_child rest)) format l
      (join_under child (first_child rest) l mst.0 first.0)
      (join_mst child (first_child rest) format mst.1 first.1) mst.3)
      (λ more. (mst.0, mst.1, mst.2, entries_remove_mst rest format k l mst.3))

-- the tree of the new map
pub removed_tree : (format : Format) (m : List Pair) (k : List ℕ) → IsAscending m
    → tree_remove (tree format m) k ≡ tree format (map.remove m k)
removed_tree format m k rise =
    let t = tree format m in
    let rises : IsAscending (pairs t) = subst IsAscending (sym (pairs_tree format m)) rise in
    sym (tree_unique (tree_remove t k) format (remove_mst t format k (tree_mst format m)))
    ∙ ap (tree format)
    (remove_pairs t k rises ∙ ap (λ (p : List Pair). map.remove p k) (pairs_tree format m))
