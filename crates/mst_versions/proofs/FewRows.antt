-- Some subtrees of a map's tree have at most two rows for each of its pairs.
use Rattle.mst_versions.proofs.Names.{◌≡◌, ℕ, ◌+◌, ◌*◌, ◌<◌, ◌≤◌, Bool, true, false, not, cond, List, ◌∷◌, length, length-append, ap, arith, Format, Pair, tree}
use Rattle.mst_node.specs.Tree.{Tree, empty, node, Entries, last, entry, entry_count, pairs, entries_pairs, IsMst, IsMstEntries}
use Rattle.mst_node.specs.Cost.{subtrees, entries_subtrees, is_subtree, new_rows}
use Rattle.mst_node.proofs.Weights.{weigh, weigh_is, weigh-append}
use Rattle.mst_node.proofs.UniqueTree.{pairs_tree, tree_mst}

some_rows : (b : Bool) (n : ℕ) → cond b n 0 ≤ n
some_rows true n = omega arith
some_rows false n = omega arith

mutual
  weigh_few : (p : Tree → Bool) (format : Format) (t : Tree) → IsMst format t
      → weigh p (subtrees t) ≤ 2 * length (pairs t)
  weigh_few p format empty mst = omega arith
  weigh_few p format (node g l es) mst =
      let below = entries_few p format l es mst.2 in
      let some : 0 < entry_count es = mst.1 in
      let here = some_rows (p (node g l es)) (entry_count es + 1) in
      omega (arith, below, some, here)

  entries_few : (p : Tree → Bool) (format : Format) (l : ℕ) (es : Entries)
      → IsMstEntries format l es
      → weigh p (entries_subtrees es) + 2 * entry_count es ≤ 2 * length (entries_pairs es)
  entries_few p format l (last child) mst = let below = weigh_few p format child mst.1 in
      omega (arith, below)
  entries_few p format l (entry child key value rest) mst =
      let one = weigh_few p format child mst.1 in
      let more = entries_few p format l rest mst.3 in
      let weight = weigh-append p (subtrees child) (entries_subtrees rest) in
      let count = length-append (pairs child) ((key, value) ∷ entries_pairs rest) in
      omega (arith, one, more, weight, count)

-- some of the subtrees of a map's tree
pub weigh_map : (p : Tree → Bool) (format : Format) (m : List Pair)
    → weigh p (subtrees (tree format m)) ≤ 2 * length m
weigh_map p format m = let few = weigh_few p format (tree format m) (tree_mst format m) in
    let same : length (pairs (tree format m)) ≡ length m =
    ap (λ (n : List Pair). length n) (pairs_tree format m) in
    omega (arith, few, same)

-- the rows that a change takes
pub few_new : (old : Tree) (format : Format) (m : List Pair)
    → new_rows old (tree format m) ≤ 2 * length m
few_new old format m =
    let is = weigh_is (λ t. not (is_subtree t old)) (subtrees (tree format m)) in
    let few = weigh_map (λ t. not (is_subtree t old)) format m in
    omega (arith, is, few)
