-- The bounds on what a put and a remove make new, by the nodes that a search for the key meets.
use Rattle.mst_change.proofs.Names.{◌≡◌, ℕ, ◌+◌, ◌≤◌, ◌==◌, ◌||◌, Bool, false, cond, List, [], ◌∷◌, Option, Some, None, refl, sym, ap, subst, ◌∙◌, arith, Less, Greater, sum_by, option_map_or, cond_both, sum_by-cons, Format, layer_in, Pair, key_cmp, map_get, AllBelow, AllAbove, IsAscending, alls-back, greater_from_less, Tree, empty, node, Entries, last, entry, entry_count, pairs, entries_pairs, tree, with_entries, by_order, same_bytes, top_entries, cost, weight, pairs_tree, cells, first_child, last_child, with_first, node_of, is_empty, below, entries_below, above, entries_above, join_node, join_first, join, join_last, tree_remove, entries_remove, side_rows, split_rows, gap_rows, put_among_rows, put_rows, put_gap_rows, put_cost, join_node_rows, join_first_rows, join_rows, join_last_rows, remove_rows, entries_remove_rows, remove_cost}
use Rattle.mst_key.specs.Map as map
use Rattle.mst_key.proofs.Alls.{alls-front}
use Rattle.mst_node.specs.Trail.{nodes_met, met_in_gap}
use Rattle.mst_change.proofs.Choices.{at_order, at_layers}
use Rattle.mst_change.proofs.Parts.{seam_count, with_first_count}
use Rattle.mst_change.proofs.Split.Pairs.{before_same, behind_same}
use Rattle.mst_change.proofs.Split.Trees.{rest_rises, child_rises}
use Rattle.mst_change.proofs.Remove.Trees.{removed_tree}
use Rattle.mst_change.proofs.Cost.Join.{join_first_count}
use Rattle.mst_change.proofs.Cost.Put.{cost_put}
use Rattle.mst_change.proofs.Cost.Remove.{cost_remove}
use Rattle.mst_change.proofs.Choices.{chosen}

-- entries and two for each node of the list
abbrev heavy : List Tree → ℕ
heavy ts = sum_by (λ t. top_entries t + 2) ts

heavy_node : (g : Format) (l : ℕ) (es : Entries) (ts : List Tree) → heavy (node g l es ∷ ts)
    ≡ entry_count es + 2 + heavy ts
heavy_node g l es ts = sum_by-cons (λ t. top_entries t + 2) (node g l es) ts

pub side_le : (n : ℕ) (whole : Bool) → side_rows n whole ≤ n + 1
side_le n whole = cond_both ((n == 0) || whole) 0 (n + 1) (λ r. r ≤ n + 1) (λ e. omega arith)
    (λ e. omega arith)

-- ---- split and put

pub split_count : (es : Entries) (k : List ℕ) → entry_count (entries_below k es) + entry_count
    (entries_above k es) ≤ entry_count es
split_count (last child) k = omega arith
split_count (entry child key value rest) k =
    at_order (λ r. entry_count
    (by_order r (last (below k child)) (last child)
    (entry child key value (entries_below k rest))) + entry_count
    (by_order r (entry (above k child) key value rest) rest (entries_above k rest))
    ≤ entry_count rest + 1) k key
    (λ less. omega arith) (λ same. omega arith) (λ more. omega (arith, split_count rest k))

mutual
  split_bound : (t : Tree) (k : List ℕ) → split_rows k t ≤ heavy (nodes_met k t)
  split_bound empty k = omega arith
  split_bound (node g l es) k =
      let low = side_le (entry_count (entries_below k es)) (is_empty (above k (node g l es))) in
      let high = side_le (entry_count (entries_above k es)) (is_empty (below k (node g l es))) in
      let count = split_count es k in
      let path = gap_bound es k in
      let here = heavy_node g l es (met_in_gap k es) in
      omega (arith, low, high, count, path, here)

  gap_bound : (es : Entries) (k : List ℕ) → gap_rows k es ≤ heavy (met_in_gap k es)
  gap_bound (last child) k = split_bound child k
  gap_bound (entry child key value rest) k =
      at_order (λ r. by_order r (split_rows k child) 0 (gap_rows k rest) ≤ heavy
      (by_order r (nodes_met k child) [] (met_in_gap k rest))) k key
      (λ less. split_bound child k) (λ same. omega arith) (λ more. gap_bound rest k)

among_bound : (es : Entries) (k v : List ℕ) → put_among_rows k v es ≤ entry_count es + 2 + heavy
    (met_in_gap k es)
among_bound es k v =
    let low = entries_below k es in
    let count = seam_count low (entry (last_child low) k v (entries_above k es)) in
    let parts = split_count es k in
    let path = gap_bound es k in
    omega (arith, count, parts, path)

mutual
  put_bound : (t : Tree) (l : ℕ) (k v : List ℕ) → put_rows l k v t ≤ heavy (nodes_met k t) + 2
  put_bound empty l k v = omega arith
  put_bound (node g j es) l k v =
      let here = heavy_node g j es (met_in_gap k es) in
      at_layers (λ s t. cond s (put_among_rows k v (last (node g j es)))
      (cond t (put_among_rows k v es) (entry_count es + 1 + put_gap_rows l k v es)) ≤ heavy
      (nodes_met k (node g j es)) + 2) j l
      (λ less t. omega (arith, among_bound (last (node g j es)) k v))
      (λ same. omega (arith, here, among_bound es k v))
      (λ more. omega (arith, here, put_gap_bound es l k v))

  put_gap_bound : (es : Entries) (l : ℕ) (k v : List ℕ) → put_gap_rows l k v es ≤ heavy
      (met_in_gap k es) + 2
  put_gap_bound (last child) l k v = put_bound child l k v
  put_gap_bound (entry child key value rest) l k v =
      at_order (λ r. by_order r (put_rows l k v child) 0 (put_gap_rows l k v rest) ≤ heavy
      (by_order r (nodes_met k child) [] (met_in_gap k rest)) + 2) k key
      (λ less. put_bound child l k v) (λ same. omega arith) (λ more. put_gap_bound rest l k v)

-- ---- a search in entries that are put together

seam_trail : (es fs : Entries) (k : List ℕ) → AllBelow (entries_pairs es) k
    → met_in_gap k (with_entries (cells es) fs) ≡ met_in_gap k fs
seam_trail (last child) fs k low = refl
seam_trail (entry child key value rest) fs k low =
    let more = alls-back (λ (p : Pair). key_cmp p.0 k ≡ Less) (pairs child)
    ((key, value) ∷ entries_pairs rest) low in
    chosen (key_cmp k key) Greater (nodes_met k child) []
    (met_in_gap k (with_entries (cells rest) fs)) (greater_from_less key k more.0)
    ∙ seam_trail rest fs k more.1

first_trail : (fs : Entries) (new : Tree) (k : List ℕ) → AllAbove (entries_pairs fs) k
    → met_in_gap k (with_first new fs) ≡ nodes_met k new
first_trail (last child) new k high = refl
first_trail (entry child key value rest) new k high =
    let more = alls-back (λ (p : Pair). key_cmp k p.0 ≡ Less) (pairs child)
    ((key, value) ∷ entries_pairs rest) high in
    chosen (key_cmp k key) Less (nodes_met k new) [] (met_in_gap k rest) more.0

first_above : (fs : Entries) (k : List ℕ) → AllAbove (entries_pairs fs) k
    → AllAbove (pairs (first_child fs)) k
first_above (last child) k high = high
first_above (entry child key value rest) k high = alls-front (λ (p : Pair). key_cmp k p.0 ≡ Less)
    (pairs child) ((key, value) ∷ entries_pairs rest) high

rest_below : (child : Tree) (key value : List ℕ) (rest : Entries) (k : List ℕ)
    → AllBelow (entries_pairs (entry child key value rest)) k → AllBelow (entries_pairs rest) k
rest_below child key value rest k low =
    (alls-back (λ (p : Pair). key_cmp p.0 k ≡ Less) (pairs child)
    ((key, value) ∷ entries_pairs rest) low).1

-- ---- join

module _ (k : List ℕ) where
  -- what a join of the last child makes is on the path of the key
  abbrev Meets : (Tree → Tree) → (Tree → ℕ) → Type 0
  Meets inner rows = (u : Tree) → AllAbove (pairs u) k → rows u ≤ heavy (nodes_met k (inner u))

  mutual
    join_node_bound : (b : Tree) (g : Format) (l : ℕ) (es : Entries) (inner : Tree → Tree)
        (rows : Tree → ℕ) → AllBelow (entries_pairs es) k → Meets inner rows → AllAbove (pairs b) k
        → join_node_rows (entry_count es) l rows b ≤ heavy (nodes_met k (join_node g l es inner b))
    join_node_bound empty g l es inner rows low meets high = omega arith
    join_node_bound (node h j fs) g l es inner rows low meets high =
        let b = node h j fs in
        let tall = with_entries (cells es) (last (inner b)) in
        let wide = with_entries (cells es) (with_first (inner (first_child fs)) fs) in
        let deep = join_first g l es inner fs in
        at_layers (λ s t. cond s (entry_count es + 1 + rows b)
        (cond t (entry_count es + entry_count fs + 1 + rows (first_child fs))
        (entry_count fs + 1 + join_first_rows (entry_count es) l rows fs)) ≤ heavy
        (nodes_met k (cond s (node g l tall) (cond t (node g l wide) (node h j deep))))) j l
        (λ less t.
        let here = heavy_node g l tall (met_in_gap k tall) in
        let count = seam_count es (last (inner b)) in
        let path = ap heavy (seam_trail es (last (inner b)) k low) in
        let made = meets b high in
        omega (arith, here, count, path, made))
        (λ same.
        let here = heavy_node g l wide (met_in_gap k wide) in
        let count = seam_count es (with_first (inner (first_child fs)) fs) in
        let more = with_first_count fs (inner (first_child fs)) in
        let path =
        ap heavy (seam_trail es (with_first (inner (first_child fs)) fs) k low ∙ first_trail fs
        (inner (first_child fs)) k high) in
        let made = meets (first_child fs) (first_above fs k high) in
        omega (arith, here, count, more, path, made))
        (λ after.
        let here = heavy_node h j deep (met_in_gap k deep) in
        let count = join_first_count fs g l es inner in
        let made = join_first_bound fs g l es inner rows low meets high in
        omega (arith, here, count, made))

    join_first_bound : (fs : Entries) (g : Format) (l : ℕ) (es : Entries) (inner : Tree → Tree)
        (rows : Tree → ℕ) → AllBelow (entries_pairs es) k → Meets inner rows
        → AllAbove (entries_pairs fs) k → join_first_rows (entry_count es) l rows fs ≤ heavy
        (met_in_gap k (join_first g l es inner fs))
    join_first_bound (last child) g l es inner rows low meets high =
        join_node_bound child g l es inner rows low meets high
    join_first_bound (entry child key value rest) g l es inner rows low meets high =
        let made = join_node_bound child g l es inner rows low meets
        (first_above (entry child key value rest) k high) in
        let path =
        ap heavy (first_trail (entry child key value rest) (join_node g l es inner child) k
        high) in
        omega (arith, made, path)

  mutual
    join_bound : (a b : Tree) → AllBelow (pairs a) k → AllAbove (pairs b) k → join_rows a b ≤ heavy
        (nodes_met k (join a b))
    join_bound empty b low high = omega arith
    join_bound (node g l es) b low high =
        join_node_bound b g l es (join_last es) (join_last_rows es) low
        (λ u above_u. join_last_bound es u low above_u) high

    join_last_bound : (es : Entries) (b : Tree) → AllBelow (entries_pairs es) k
        → AllAbove (pairs b) k → join_last_rows es b ≤ heavy (nodes_met k (join_last es b))
    join_last_bound (last child) b low high = join_bound child b low high
    join_last_bound (entry child key value rest) b low high =
        join_last_bound rest b (rest_below child key value rest k low) high

  -- ---- remove

  node_of_bound : (es : Entries) (g : Format) (l n : ℕ) → n ≤ heavy (met_in_gap k es)
      → side_rows (entry_count es) false + n ≤ heavy (nodes_met k (node_of g l es))
  node_of_bound (last child) g l n h = omega arith
  node_of_bound (entry child key value rest) g l n h =
      let here = heavy_node g l (entry child key value rest)
      (met_in_gap k (entry child key value rest)) in
      let side = side_le (entry_count rest + 1) false in
      omega (arith, here, side)

  mutual
    remove_bound : (t : Tree) → IsAscending (pairs t) → remove_rows t k ≤ heavy
        (nodes_met k (tree_remove t k))
    remove_bound empty rise = omega arith
    remove_bound (node g l es) rise =
        node_of_bound (entries_remove es k) g l (entries_remove_rows es k)
        (entries_remove_bound es rise)

    entries_remove_bound : (es : Entries) → IsAscending (entries_pairs es) → entries_remove_rows es
        k ≤ heavy (met_in_gap k (entries_remove es k))
    entries_remove_bound (last child) rise = remove_bound child rise
    entries_remove_bound (entry child key value rest) rise =
        let xs = pairs child in
        let ys = entries_pairs rest in
        let joined = join child (first_child rest) in
        at_order (λ r. by_order r (remove_rows child k) (join_rows child (first_child rest))
        (entries_remove_rows rest k) ≤ heavy
        (met_in_gap k
        (by_order r (entry (tree_remove child k) key value rest) (with_first joined rest)
        (entry child key value (entries_remove rest k))))) k key
        (λ less. let path =
        ap heavy (chosen (key_cmp k key) Less (nodes_met k (tree_remove child k)) []
        (met_in_gap k rest) less) in
        omega (arith, path, remove_bound child (child_rises child key value rest rise)))
        (λ same. let high = behind_same xs (key, value) ys k rise same in
        let path = ap heavy (first_trail rest joined k high) in
        omega (
          arith,
          path,
          join_bound child (first_child rest)
              (before_same xs (key, value) ys k rise same) (first_above rest k high),
        ))
        (λ more. let path =
        ap heavy (chosen (key_cmp k key) Greater (nodes_met k child) []
        (met_in_gap k (entries_remove rest k)) (greater_from_less key k more)) in
        omega (arith, path, entries_remove_bound rest (rest_rises child key value rest rise)))

-- ---- the costs

pub put_cost_bound : (format : Format) (m : List Pair) (k v : List ℕ) → IsAscending m
    → cost format m (map.put m k v) ≤ weight format m k + 2
put_cost_bound format m k v rise =
    let t = tree format m in
    let bound : put_cost format t k v ≤ weight format m k + 2 =
    cond_both (option_map_or (same_bytes v) (map_get (pairs t) k) false) 0
    (put_rows (layer_in format k) k v t) (λ n. n ≤ weight format m k + 2) (λ same. omega arith)
    (λ other. put_bound t (layer_in format k) k v) in
    omega (arith, bound, cost_put format m k v rise)

remove_cost_le : (t : Tree) (k : List ℕ) (o : Option (List ℕ)) (n : ℕ) → remove_rows t k ≤ n
    → option_map_or (λ v. remove_rows t k) o 0 ≤ n
remove_cost_le t k None n h = omega arith
remove_cost_le t k (Some v) n h = h

pub remove_cost_bound : (format : Format) (m : List Pair) (k : List ℕ) → IsAscending m
    → cost format m (map.remove m k) ≤ weight format (map.remove m k) k + 2
remove_cost_bound format m k rise =
    let t = tree format m in
    let rises : IsAscending (pairs t) = subst IsAscending (sym (pairs_tree format m)) rise in
    let bound : remove_cost t k ≤ heavy (nodes_met k (tree_remove t k)) =
    remove_cost_le t k (map_get (pairs t) k) (heavy (nodes_met k (tree_remove t k)))
    (remove_bound k t rises) in
    let path = ap (λ (u : Tree). heavy (nodes_met k u)) (removed_tree format m k rise) in
    omega (arith, bound, path, cost_remove format m k rise)
