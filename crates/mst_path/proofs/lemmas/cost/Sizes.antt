-- A remove makes no more new rows than its tree has, and a put no more than twice as many and two.
use Rattle.mst_path.proofs.Names.{Format, ◌≡◌, ℕ, ◌+◌, ◌*◌, ◌<◌, ◌≤◌, Bool, true, false, List, length, refl, arith, length-append, nat_le, MatchBool, nat_tests, Tree, empty, node, Entries, last, entry, entry_count, Placed, none, head, Chain, end, cell, tree_of, entries_of, used, chain_used, first_child, last_child, with_first, is_empty, below, above, join, tree_remove, split_rows, put_rows, join_rows, remove_rows, with_first_count}
use Rattle.mst_node.specs.Trail.{by_order}
use Rattle.mst_change.specs.Split.{entries_below, entries_above}
use Rattle.mst_change.specs.Remove.{entries_remove}
use Rattle.mst_change.specs.Cost.{gap_rows, put_among_rows, put_gap_rows, join_node_rows, join_first_rows, join_last_rows, entries_remove_rows}
use Rattle.mst_change.proofs.Cost.Bounds.{side_le, split_count}
use Rattle.mst_change.proofs.Choices.{at_order, at_layer}
use Rattle.mst_change.proofs.Parts.{seam_count}

-- how many rows a tree has
abbrev mutual
  pub size : Tree → ℕ
  size empty = 0
  size (node g l es) = entries_size es + 1

  pub entries_size : Entries → ℕ
  entries_size (last child) = size child
  entries_size (entry child key value rest) = size child + 1 + entries_size rest

mutual
  pub size_used : (format : Format) (p : Placed) → length (used p) ≡ size (tree_of format p)
  size_used format none = refl
  size_used format (head at l chain) = omega (arith, chain_size format chain)

  pub chain_size : (format : Format) (c : Chain) → length (chain_used c) ≡ entries_size
      (entries_of format c)
  chain_size format (end child) = size_used format child
  chain_size format (cell at child key value rest) =
      omega (
        arith,
        size_used format child,
        chain_size format rest,
        length-append (used child)
            (chain_used rest),
      )

-- ---- the entries of a node, and the tree before or after them

with_last : (es : Entries) → entry_count es + size (last_child es) ≤ entries_size es
with_last (last child) = omega arith
with_last (entry child key value rest) = omega (arith, with_last rest)

counted : (es : Entries) → entry_count es ≤ entries_size es
counted es = omega (arith, with_last es)

with_first_size : (es : Entries) → entry_count es + size (first_child es) ≤ entries_size es
with_first_size (last child) = omega arith
with_first_size (entry child key value rest) = omega (arith, counted rest)

-- ---- join

-- what a join of the last child takes at most, over a number
abbrev Takes : ℕ → (Tree → ℕ) → Type 0
Takes m inner = (b : Tree) → inner b ≤ m + size b

mutual
  join_node_le : (b : Tree) (n l m : ℕ) (inner : Tree → ℕ) → Takes m inner
      → join_node_rows n l inner b ≤ n + 1 + m + size b
  join_node_le empty n l m inner most = omega arith
  join_node_le (node g j fs) n l m inner most =
      at_layer (λ r. r ≤ n + 1 + m + (entries_size fs + 1)) j l
      (n + 1 + inner (node g j fs)) (n + entry_count fs + 1 + inner (first_child fs))
      (entry_count fs + 1 + join_first_rows n l inner fs)
      (λ less. omega (arith, most (node g j fs)))
      (λ same. omega (arith, most (first_child fs), with_first_size fs))
      (λ more. omega (arith, join_first_le fs n l m inner most, with_first_size fs))

  join_first_le : (fs : Entries) (n l m : ℕ) (inner : Tree → ℕ) → Takes m inner
      → join_first_rows n l inner fs ≤ n + 1 + m + size (first_child fs)
  join_first_le (last child) n l m inner most = join_node_le child n l m inner most
  join_first_le (entry child key value rest) n l m inner most = join_node_le child n l m inner most

mutual
  join_le : (a b : Tree) → join_rows a b ≤ size a + size b
  join_le empty b = omega arith
  join_le (node g l es) b =
      omega (
        arith,
        join_node_le b (entry_count es) l (size (last_child es)) (join_last_rows es)
            (join_last_le es),
        with_last es,
      )

  join_last_le : (es : Entries) (b : Tree) → join_last_rows es b ≤ size (last_child es) + size b
  join_last_le (last child) b = join_le child b
  join_last_le (entry child key value rest) b = join_last_le rest b

-- ---- remove

mutual
  pub remove_le : (t : Tree) (k : List ℕ) → remove_rows t k ≤ size t
  remove_le empty k = omega arith
  remove_le (node g l es) k =
      omega (arith, side_le (entry_count (entries_remove es k)) false, entries_remove_le es k)

  -- the entries that are left, and the rows below
  entries_remove_le : (es : Entries) (k : List ℕ) → entry_count (entries_remove es k)
      + entries_remove_rows es k ≤ entries_size es
  entries_remove_le (last child) k = omega (arith, remove_le child k)
  entries_remove_le (entry child key value rest) k =
      at_order (λ r. entry_count
      (by_order r (entry (tree_remove child k) key value rest)
      (with_first (join child (first_child rest)) rest)
      (entry child key value (entries_remove rest k))) + by_order r (remove_rows child k)
      (join_rows child (first_child rest)) (entries_remove_rows rest k) ≤ size child + 1
      + entries_size rest) k key
      (λ less. omega (arith, remove_le child k, counted rest))
      (λ same. omega (
        arith,
        join_le child (first_child rest),
        with_first_count rest
            (join child (first_child rest)),
        with_first_size rest,
      ))
      (λ more. omega (arith, entries_remove_le rest k))

-- ---- split and put

mutual
  split_le : (t : Tree) (k : List ℕ) → split_rows k t ≤ 2 * size t
  split_le empty k = omega arith
  split_le (node g l es) k =
      omega (
        arith,
        side_le (entry_count (entries_below k es)) (is_empty (above k (node g l es))),
        side_le (entry_count (entries_above k es)) (is_empty (below k (node g l es))),
        split_count es k,
        gap_le es k,
      )

  -- the entries, and the rows below
  gap_le : (es : Entries) (k : List ℕ) → entry_count es + gap_rows k es ≤ 2 * entries_size es
  gap_le (last child) k = omega (arith, split_le child k)
  gap_le (entry child key value rest) k =
      at_order (λ r. entry_count rest + 1 + by_order r (split_rows k child) 0 (gap_rows k rest)
      ≤ 2 * (size child + 1 + entries_size rest)) k key
      (λ less. omega (arith, split_le child k, counted rest))
      (λ same. omega (arith, counted rest))
      (λ more. omega (arith, gap_le rest k))

among_le : (es : Entries) (k v : List ℕ) → put_among_rows k v es ≤ 2 * entries_size es + 2
among_le es k v =
    let low = entries_below k es in
    omega (
      arith,
      seam_count low (entry (last_child low) k v (entries_above k es)),
      split_count es
          k,
      gap_le es k,
    )

mutual
  pub put_le : (t : Tree) (l : ℕ) (k v : List ℕ) → put_rows l k v t ≤ 2 * size t + 2
  put_le empty l k v = omega arith
  put_le (node g j es) l k v =
      at_layer (λ r. r ≤ 2 * (entries_size es + 1) + 2) j l
      (put_among_rows k v (last (node g j es))) (put_among_rows k v es)
      (entry_count es + 1 + put_gap_rows l k v es)
      (λ less. omega (arith, among_le (last (node g j es)) k v))
      (λ same. omega (arith, among_le es k v))
      (λ more. omega (arith, put_gap_le es l k v))

  put_gap_le : (es : Entries) (l : ℕ) (k v : List ℕ) → entry_count es + put_gap_rows l k v es
      ≤ 2 * entries_size es + 2
  put_gap_le (last child) l k v = omega (arith, put_le child l k v)
  put_gap_le (entry child key value rest) l k v =
      at_order (λ r. entry_count rest + 1 + by_order r (put_rows l k v child) 0
      (put_gap_rows l k v rest) ≤ 2 * (size child + 1 + entries_size rest) + 2) k key
      (λ less. omega (arith, put_le child l k v, counted rest))
      (λ same. omega (arith, counted rest))
      (λ more. omega (arith, put_gap_le rest l k v))

-- ---- whether so many rows are free

pub decided : (n f cost free : ℕ) → n ≡ cost → f ≡ free
    → MatchBool (nat_le n f) (cost ≤ free) (free < cost)
decided n f cost free counted is = go (nat_le n f) refl
  where
    go : (t : Bool) → nat_le n f ≡ t → MatchBool t (cost ≤ free) (free < cost)
    go true e = let le : n ≤ f = grind (arith, nat_tests) in omega (arith, le, counted, is)
    go false e = let lt : f < n = grind (arith, nat_tests) in omega (arith, lt, counted, is)
