-- The rows of the nodes that a put or a remove makes new, counted along its path: one row for each
-- entry of a new node, and one for the node.
use Rattle.std.specs.Prelude.{ℕ, ◌+◌, ◌==◌, ◌||◌, nat_lt, if◌then◌else◌, Bool, false, List}
use Rattle.std.specs.Option.{option_map_or}
use Rattle.mst_key.specs.declared.format.Format.{Format}
use Rattle.mst_key.specs.Layer.{layer_in}
use Rattle.mst_key.specs.Map.{key_cmp, map_get}
use Rattle.mst_node.specs.Tree.{Tree, empty, node, Entries, last, entry, entry_count, pairs}
use Rattle.mst_node.specs.Trail.{by_order}
use Rattle.mst_node.specs.Cost.{same_bytes}
use Rattle.mst_change.specs.Parts.{first_child, is_empty}
use Rattle.mst_change.specs.Split.{below, above, entries_below, entries_above}
use Rattle.mst_change.specs.Put.{put_among}
use Rattle.mst_change.specs.Remove.{entries_remove}

-- ---- split

-- One side of a node that is split, with this many entries: it is no node if it has none, and no
-- new one if it is the whole node, since nothing goes to the other side.
abbrev pub side_rows : ℕ → Bool → ℕ
side_rows n whole = if n == 0 || whole then 0 else n + 1

abbrev mutual
  pub split_rows : List ℕ → Tree → ℕ
  split_rows k empty = 0
  split_rows k (node format l es) =
      side_rows (entry_count (entries_below k es)) (is_empty (above k (node format l es)))
      + side_rows (entry_count (entries_above k es)) (is_empty (below k (node format l es)))
      + gap_rows k es

  -- the child of the gap that the key falls in
  pub gap_rows : List ℕ → Entries → ℕ
  gap_rows k (last child) = split_rows k child
  gap_rows k (entry child key value rest) =
      by_order (key_cmp k key) (split_rows k child) 0 (gap_rows k rest)

-- ---- put

abbrev pub put_among_rows : List ℕ → List ℕ → Entries → ℕ
put_among_rows k v es = entry_count (put_among k v es) + 1 + gap_rows k es

abbrev mutual
  pub put_rows : ℕ → List ℕ → List ℕ → Tree → ℕ
  put_rows l k v empty = 2
  put_rows l k v (node g j es) =
      if nat_lt j l then put_among_rows k v (last (node g j es))
      else if j == l then put_among_rows k v es
      else entry_count es + 1 + put_gap_rows l k v es

  pub put_gap_rows : ℕ → List ℕ → List ℕ → Entries → ℕ
  put_gap_rows l k v (last child) = put_rows l k v child
  put_gap_rows l k v (entry child key value rest) =
      by_order (key_cmp k key) (put_rows l k v child) 0 (put_gap_rows l k v rest)

-- a put that changes nothing makes nothing new
abbrev pub put_cost : Format → Tree → List ℕ → List ℕ → ℕ
put_cost format t k v = if option_map_or (same_bytes v) (map_get (pairs t) k) false then 0
    else put_rows (layer_in format k) k v t

-- ---- join

-- A node of `n` entries, of which the last child is joined by `inner`, with the tree after it.
abbrev mutual
  pub join_node_rows : ℕ → ℕ → (Tree → ℕ) → Tree → ℕ
  join_node_rows n l inner empty = 0
  join_node_rows n l inner (node g j fs) =
      if nat_lt j l then n + 1 + inner (node g j fs)
      else if j == l then n + entry_count fs + 1 + inner (first_child fs)
      else entry_count fs + 1 + join_first_rows n l inner fs

  pub join_first_rows : ℕ → ℕ → (Tree → ℕ) → Entries → ℕ
  join_first_rows n l inner (last child) = join_node_rows n l inner child
  join_first_rows n l inner (entry child key value rest) = join_node_rows n l inner child

abbrev mutual
  pub join_rows : Tree → Tree → ℕ
  join_rows empty b = 0
  join_rows (node format l es) b = join_node_rows (entry_count es) l (join_last_rows es) b

  pub join_last_rows : Entries → Tree → ℕ
  join_last_rows (last child) b = join_rows child b
  join_last_rows (entry child key value rest) b = join_last_rows rest b

-- ---- remove

abbrev mutual
  pub remove_rows : Tree → List ℕ → ℕ
  remove_rows empty k = 0
  remove_rows (node format l es) k =
      side_rows (entry_count (entries_remove es k)) false + entries_remove_rows es k

  pub entries_remove_rows : Entries → List ℕ → ℕ
  entries_remove_rows (last child) k = remove_rows child k
  entries_remove_rows (entry child key value rest) k =
      by_order (key_cmp k key) (remove_rows child k) (join_rows child (first_child rest))
      (entries_remove_rows rest k)

-- a remove of a key that is not there makes nothing new
abbrev pub remove_cost : Tree → List ℕ → ℕ
remove_cost t k = option_map_or (λ v. remove_rows t k) (map_get (pairs t) k) 0
