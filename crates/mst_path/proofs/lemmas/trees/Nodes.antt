-- How many rows a tree takes, and what is known of the children of a node.
use Rattle.mst_path.proofs.Names.{Format, ◌≡◌, ℕ, zero, suc, ◌+◌, ◌*◌, ◌<◌, ◌≤◌, ◌==◌, Bool, true, false, cond, List, [], ◌∷◌, ◌++◌, length, map, take, get_or, refl, sym, ◌∙◌, ap, subst, arith, length-append, length-map, sha256, One, Tree, empty, node, Entries, last, entry, pairs, entries_pairs, entry_count, IsMst, IsMstEntries, TreeEntry, with_entries, tree_of_child, tree_entry, out-Node, out-Entry, Placed, none, head, Chain, end, cell, tree_of, entries_of, used, chain_used, highest_layer, node_count, entries_node_count, rows_needed}
use Rattle.std.proofs.Math.Seq.{take-length}
use Rattle.std.proofs.lemmas.List.{map_more}
use Rattle.sha2.proofs.Facts256.{length-sha256}
use Rattle.mst_key.specs.declared.format.Format.TheVariants.{Two}
use Rattle.mst_key.specs.Layer.{layer_in, digits, zeros_in_front}
use Rattle.mst_node.specs.Shape.{tree_of as tree_of_node}
use Rattle.mst_node.specs.declared.node.Node.{Node}
use Rattle.mst_node.specs.declared.node.Entry.{Entry}
use Rattle.mst_node.proofs.NodeShapes.{tree_of_out, tree_entry_out}

-- ---- how many rows

-- the rows of entries and of the trees before them
abbrev pub entries_needed : List TreeEntry → ℕ
entries_needed [] = 0
entries_needed (x ∷ xs) = rows_needed x.child + 1 + entries_needed xs

entries_sum : (xs : List TreeEntry) (t : Tree) → length (entries_pairs (with_entries xs (last t)))
    + entries_node_count (with_entries xs (last t)) ≡ entries_needed xs + rows_needed t
entries_sum [] t = omega arith
entries_sum (x ∷ xs) t =
    omega (
      arith,
      entries_sum xs t,
      length-append (pairs x.child)
          ((x.key, x.value) ∷ entries_pairs (with_entries xs (last t))),
    )

pub needed_node : (format : Format) (l : ℕ) (xs : List TreeEntry) (t : Tree)
    → rows_needed (node format l (with_entries xs (last t))) ≡ 1 + entries_needed xs + rows_needed t
needed_node format l xs t = omega (arith, entries_sum xs t)

pub needed_append : (xs ys : List TreeEntry) → entries_needed (xs ++ ys) ≡ entries_needed xs
    + entries_needed ys
needed_append [] ys = omega arith
needed_append (x ∷ xs) ys = omega (arith, needed_append xs ys)

-- each entry to come takes at least a row
pub needed_take : (X : Type 0) (f : X → TreeEntry) (xs : List X) (i : ℕ) → i ≤ length xs
    → entries_needed (map f (take i xs)) + length xs ≤ entries_needed (map f xs) + i
needed_take X f [] zero h = omega arith
needed_take X f [] (suc i) h = absurd (omega arith)
needed_take X f (x ∷ xs) zero h = omega (arith, needed_take X f xs 0 (omega arith))
needed_take X f (x ∷ xs) (suc i) h = omega (arith, needed_take X f xs i (omega arith))

mutual
  pub used_count : (format : Format) (p : Placed) → length (used p) ≡ rows_needed (tree_of format p)
  used_count format none = refl
  used_count format (head at l chain) = omega (arith, chain_count format chain)

  pub chain_count : (format : Format) (c : Chain) → length (chain_used c) ≡ length
      (entries_pairs (entries_of format c)) + entries_node_count (entries_of format c)
  chain_count format (end child) = used_count format child
  chain_count format (cell at child key value rest) =
      omega (
        arith,
        used_count format child,
        chain_count format rest,
        length-append (used child)
            (chain_used rest),
        length-append (pairs (tree_of format child))
            ((key, value) ∷ entries_pairs (entries_of format rest)),
      )

-- no more nodes than pairs
mutual
  pub nodes_le : (format : Format) (t : Tree) → IsMst format t → node_count t ≤ length (pairs t)
  nodes_le format empty mst = omega arith
  nodes_le format (node f l es) mst = omega (arith, nodes_in format l es mst.2, mst.1)

  nodes_in : (format : Format) (l : ℕ) (es : Entries) → IsMstEntries format l es
      → entries_node_count es + entry_count es ≤ length (entries_pairs es)
  nodes_in format l (last child) mst = omega (arith, nodes_le format child mst.1)
  nodes_in format l (entry child key value rest) mst =
      omega (
        arith,
        nodes_le format child mst.1,
        nodes_in format l rest mst.3,
        length-append
            (pairs child) ((key, value) ∷ entries_pairs rest),
      )

-- ---- layers

zeros_le : (ds : List ℕ) → zeros_in_front ds ≤ length ds
zeros_le [] = omega arith
zeros_le (d ∷ ds) = go (d == 0) (zeros_le ds)
  where
    go : (t : Bool) → zeros_in_front ds ≤ length ds → cond t (zeros_in_front ds + 1) 0 ≤ suc
        (length ds)
    go true h = omega arith
    go false h = omega arith

digits_length : (format : Format) (bs : List ℕ) → length (digits format bs) ≤ 4 * length bs
digits_length One [] = omega arith
digits_length Two [] = omega arith
digits_length One (b ∷ bs) = omega (arith, digits_length One bs)
digits_length Two (b ∷ bs) = omega (arith, digits_length Two bs)

pub layer_le : (format : Format) (key : List ℕ) → layer_in format key ≤ highest_layer
unfolding layer_in
layer_le format key =
    omega (
      arith,
      zeros_le (digits format (sha256 key)),
      digits_length format (sha256 key),
      length-sha256 key,
    )

pub layer_of_entries : (format : Format) (l : ℕ) (es : Entries) → 0 < entry_count es
    → IsMstEntries format l es → l ≤ highest_layer
layer_of_entries format l (last child) some mst = absurd (omega arith)
layer_of_entries format l (entry child key value rest) some mst =
    omega (arith, layer_le format key, mst.2)

entry_count_with : (xs : List TreeEntry) (t : Tree) → entry_count (with_entries xs (last t))
    ≡ length xs
entry_count_with [] t = refl
entry_count_with (x ∷ xs) t = omega (arith, entry_count_with xs t)

-- ---- a node of the program

mst_child : (format : Format) (A : Type 0) (l : ℕ) (items : List (Entry A)) (i : ℕ) (e : Entry A)
    (t : Tree) → i < length items → e ≡ get_or items i e → IsMstEntries format l
    (with_entries (map (tree_entry format) items) (last t))
    → IsMst format (tree_entry format e).child
mst_child format A l [] i e t h is mst = absurd (omega arith)
mst_child format A l (d ∷ items) zero e t h is mst =
    subst (λ (y : Entry A). IsMst format (tree_entry format y).child) (sym is) mst.1
mst_child format A l (d ∷ items) (suc i) e t h is mst =
    mst_child format A l items i e t (omega arith) is mst.3

mst_last : (format : Format) (l : ℕ) (xs : List TreeEntry) (t : Tree) → IsMstEntries format l
    (with_entries xs (last t)) → IsMst format t
mst_last format l [] t mst = mst.1
mst_last format l (x ∷ xs) t mst = mst_last format l xs t mst.3

module _ (format : Format) (A : Type 0) (n : Node A) where
  abbrev pub items : List (Entry A)
  items = (out-Node A n).entries.items

  abbrev pub tail : Tree
  tail = tree_of_child format (out-Node A n).tail

  pub node_out : tree_of_node format n ≡ node format (out-Node A n).layer
      (with_entries (map (tree_entry format) items) (last tail))
  node_out = tree_of_out A format n

  pub node_needed : rows_needed (tree_of_node format n) ≡ 1 + entries_needed
      (map (tree_entry format) items) + rows_needed tail
  node_needed = ap rows_needed node_out ∙ needed_node format (out-Node A n).layer
      (map (tree_entry format) items) tail

  node_mst : IsMst format (tree_of_node format n)
      → IsMst format
      (node format (out-Node A n).layer (with_entries (map (tree_entry format) items) (last tail)))
  node_mst mst = subst (IsMst format) node_out mst

  pub node_some : IsMst format (tree_of_node format n) → 0 < length items
  node_some mst =
      let is = node_mst mst in
      omega (
        arith,
        is.1,
        entry_count_with (map (tree_entry format) items) tail,
        length-map
            {B = TreeEntry} items (tree_entry format),
      )

  pub node_layer : IsMst format (tree_of_node format n) → (out-Node A n).layer ≤ highest_layer
  node_layer mst =
      let is = node_mst mst in
      layer_of_entries format (out-Node A n).layer
      (with_entries (map (tree_entry format) items) (last tail)) is.1 is.2

  pub node_child : (i : ℕ) (e : Entry A) → IsMst format (tree_of_node format n) → i < length items
      → e ≡ get_or items i e → IsMst format (tree_of_child format (out-Entry A e).child)
  node_child i e mst h is =
      subst (λ (x : TreeEntry). IsMst format x.child) (tree_entry_out A format e)
      (mst_child format A (out-Node A n).layer items i e tail h is (node_mst mst).2)

  pub node_last : IsMst format (tree_of_node format n) → IsMst format tail
  node_last mst = mst_last format (out-Node A n).layer (map (tree_entry format) items) tail
      (node_mst mst).2

  -- the entries up to the next one
  pub entries_more : (i : ℕ) (e : Entry A) → i < length items → e ≡ get_or items i e
      → map (tree_entry format) (take (i + 1) items) ≡ map (tree_entry format) (take i items)
      ++ record {
        child = tree_of_child format (out-Entry A e).child;
        key = (out-Entry A e).key;
        value = (out-Entry A e).value;
      } ∷ []
  entries_more i e h is =
      map_more {Y = TreeEntry} (tree_entry format) items i e h
      ∙ ap (λ (y : Entry A). map (tree_entry format) (take i items) ++ tree_entry format y ∷ [])
      (sym is)
      ∙ ap (λ (x : TreeEntry). map (tree_entry format) (take i items) ++ x ∷ [])
      (tree_entry_out A format e)

  -- how many rows they take
  pub needed_more : (i : ℕ) (e : Entry A) → i < length items → e ≡ get_or items i e
      → entries_needed (map (tree_entry format) (take (i + 1) items)) ≡ entries_needed
      (map (tree_entry format) (take i items)) + rows_needed
      (tree_of_child format (out-Entry A e).child) + 1
  needed_more i e h is =
      ap entries_needed (entries_more i e h is)
      ∙ needed_append (map (tree_entry format) (take i items))
      (record {
        child = tree_of_child format (out-Entry A e).child;
        key = (out-Entry A e).key;
        value = (out-Entry A e).value;
      } ∷ [])
      ∙ omega arith

  -- they and those of the next entry are among the node's
  pub needed_ahead : (i : ℕ) (e : Entry A) → i < length items → e ≡ get_or items i e
      → entries_needed (map (tree_entry format) (take i items)) + rows_needed
      (tree_of_child format (out-Entry A e).child) + length items + 1 ≤ rows_needed
      (tree_of_node format n) + i
  needed_ahead i e h is =
      omega (
        arith,
        node_needed,
        needed_more i e h is,
        needed_take _ (tree_entry format) items
            (i + 1) (omega arith),
      )

  pub needed_least : length items + 1 ≤ rows_needed (tree_of_node format n)
  needed_least = omega (arith, node_needed, needed_take _ (tree_entry format) items 0 (omega arith))

  -- all entries
  pub take_all : (i : ℕ) → i ≡ length items → map (tree_entry format) (take i items) ≡ map
      (tree_entry format) items
  take_all i all = ap (λ (xs : List (Entry A)). map (tree_entry format) xs)
      (ap (λ (k : ℕ). take k items) all ∙ take-length items)
