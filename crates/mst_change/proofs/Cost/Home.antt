-- Where a node stands in a tree: each key stands in one node, so a node is found again by any key
-- of its own.
use Rattle.mst_change.proofs.Names.{◌≡◌, ℕ, ◌<◌, ◌≤◌, length, length-append, arith, inl, inr, List, ◌∷◌, refl, sym, ap, subst, ◌∙◌, Less, Equal, Greater, AllByRecursion, Format, Pair, key_cmp, IsAscending, alls-back, equal_from_same, greater_from_less, IsAscending-below, IsAscending-above, Tree, empty, node, Entries, last, entry, entry_count, pairs, entries_pairs, with_entries, by_order, cells, first_child, with_first, node_of, below, entries_below, above, entries_above, join, tree_remove, entries_remove, InTree, InEntries, pairs_hold}
use Rattle.std.proofs.Common.{◌⊎◌}
use Rattle.mst_change.proofs.Choices.{at_key}
use Rattle.mst_node.proofs.InTrees.{entries_pairs_hold}
use Rattle.mst_change.proofs.Split.Trees.{rest_rises, child_rises}
use Rattle.mst_change.proofs.Choices.{chosen}

-- ---- the keys of a node

abbrev pub HasKey : List ℕ → Entries → Type 0
HasKey q (last child) = ⊥
HasKey q (entry child key value rest) = (q ≡ key) ⊎ HasKey q rest

abbrev pub TopKey : List ℕ → Tree → Type 0
TopKey q empty = ⊥
TopKey q (node g l es) = HasKey q es

module _ (P : List ℕ → Type 0) where
  pub key_holds : (es : Entries) (q : List ℕ) → HasKey q es → AllByRecursion (λ p. P p.0)
      (entries_pairs es) → P q
  key_holds (last child) q has all = absurd has
  key_holds (entry child key value rest) q (inl is) all =
      subst P (sym is) (alls-back (λ p. P p.0) (pairs child) ((key, value) ∷ entries_pairs rest)
      all).0
  key_holds (entry child key value rest) q (inr has) all =
      key_holds rest q has (alls-back (λ p. P p.0) (pairs child) ((key, value) ∷ entries_pairs rest)
      all).1

  pub top_key_holds : (s : Tree) (q : List ℕ) → TopKey q s → AllByRecursion (λ p. P p.0) (pairs s)
      → P q
  top_key_holds empty q has all = absurd has
  top_key_holds (node g l es) q has all = key_holds es q has all

-- ---- the node that has a key

abbrev mutual
  home : List ℕ → Tree → Tree
  home q empty = empty
  home q (node g l es) = home_in q (node g l es) es

  home_in : List ℕ → Tree → Entries → Tree
  home_in q whole (last child) = home q child
  home_in q whole (entry child key value rest) = by_order (key_cmp q key) (home q child) whole
      (home_in q whole rest)

home_here : (es : Entries) (whole : Tree) (q : List ℕ) → IsAscending (entries_pairs es)
    → HasKey q es → home_in q whole es ≡ whole
home_here (last child) whole q rise has = absurd has
home_here (entry child key value rest) whole q rise (inl is) =
    chosen (key_cmp q key) Equal (home q child) whole (home_in q whole rest)
    (equal_from_same q key is)
home_here (entry child key value rest) whole q rise (inr has) =
    let less = key_holds (λ (x : List ℕ). key_cmp key x ≡ Less) rest q has
    (IsAscending-above (pairs child) (entries_pairs rest) (key, value) rise) in
    chosen (key_cmp q key) Greater (home q child) whole (home_in q whole rest)
    (greater_from_less key q less) ∙ home_here rest whole q
    (rest_rises child key value rest rise) has

mutual
  home_of : (t s : Tree) (q : List ℕ) → IsAscending (pairs t) → InTree s t → TopKey q s
      → home q t ≡ s
  home_of empty s q rise is has = absurd is
  home_of (node g l es) s q rise (inl is) has =
      home_here es (node g l es) q rise (subst (TopKey q) is has) ∙ sym is
  home_of (node g l es) s q rise (inr is) has = home_in_of es (node g l es) s q rise is has

  home_in_of : (es : Entries) (whole s : Tree) (q : List ℕ) → IsAscending (entries_pairs es)
      → InEntries s es → TopKey q s → home_in q whole es ≡ s
  home_in_of (last child) whole s q rise is has = home_of child s q rise is has
  home_in_of (entry child key value rest) whole s q rise (inl is) has =
      let less = top_key_holds (λ (x : List ℕ). key_cmp x key ≡ Less) s q has
      (pairs_hold (λ (p : Pair). key_cmp p.0 key ≡ Less) child s is
      (IsAscending-below (pairs child) (entries_pairs rest) (key, value) rise)) in
      chosen (key_cmp q key) Less (home q child) whole (home_in q whole rest) less
      ∙ home_of child s q (child_rises child key value rest rise) is has
  home_in_of (entry child key value rest) whole s q rise (inr is) has =
      let less = top_key_holds (λ (x : List ℕ). key_cmp key x ≡ Less) s q has
      (entries_pairs_hold (λ (p : Pair). key_cmp key p.0 ≡ Less) rest s is
      (IsAscending-above (pairs child) (entries_pairs rest) (key, value) rise)) in
      chosen (key_cmp q key) Greater (home q child) whole (home_in q whole rest)
      (greater_from_less key q less) ∙ home_in_of rest whole s q
      (rest_rises child key value rest rise) is has

-- Two nodes of one tree that share a key are one.
pub one_home : (old s u : Tree) (q : List ℕ) → IsAscending (pairs old) → InTree s old → InTree u old
    → TopKey q s → TopKey q u → s ≡ u
one_home old s u q rise is also has shares = sym (home_of old s q rise is has)
    ∙ home_of old u q rise also shares

-- a node that shares a key with a node of the tree, but not all its pairs, is not in the tree
pub new_by_key : (old n u : Tree) (q : List ℕ) → IsAscending (pairs old) → InTree n old → TopKey q n
    → TopKey q u → (pairs u ≡ pairs n → ⊥) → InTree u old → ⊥
new_by_key old n u q rise is has shares other also =
    other (ap pairs (one_home old u n q rise also is shares has))

-- ---- keys of entries that are put together

pub some_key : (es : Entries) → 0 < entry_count es → (q : List ℕ) × HasKey q es
some_key (last child) some = absurd (omega arith)
some_key (entry child key value rest) some = (key, inl refl)

pub node_of_key : (es : Entries) (g : Format) (l : ℕ) (q : List ℕ) → HasKey q es
    → TopKey q (node_of g l es)
node_of_key (last child) g l q has = absurd has
node_of_key (entry child key value rest) g l q has = has

pub seam_key : (es fs : Entries) (q : List ℕ) → HasKey q es → HasKey q (with_entries (cells es) fs)
seam_key (last child) fs q has = absurd has
seam_key (entry child key value rest) fs q (inl is) = inl is
seam_key (entry child key value rest) fs q (inr has) = inr (seam_key rest fs q has)

pub with_first_key : (fs : Entries) (new : Tree) (q : List ℕ) → HasKey q (with_first new fs)
    → HasKey q fs
with_first_key (last child) new q has = has
with_first_key (entry child key value rest) new q has = has

pub below_key : (es : Entries) (k q : List ℕ) → HasKey q (entries_below k es) → HasKey q es
below_key (last child) k q = λ has. has
below_key (entry child key value rest) k q =
    at_key (λ es. HasKey q es → HasKey q (entry child key value rest)) k key (last (below k child))
    (last child) (entry child key value (entries_below k rest))
    (λ less has. absurd has) (λ same has. absurd has)
    (λ more has. elim has [ inl is ↦ inl is | inr among ↦ inr (below_key rest k q among) ])

pub above_key : (es : Entries) (k q : List ℕ) → HasKey q (entries_above k es) → HasKey q es
above_key (last child) k q = λ has. has
above_key (entry child key value rest) k q =
    at_key (λ es. HasKey q es → HasKey q (entry child key value rest)) k key
    (entry (above k child) key value rest) rest (entries_above k rest)
    (λ less has. has) (λ same has. inr has) (λ more has. inr (above_key rest k q has))

pub remove_key : (es : Entries) (k q : List ℕ) → HasKey q (entries_remove es k) → HasKey q es
remove_key (last child) k q = λ has. has
remove_key (entry child key value rest) k q =
    at_key (λ es. HasKey q es → HasKey q (entry child key value rest)) k key
    (entry (tree_remove child k) key value rest)
    (with_first (join child (first_child rest)) rest)
    (entry child key value (entries_remove rest k))
    (λ less has. has) (λ same has. inr (with_first_key rest (join child (first_child rest)) q has))
    (λ more has. elim has [ inl is ↦ inl is | inr among ↦ inr (remove_key rest k q among) ])

-- a node has no fewer pairs than entries
pub count_le_pairs : (es : Entries) → entry_count es ≤ length (entries_pairs es)
count_le_pairs (last child) = omega arith
count_le_pairs (entry child key value rest) =
    omega (
      arith,
      count_le_pairs rest,
      length-append (pairs child)
          ((key, value) ∷ entries_pairs rest),
    )
