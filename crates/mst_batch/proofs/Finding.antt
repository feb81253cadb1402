-- The plan of a batch: the whole tree as a part of itself, and what its items are.
use Rattle.mst_batch.proofs.Names.{◌≡◌, List, [], ◌++◌, Bor, inl, inr, refl, sym, ◌∙◌, ap, subst, Contains, AllByRecursion, batched, Pair, IsAscending, Format, Edit, IsAscending-batched, contains-first, pairs, pairs_tree, Content, Placed, none, head, tree_of, Stands, Root, placed_nodes, chain_nodes, mst_of, rises, items_pairs, IsItem, AreItems, listed, PartOf, AreUpdates, Updates, Item}
use Rattle.std.specs.Prelude.{◌⊎◌}

pub own_part : (p : Placed) → (p ≡ none) ⊎ Contains (placed_nodes p) p
own_part none = inl refl
own_part (head at layer chain) =
    inr (contains-first (head at layer chain) (chain_nodes chain) (head at layer chain) refl)

module _ (format : Format) (c : Content) (root : Root) (m : List Pair)
    (st : Stands format c root m) where
  abbrev pub whole_part : PartOf format c st.tree.placed root.link
  whole_part = record {
    rows = st.tree.rows;
    search = mst_of format st.tree.placed m st.tree.is;
    rise = rises format c root m st;
    placed = st.tree.placed;
    at = st.tree.at;
    part = own_part st.tree.placed;
  }

  -- ---- edits that put values at keys of the map fall into the whole tree

  abbrev pub whole_updates : (es : List Edit) → AreUpdates m es → Updates format c root m root.link
      es
  whole_updates es are = record {
    stands = st;
    part = whole_part;
    each = subst (λ (k : List Pair). AreUpdates k es)
        (sym (ap pairs st.tree.is ∙ pairs_tree format m)) are;
  }

  -- the sorted edits leave what the edits leave
  pub after_sorted : (es : List Edit) (normal ns : List (Bor Edit)) → ns ≡ normal
      → batched m (listed normal) ≡ batched m es
      → batched (pairs (tree_of format st.tree.placed)) (listed ns) ≡ batched m es
  after_sorted es normal ns sorted same =
      ap (λ (ys : List (Bor Edit)). batched (pairs (tree_of format st.tree.placed)) (listed ys))
      sorted
      ∙ ap (λ (ps : List Pair). batched ps (listed normal))
      (ap pairs st.tree.is ∙ pairs_tree format m) ∙ same

  -- ---- the items that are found from none on

  module _ (no_items found xs : List Item) (es : List Edit) (normal ns : List (Bor Edit))
      (from : no_items ≡ []) (all : xs ≡ found) (sorted : ns ≡ normal)
      (same : batched m (listed normal) ≡ batched m es)
      (is : items_pairs format st.tree.placed found ≡ items_pairs format st.tree.placed no_items
      ++ batched (pairs (tree_of format st.tree.placed)) (listed ns)) where
    pub pairs_are : items_pairs format st.tree.placed xs ≡ batched m es
    pairs_are = ap (items_pairs format st.tree.placed) all
        ∙ is
        ∙ ap (λ (ys : List Item). items_pairs format st.tree.placed ys
        ++ batched (pairs (tree_of format st.tree.placed)) (listed ns)) from
        ∙ after_sorted es normal ns sorted same

    pub items_are : (AllByRecursion (IsItem format st.tree.placed) no_items
        → AllByRecursion (IsItem format st.tree.placed) found) → AreItems format st.tree.placed xs
    items_are each = record {
      each =
          subst (AllByRecursion (IsItem format st.tree.placed)) (sym all)
          (each (subst (AllByRecursion (IsItem format st.tree.placed)) (sym from) tt));
      rise = subst IsAscending (sym pairs_are) (IsAscending-batched m es st.map.ascending);
    }
