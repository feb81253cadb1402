-- What stands in a tree: the tree itself and all trees below its nodes.
use Rattle.mst_node.proofs.Names.{◌≡◌, Bool, true, false, ◌||◌, ◌⊎◌, inl, inr, ◌∷◌, refl, sym, subst, ◌∙◌, true≢false, list_any-append, or_cases, AllByRecursion, list_any, Pair, alls-back, Tree, empty, node, Entries, last, entry, pairs, entries_pairs, subtrees, entries_subtrees, same_tree, is_subtree}
use Rattle.std.proofs.lemmas.Bool.{false_from_ne_true}
use Rattle.mst_key.proofs.Alls.{alls-front}
use Rattle.mst_node.proofs.SameTrees.{tree_from_same, same_from_tree}
use Rattle.mst_node.proofs.VersionLists.{true_or}

abbrev mutual
  pub InTree : Tree → Tree → Type 0
  InTree s empty = ⊥
  InTree s (node g l es) = (s ≡ node g l es) ⊎ InEntries s es

  pub InEntries : Tree → Entries → Type 0
  InEntries s (last child) = InTree s child
  InEntries s (entry child key value rest) = InTree s child ⊎ InEntries s rest

mutual
  in_from_test : (t s : Tree) → list_any (same_tree s) (subtrees t) ≡ true → InTree s t
  in_from_test empty s e = absurd (true≢false (sym e))
  in_from_test (node g l es) s e =
      elim (or_cases (same_tree s (node g l es)) (list_any (same_tree s) (entries_subtrees es))
      e) [
        | inl is ↦ inl (tree_from_same s (node g l es) is)
        | inr is ↦ inr (in_entries_from_test es s is)
      ]

  in_entries_from_test : (es : Entries) (s : Tree) → list_any (same_tree s) (entries_subtrees es)
      ≡ true → InEntries s es
  in_entries_from_test (last child) s e = in_from_test child s e
  in_entries_from_test (entry child key value rest) s e =
      elim (or_cases (list_any (same_tree s) (subtrees child))
      (list_any (same_tree s) (entries_subtrees rest))
      (sym (list_any-append (same_tree s) (subtrees child) (entries_subtrees rest)) ∙ e)) [
        | inl is ↦ inl (in_from_test child s is)
        | inr is ↦ inr (in_entries_from_test rest s is)
      ]

mutual
  test_from_in : (t s : Tree) → InTree s t → list_any (same_tree s) (subtrees t) ≡ true
  test_from_in empty s is = absurd is
  test_from_in (node g l es) s (inl is) = true_or (same_tree s (node g l es))
      (list_any (same_tree s) (entries_subtrees es)) (inl (same_from_tree s (node g l es) is))
  test_from_in (node g l es) s (inr is) = true_or (same_tree s (node g l es))
      (list_any (same_tree s) (entries_subtrees es)) (inr (test_from_in_entries es s is))

  test_from_in_entries : (es : Entries) (s : Tree) → InEntries s es → list_any (same_tree s)
      (entries_subtrees es) ≡ true
  test_from_in_entries (last child) s is = test_from_in child s is
  test_from_in_entries (entry child key value rest) s (inl is) =
      list_any-append (same_tree s) (subtrees child) (entries_subtrees rest)
      ∙ true_or (list_any (same_tree s) (subtrees child))
      (list_any (same_tree s) (entries_subtrees rest)) (inl (test_from_in child s is))
  test_from_in_entries (entry child key value rest) s (inr is) =
      list_any-append (same_tree s) (subtrees child) (entries_subtrees rest)
      ∙ true_or (list_any (same_tree s) (subtrees child))
      (list_any (same_tree s) (entries_subtrees rest)) (inr (test_from_in_entries rest s is))

pub in_old : (s old : Tree) → is_subtree s old ≡ true → InTree s old
in_old s old is = in_from_test old s is

pub is_old : (s old : Tree) → InTree s old → is_subtree s old ≡ true
is_old s old is = test_from_in old s is

pub is_new : (s old : Tree) → (InTree s old → ⊥) → is_subtree s old ≡ false
is_new s old absent = false_from_ne_true (is_subtree s old) (λ e. absent (in_from_test old s e))

module _ (P : Pair → Type 0) where
  -- what holds of the pairs of a tree holds of those of each tree in it
  mutual
    pub pairs_hold : (t s : Tree) → InTree s t → AllByRecursion P (pairs t) → AllByRecursion P
        (pairs s)
    pairs_hold empty s is all = absurd is
    pairs_hold (node g l es) s (inl is) all = subst (λ (u : Tree). AllByRecursion P (pairs u))
        (sym is) all
    pairs_hold (node g l es) s (inr is) all = entries_pairs_hold es s is all

    pub entries_pairs_hold : (es : Entries) (s : Tree) → InEntries s es → AllByRecursion P
        (entries_pairs es) → AllByRecursion P (pairs s)
    entries_pairs_hold (last child) s is all = pairs_hold child s is all
    entries_pairs_hold (entry child key value rest) s (inl is) all =
        pairs_hold child s is (alls-front P (pairs child) ((key, value) ∷ entries_pairs rest) all)
    entries_pairs_hold (entry child key value rest) s (inr is) all =
        entries_pairs_hold rest s is
        (alls-back P (pairs child) ((key, value) ∷ entries_pairs rest) all).1
