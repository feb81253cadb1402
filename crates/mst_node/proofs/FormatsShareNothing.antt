-- Trees of two formats share no subtree, so a map that changes its format has all its nodes anew.
use Rattle.mst_node.proofs.Names.{◌≡◌, ℕ, ◌+◌, ◌==◌, Bool, true, false, not, cond, ◌&&◌, ◌||◌, List, [], ◌∷◌, ◌++◌, length, length-append, refl, ◌∙◌, ap, arith, true≢false, list_any, list_any-append, Format, Pair, Tree, empty, node, Entries, last, entry, entry_count, pairs, entries_pairs, tree, IsMst, IsMstEntries, subtrees, entries_subtrees, same_format, same_tree, same_entries, is_subtree}
use Rattle.std.proofs.lemmas.Bool.{or_from}
use Rattle.mst_node.specs.Cost.{new_rows}
use Rattle.mst_node.proofs.Weights.{weigh, weigh_is, weigh-append}
use Rattle.mst_node.proofs.UniqueTree.{pairs_tree, tree_mst}

-- a test that no element of two lists passes
pub none_either : (p : Tree → Bool) (xs ys : List Tree) → list_any p xs ≡ false → list_any p ys
    ≡ false
    → list_any p (xs ++ ys) ≡ false
none_either p xs ys a b =
    list_any-append p xs ys ∙ or_from (list_any p xs) (list_any p ys) a b

module _ (f g : Format) (other : same_format g f ≡ false) where
  module _ (l : ℕ) (es : Entries) where
    not_same : (h : Format) (k : ℕ) (fs : Entries) → h ≡ f → same_tree (node g l es) (node h k fs)
        ≡ false
    not_same h k fs is = ap (λ (x : Format). same_format g x && (l == k) && same_entries es fs) is
        ∙ ap (λ (b : Bool). b && (l == k) && same_entries es fs) other

    mutual
      none_in : (t : Tree) → IsMst f t → is_subtree (node g l es) t ≡ false
      none_in empty mst = refl
      none_in (node h k fs) mst =
          ap (λ (b : Bool). b || list_any (same_tree (node g l es)) (entries_subtrees fs))
          (not_same h k fs mst.0) ∙ none_below k fs mst.2

      none_below : (k : ℕ) (fs : Entries) → IsMstEntries f k fs → list_any (same_tree (node g l es))
          (entries_subtrees fs) ≡ false
      none_below k (last child) mst = none_in child mst.1
      none_below k (entry child key value rest) mst =
          none_either (same_tree (node g l es)) (subtrees child) (entries_subtrees rest)
          (none_in child mst.1) (none_below k rest mst.3)

  module _ (old : Tree) (old_mst : IsMst f old) where
    abbrev is_new : Tree → Bool
    is_new t = not (is_subtree t old)

    mutual
      all_new : (t : Tree) → IsMst g t → weigh is_new (subtrees t) ≡ length (pairs t) + length
          (subtrees t)
      all_new empty mst = refl
      all_new (node h l es) mst =
          let here : is_subtree (node h l es) old ≡ false =
          ap (λ (x : Format). is_subtree (node x l es) old) mst.0 ∙ none_in l es old old_mst in
          let one : cond (is_new (node h l es)) (entry_count es + 1) 0 ≡ entry_count es + 1 =
          ap (λ (b : Bool). cond (not b) (entry_count es + 1) 0) here in
          omega (arith, one, all_below l es mst.2)

      all_below : (l : ℕ) (es : Entries) → IsMstEntries g l es → entry_count es + weigh is_new
          (entries_subtrees es) ≡ length (entries_pairs es) + length (entries_subtrees es)
      all_below l (last child) mst = omega (arith, all_new child mst.1)
      all_below l (entry child key value rest) mst =
          omega (
            arith,
            all_new child mst.1,
            all_below l rest mst.3,
            weigh-append is_new
                (subtrees child) (entries_subtrees rest),
            length-append (pairs child)
                ((key, value) ∷ entries_pairs rest),
            length-append (subtrees child)
                (entries_subtrees rest),
          )

  -- a migration takes a row for each pair and each node
  pub moved : (m : List Pair) → new_rows (tree f m) (tree g m) ≡ length m + length
      (subtrees (tree g m))
  moved m =
      weigh_is (is_new (tree f m) (tree_mst f m)) (subtrees (tree g m))
      ∙ all_new (tree f m) (tree_mst f m) (tree g m) (tree_mst g m)
      ∙ ap (λ (ps : List Pair). length ps + length (subtrees (tree g m))) (pairs_tree g m)
