-- What a split makes new.
use Rattle.mst_change.proofs.Names.{◌≡◌, ℕ, ◌+◌, ◌<◌, ◌≤◌, List, [], ◌++◌, length, None, refl, sym, ap, subst, ◌∙◌, arith, length-append, append-nil, Format, layer_in, Pair, map_get, IsAscending, alls-weaker, Tree, empty, node, Entries, last, entry, entry_count, pairs, entries_pairs, tree, IsUnder, IsMst, IsMstEntries, by_order, is_subtree, tree_unique, node_of, is_empty, below, entries_below, above, entries_above, split_rows, gap_rows, InTree, is_old, is_new}
use Rattle.std.proofs.Common.{◌≢◌}
use Rattle.mst_key.proofs.MapLaws.{map_get-absent}
use Rattle.mst_key.proofs.Splits.{parts_absent}
use Rattle.mst_node.proofs.TreeEquation.{tree-no_pairs}
use Rattle.mst_node.proofs.UniqueTree.{keys_under}
use Rattle.mst_change.proofs.Choices.{at_order}
use Rattle.mst_change.proofs.Parts.{under_weaker}
use Rattle.mst_change.proofs.Split.Pairs.{lesser, greater}
use Rattle.mst_change.proofs.Split.Trees.{rest_rises, child_rises, below_pairs, above_pairs, below_mst, above_mst}
use Rattle.mst_change.proofs.Cost.Home.{some_key, node_of_key, below_key, above_key, one_home}
use Rattle.mst_change.proofs.Cost.Fresh.{fresh, fresh_in, Stands, StandIn, entries_stand, node_stands, child_stands, rest_stands, fresh_none, fresh_in_none, fresh_side}

-- ---- search trees with the same pairs are the same

pub same_from_pairs : (t u : Tree) (format : Format) → IsMst format t → IsMst format u
    → pairs t ≡ pairs u → t ≡ u
same_from_pairs t u format is also e = sym (tree_unique t format is) ∙ ap (tree format) e
    ∙ tree_unique u format also

pub empty_from_pairs : (t : Tree) (format : Format) → IsMst format t → length (pairs t) ≡ 0
    → t ≡ empty
empty_from_pairs t format is e = sym (tree_unique t format is) ∙ tree-no_pairs format (pairs t) e

-- ---- a side is the whole tree exactly if the other side is empty

-- no pair of a tree of lower layers has the key
pub absent_under : (t : Tree) (format : Format) (k : List ℕ) (l : ℕ) → IsMst format t → IsUnder l t
    → layer_in format k ≡ l → map_get (pairs t) k ≡ None
absent_under t format k l mst under is =
    map_get-absent (pairs t) k
    (alls-weaker (λ p. layer_in format p.0 < l) (λ p. p.0 ≢ k)
    (λ p less same. let e : layer_in format p.0 ≡ layer_in format k =
    ap (layer_in format) same in omega (arith, e, is, less)) (pairs t)
    (keys_under t format l mst under))

module _ (t : Tree) (format : Format) (k : List ℕ) (rise : IsAscending (pairs t))
    (mst : IsMst format t) (none : map_get (pairs t) k ≡ None) where
  parts : length (pairs (below k t)) + length (pairs (above k t)) ≡ length (pairs t)
  parts =
      let low = ap length (below_pairs t k rise) in
      let high = ap length (above_pairs t k rise) in
      let whole = ap length (parts_absent (pairs t) k rise none) in
      omega (arith, low, high, whole, length-append (lesser k (pairs t)) (greater k (pairs t)))

  joined : lesser k (pairs t) ++ greater k (pairs t) ≡ pairs t
  joined = sym (parts_absent (pairs t) k rise none)

  pub below_whole : above k t ≡ empty → below k t ≡ t
  below_whole e =
      let high : greater k (pairs t) ≡ [] = sym (above_pairs t k rise) ∙ ap pairs e in
      let all : lesser k (pairs t) ≡ pairs t = sym (append-nil (lesser k (pairs t)))
      ∙ ap (λ (m : List Pair). lesser k (pairs t) ++ m) (sym high) ∙ joined in
      same_from_pairs (below k t) t format (below_mst t format k mst) mst
      (below_pairs t k rise ∙ all)

  pub above_whole : below k t ≡ empty → above k t ≡ t
  above_whole e =
      let low : lesser k (pairs t) ≡ [] = sym (below_pairs t k rise) ∙ ap pairs e in
      let all : greater k (pairs t) ≡ pairs t = ap (λ (m : List Pair). m ++ greater k (pairs t))
      (sym low) ∙ joined in
      same_from_pairs (above k t) t format (above_mst t format k mst) mst
      (above_pairs t k rise ∙ all)

  pub above_empty : below k t ≡ t → above k t ≡ empty
  above_empty e = let same = ap (λ (u : Tree). length (pairs u)) e in empty_from_pairs (above k t)
      format (above_mst t format k mst) (omega (arith, parts, same))

  pub below_empty : above k t ≡ t → below k t ≡ empty
  below_empty e = let same = ap (λ (u : Tree). length (pairs u)) e in empty_from_pairs (below k t)
      format (below_mst t format k mst) (omega (arith, parts, same))

-- ---- so it is known of each side of an old node whether it is old

module _ (old : Tree) (old_rises : IsAscending (pairs old)) (g : Format) (j : ℕ) (es : Entries)
    (format : Format) (k : List ℕ) (rise : IsAscending (entries_pairs es))
    (mst : IsMst format (node g j es)) (none : map_get (entries_pairs es) k ≡ None)
    (stands : InTree (node g j es) old) where
  below_side : 0 < entry_count (entries_below k es) → is_subtree (node_of g j (entries_below k es))
      old ≡ is_empty (above k (node g j es))
  below_side some = go (above k (node g j es)) refl
    where
      go : (u : Tree) → above k (node g j es) ≡ u → is_subtree (node_of g j (entries_below k es))
          old ≡ is_empty u
      go empty e = let whole = below_whole (node g j es) format k rise mst none e in
          is_old (below k (node g j es)) old (subst (λ (u : Tree). InTree u old) (sym whole) stands)
      go (node h i fs) e = is_new (below k (node g j es)) old (λ is.
          let key = some_key (entries_below k es) some in
          let whole = one_home old (below k (node g j es)) (node g j es) key.0 old_rises is stands
          (node_of_key (entries_below k es) g j key.0 key.1) (below_key es k key.0 key.1) in
          let nothing = sym e ∙ above_empty (node g j es) format k rise mst none whole in
          cc)

  above_side : 0 < entry_count (entries_above k es) → is_subtree (node_of g j (entries_above k es))
      old ≡ is_empty (below k (node g j es))
  above_side some = go (below k (node g j es)) refl
    where
      go : (u : Tree) → below k (node g j es) ≡ u → is_subtree (node_of g j (entries_above k es))
          old ≡ is_empty u
      go empty e = let whole = above_whole (node g j es) format k rise mst none e in
          is_old (above k (node g j es)) old (subst (λ (u : Tree). InTree u old) (sym whole) stands)
      go (node h i fs) e = is_new (above k (node g j es)) old (λ is.
          let key = some_key (entries_above k es) some in
          let whole = one_home old (above k (node g j es)) (node g j es) key.0 old_rises is stands
          (node_of_key (entries_above k es) g j key.0 key.1) (above_key es k key.0 key.1) in
          let nothing = sym e ∙ below_empty (node g j es) format k rise mst none whole in
          cc)

-- ---- the rows of a split

module _ (old : Tree) (old_rises : IsAscending (pairs old)) (format : Format) (k : List ℕ) (l : ℕ)
    (layer : layer_in format k ≡ l) where
  mutual
    pub split_fresh : (t : Tree) → IsAscending (pairs t) → IsMst format t → IsUnder l t
        → Stands old t → fresh old (below k t) + fresh old (above k t) ≡ split_rows k t
    split_fresh empty rise mst under stands = omega arith
    split_fresh (node g j es) rise mst under stands =
        let none = absent_under (node g j es) format k l mst under layer in
        let here = node_stands old g j es stands in
        let low = fresh_side (entries_below k es) old g j (is_empty (above k (node g j es)))
        (below_side old old_rises g j es format k rise mst none here) in
        let high = fresh_side (entries_above k es) old g j (is_empty (below k (node g j es)))
        (above_side old old_rises g j es format k rise mst none here) in
        let gap = gap_fresh es j rise mst.2 (omega arith) (entries_stand old g j es stands) in
        omega (arith, low, high, gap)

    pub gap_fresh : (es : Entries) (j : ℕ) → IsAscending (entries_pairs es) → IsMstEntries format j
        es → j ≤ l → StandIn old es → fresh_in old (entries_below k es) + fresh_in old
        (entries_above k es) ≡ gap_rows k es
    gap_fresh (last child) j rise mst low stands =
        split_fresh child rise mst.1 (under_weaker j l child low mst.0) stands
    gap_fresh (entry child key value rest) j rise mst low stands =
        let one = fresh_none child old (child_stands old child key value rest stands) in
        let more = fresh_in_none rest old (rest_stands old child key value rest stands) in
        at_order (λ r. fresh_in old
        (by_order r (last (below k child)) (last child)
        (entry child key value (entries_below k rest))) + fresh_in old
        (by_order r (entry (above k child) key value rest) rest (entries_above k rest))
        ≡ by_order r (split_rows k child) 0 (gap_rows k rest)) k key
        (λ less. let child_split = split_fresh child (child_rises child key value rest rise) mst.1
        (under_weaker j l child low mst.0) (child_stands old child key value rest stands) in
        omega (arith, child_split, more))
        (λ same. omega (arith, one, more))
        (λ after. let rest_split = gap_fresh rest j (rest_rises child key value rest rise) mst.3 low
        (rest_stands old child key value rest stands) in omega (arith, one, rest_split))
