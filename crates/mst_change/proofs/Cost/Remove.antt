-- What a remove makes new.
use Rattle.mst_change.proofs.Names.{◌≡◌, ℕ, ◌<◌, false, List, [], ◌∷◌, ◌++◌, Option, Some, None, refl, sym, ap, subst, ◌∙◌, arith, append_assoc, Less, option_map_or, Format, Pair, key_cmp, map_get, AllBelow, IsAscending, Tree, empty, node, Entries, last, entry, entry_count, pairs, entries_pairs, tree, IsMst, IsMstEntries, by_order, is_subtree, cost, new_rows, pairs_tree, tree_mst, node_of, first_child, with_first, join, tree_remove, entries_remove, join_rows, remove_rows, entries_remove_rows, remove_cost, InTree, is_new}
use Rattle.mst_key.specs.Map as map
use Rattle.mst_key.proofs.Alls.{alls-append}
use Rattle.mst_key.proofs.MapLaws.{map_get-remove_same, remove-unchanged}
use Rattle.mst_key.proofs.Splits.{map_get-left, map_get-right}
use Rattle.mst_change.proofs.Choices.{at_order}
use Rattle.mst_change.proofs.Parts.{node_of_pairs, first_mst}
use Rattle.mst_change.proofs.Split.Pairs.{behind_above, before_below}
use Rattle.mst_change.proofs.Split.Trees.{rest_rises, child_rises}
use Rattle.mst_change.proofs.Remove.Trees.{remove_pairs, remove_mst, entries_remove_pairs, removed_tree}
use Rattle.mst_change.proofs.Cost.Home.{new_by_key, some_key, node_of_key, remove_key}
use Rattle.mst_change.proofs.Cost.Fresh.{fresh, fresh_in, new_rows_fresh, Stands, StandIn, stands_itself, entries_stand, node_stands, child_stands, rest_stands, first_stands, fresh_none, fresh_in_none, fresh_side, fresh_first}
use Rattle.mst_change.proofs.Cost.Split.{same_from_pairs}
use Rattle.mst_change.proofs.Cost.Join.{join_fresh}

-- a list that has the key is another without it
other_removed : (m : List Pair) (k w : List ℕ) → map_get m k ≡ Some w → map.remove m k ≡ m → ⊥
other_removed m k w found e = let none = sym (map_get-remove_same m k)
    ∙ ap (λ (l : List Pair). map_get l k) e in cc

all_below : (xs : List Pair) (key value : List ℕ) (ys : List Pair) (k : List ℕ)
    → IsAscending (xs ++ (key, value) ∷ ys) → key_cmp key k ≡ Less
    → AllBelow (xs ++ (key, value) ∷ []) k
all_below xs key value ys k rise more = alls-append (λ (p : Pair). key_cmp p.0 k ≡ Less) xs
    ((key, value) ∷ []) (before_below xs (key, value) ys k rise more) (more, tt)

module _ (old : Tree) (old_rises : IsAscending (pairs old)) (format : Format) (k w : List ℕ) where
  -- a node without one of its keys is new
  new_side : (g : Format) (l : ℕ) (es : Entries) → IsAscending (entries_pairs es)
      → map_get (entries_pairs es) k ≡ Some w → InTree (node g l es) old → 0 < entry_count
      (entries_remove es k) → is_subtree (node_of g l (entries_remove es k)) old ≡ false
  new_side g l es rise found here some =
      let key = some_key (entries_remove es k) some in
      is_new (node_of g l (entries_remove es k)) old
      (new_by_key old (node g l es) (node_of g l (entries_remove es k)) key.0 old_rises here
      (remove_key es k key.0 key.1) (node_of_key (entries_remove es k) g l key.0 key.1)
      (λ same. other_removed (entries_pairs es) k w found
      (sym (node_of_pairs (entries_remove es k) g l ∙ entries_remove_pairs es k rise) ∙ same)))

  mutual
    pub remove_fresh : (t : Tree) → IsAscending (pairs t) → map_get (pairs t) k ≡ Some w
        → IsMst format t → Stands old t → fresh old (tree_remove t k) ≡ remove_rows t k
    remove_fresh empty rise found mst stands = refl
    remove_fresh (node g l es) rise found mst stands =
        let side = fresh_side (entries_remove es k) old g l false
        (new_side g l es rise found (node_stands old g l es stands)) in
        let path = entries_remove_fresh es l rise found mst.2 (entries_stand old g l es stands) in
        omega (arith, side, path)

    pub entries_remove_fresh : (es : Entries) (l : ℕ) → IsAscending (entries_pairs es)
        → map_get (entries_pairs es) k ≡ Some w → IsMstEntries format l es → StandIn old es
        → fresh_in old (entries_remove es k) ≡ entries_remove_rows es k
    entries_remove_fresh (last child) l rise found mst stands =
        remove_fresh child rise found mst.1 stands
    entries_remove_fresh (entry child key value rest) l rise found mst stands =
        let xs = pairs child in
        let ys = entries_pairs rest in
        let stand_child = child_stands old child key value rest stands in
        let stand_rest = rest_stands old child key value rest stands in
        let none = fresh_none child old stand_child in
        let none_behind = fresh_in_none rest old stand_rest in
        let joined = join child (first_child rest) in
        at_order (λ r. fresh_in old
        (by_order r (entry (tree_remove child k) key value rest) (with_first joined rest)
        (entry child key value (entries_remove rest k))) ≡ by_order r (remove_rows child k)
        (join_rows child (first_child rest)) (entries_remove_rows rest k)) k key
        (λ less.
        let there =
        sym (map_get-left xs ((key, value) ∷ ys) k
        (behind_above xs (key, value) ys k rise less)) ∙ found in
        let made = remove_fresh child (child_rises child key value rest rise) there mst.1
        stand_child in
        omega (arith, made, none_behind))
        (λ same.
        let made = join_fresh old old_rises format child (first_child rest) mst.1 stand_child
        (first_mst rest format l mst.3).1 (first_stands rest old stand_rest) in
        fresh_first rest joined old stand_rest ∙ made)
        (λ more.
        let there =
        sym (map_get-right (xs ++ (key, value) ∷ []) ys k
        (all_below xs key value ys k rise more)) ∙ ap (λ (m : List Pair). map_get m k)
        (append_assoc xs ((key, value) ∷ []) ys) ∙ found in
        let made = entries_remove_fresh rest l (rest_rises child key value rest rise) there mst.3
        stand_rest in
        omega (arith, made, none))

-- ---- what a remove costs

new_rows_removed : (t : Tree) (format : Format) (k : List ℕ) (o : Option (List ℕ))
    → map_get (pairs t) k ≡ o → IsAscending (pairs t) → IsMst format t → tree format (pairs t) ≡ t
    → fresh t (tree_remove t k) ≡ option_map_or (λ v. remove_rows t k) o 0
new_rows_removed t format k (Some w) found rise mst is =
    remove_fresh t rise format k w t rise found mst (stands_itself t)
new_rows_removed t format k None found rise mst is =
    let same : tree_remove t k ≡ t = same_from_pairs (tree_remove t k) t format
    (remove_mst t format k mst) mst
    (remove_pairs t k rise ∙ remove-unchanged (pairs t) k rise found) in
    ap (fresh t) same ∙ fresh_none t t (stands_itself t)

pub cost_remove : (format : Format) (m : List Pair) (k : List ℕ) → IsAscending m
    → cost format m (map.remove m k) ≡ remove_cost (tree format m) k
cost_remove format m k rise =
    let t = tree format m in
    let rises : IsAscending (pairs t) = subst IsAscending (sym (pairs_tree format m)) rise in
    ap (new_rows t) (sym (removed_tree format m k rise)) ∙ new_rows_fresh (tree_remove t k) t
    ∙ new_rows_removed t format k (map_get (pairs t) k) refl rises (tree_mst format m)
    (ap (tree format) (pairs_tree format m))
