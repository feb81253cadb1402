-- What a put makes new.
use Rattle.mst_change.proofs.Names.{◌≡◌, ℕ, ◌+◌, ◌≤◌, false, cond, List, [], ◌∷◌, Option, Some, None, refl, sym, ap, subst, ◌∙◌, arith, AllByRecursion, option_map_or, cond_both, Format, layer_in, Pair, map_get, IsAscending, alls-back, alls-weaker, Tree, empty, node, Entries, last, entry, entry_count, pairs, entries_pairs, tree, IsMst, IsMstEntries, with_entries, by_order, same_bytes, cost, new_rows, pairs_tree, tree_mst, cells, last_child, entries_below, entries_above, put_among, put_at, put_in_gap, tree_put, put_among_rows, put_rows, put_gap_rows, put_cost, InTree, pairs_hold}
use Rattle.std.proofs.Common.{true≢false}
use Rattle.mst_key.specs.Map as map
use Rattle.mst_key.proofs.KeyOrder.{same_from_test, test_of_same}
use Rattle.mst_key.proofs.MapLaws.{map_get-each, put-unchanged}
use Rattle.mst_change.proofs.Choices.{at_key, at_order, at_layers}
use Rattle.mst_change.proofs.Split.Pairs.{lesser, greater}
use Rattle.mst_change.proofs.Split.Trees.{rest_rises, child_rises}
use Rattle.mst_change.proofs.Put.Trees.{put_among_pairs, put_at_pairs, put_in_gap_pairs, put_at_mst, put_tree}
use Rattle.mst_change.proofs.Cost.Fresh.{fresh, fresh_in, new_rows_fresh, Stands, StandIn, stands_itself, entries_stand, child_stands, rest_stands, fresh_none, fresh_in_none, fresh_node}
use Rattle.mst_change.proofs.Cost.Split.{same_from_pairs, gap_fresh}

-- the pair is not in the list
abbrev Lacks : List ℕ → List ℕ → List Pair → Type 0
Lacks k v m = AllByRecursion (λ p. p ≡ (k, v) → ⊥) m

lacks : (m : List Pair) (k v : List ℕ) → IsAscending m → (map_get m k ≡ Some v → ⊥) → Lacks k v m
lacks m k v rise other =
    alls-weaker (λ p. map_get m p.0 ≡ Some p.1) (λ p. p ≡ (k, v) → ⊥)
    (λ p found same. other (sym (ap (λ (q : Pair). map_get m q.0) same) ∙ found
    ∙ ap (λ (q : Pair). Some q.1) same)) m (map_get-each m rise)

put_gap_count : (es : Entries) (format : Format) (l : ℕ) (k v : List ℕ)
    → entry_count (put_in_gap format l k v es) ≡ entry_count es
put_gap_count (last child) format l k v = refl
put_gap_count (entry child key value rest) format l k v =
    at_key (λ es. entry_count es ≡ entry_count rest + 1) k key
    (entry (put_at format l k v child) key value rest) (entry child k v rest)
    (entry child key value (put_in_gap format l k v rest))
    (λ less. refl) (λ same. refl) (λ more. let n = put_gap_count rest format l k v in
    omega (arith, n))

module _ (old : Tree) (old_rises : IsAscending (pairs old)) (format : Format) (k v : List ℕ) (l : ℕ)
    (layer : layer_in format k ≡ l) (changed : Lacks k v (pairs old)) where
  -- a tree that holds the new pair is new
  new_put : (u : Tree) (m : List Pair) → pairs u ≡ map.put m k v → InTree u old → ⊥
  new_put u m e is =
      let P : Pair → Type 0 = λ p. p ≡ (k, v) → ⊥ in
      let there : Lacks k v (map.put m k v) = subst (Lacks k v) e (pairs_hold P old u is changed) in
      (alls-back P (lesser k m) ((k, v) ∷ greater k m) there).0 refl

  fresh_around : (low high : Entries)
      → fresh_in old (with_entries (cells low) (entry (last_child low) k v high)) ≡ fresh_in old low
      + fresh_in old high
  fresh_around (last child) high = refl
  fresh_around (entry child key value rest) high = let more = fresh_around rest high in
      omega (arith, more)

  -- a new node of the key's layer
  put_among_fresh : (g : Format) (j : ℕ) (es : Entries) (i : ℕ) → IsAscending (entries_pairs es)
      → IsMstEntries format i es → i ≤ l → StandIn old es → fresh old (node g j (put_among k v es))
      ≡ put_among_rows k v es
  put_among_fresh g j es i rise mst low stands =
      let new =
      fresh_node old g j (put_among k v es)
      (new_put (node g j (put_among k v es)) (entries_pairs es) (put_among_pairs es k v rise))
      in
      let parts = fresh_around (entries_below k es) (entries_above k es) in
      let gap = gap_fresh old old_rises format k l layer es i rise mst low stands in
      omega (arith, new, parts, gap)

  mutual
    pub put_fresh : (t : Tree) → IsAscending (pairs t) → IsMst format t → Stands old t
        → fresh old (put_at format l k v t) ≡ put_rows l k v t
    put_fresh empty rise mst stands =
        let new = fresh_node old format l (entry empty k v (last empty))
        (new_put (node format l (entry empty k v (last empty))) [] refl) in
        omega (arith, new)
    put_fresh (node g j es) rise mst stands =
        at_layers (λ s t. fresh old
        (cond s (node format l (put_among k v (last (node g j es))))
        (cond t (node g j (put_among k v es)) (node g j (put_in_gap format l k v es)))) ≡ cond s
        (put_among_rows k v (last (node g j es)))
        (cond t (put_among_rows k v es) (entry_count es + 1 + put_gap_rows l k v es))) j l
        (λ less t. put_among_fresh format l (last (node g j es)) l rise (less, mst) (omega arith)
        stands)
        (λ same. put_among_fresh g j es j rise mst.2 (omega (arith, same))
        (entries_stand old g j es stands))
        (λ more.
        let new = fresh_node old g j (put_in_gap format l k v es)
        (new_put (node g j (put_in_gap format l k v es)) (entries_pairs es)
        (put_in_gap_pairs es format l k v rise)) in
        let count = put_gap_count es format l k v in
        let path = put_gap_fresh es j rise mst.2 (entries_stand old g j es stands) in
        omega (arith, new, count, path))

    put_gap_fresh : (es : Entries) (j : ℕ) → IsAscending (entries_pairs es) → IsMstEntries format j
        es → StandIn old es → fresh_in old (put_in_gap format l k v es) ≡ put_gap_rows l k v es
    put_gap_fresh (last child) j rise mst stands = put_fresh child rise mst.1 stands
    put_gap_fresh (entry child key value rest) j rise mst stands =
        let none = fresh_none child old (child_stands old child key value rest stands) in
        let none_behind = fresh_in_none rest old (rest_stands old child key value rest stands) in
        at_order (λ r. fresh_in old
        (by_order r (entry (put_at format l k v child) key value rest) (entry child k v rest)
        (entry child key value (put_in_gap format l k v rest))) ≡ by_order r
        (put_rows l k v child) 0 (put_gap_rows l k v rest)) k key
        (λ less. let made = put_fresh child (child_rises child key value rest rise) mst.1
        (child_stands old child key value rest stands) in omega (arith, made, none_behind))
        (λ same. omega (arith, none, none_behind))
        (λ more. let made = put_gap_fresh rest j (rest_rises child key value rest rise) mst.3
        (rest_stands old child key value rest stands) in omega (arith, made, none))

-- ---- what a put costs

abbrev put_cost_of : Format → Tree → List ℕ → List ℕ → Option (List ℕ) → ℕ
put_cost_of format t k v o = cond (option_map_or (same_bytes v) o false) 0
    (put_rows (layer_in format k) k v t)

new_rows_put : (t : Tree) (format : Format) (k v : List ℕ) (o : Option (List ℕ))
    → map_get (pairs t) k ≡ o → IsAscending (pairs t) → IsMst format t
    → fresh t (tree_put format t k v) ≡ put_cost_of format t k v o
new_rows_put t format k v None found rise mst =
    put_fresh t rise format k v (layer_in format k) refl
    (lacks (pairs t) k v rise (λ e. let none = sym found ∙ e in cc)) t rise mst
    (stands_itself t)
new_rows_put t format k v (Some w) found rise mst =
    cond_both (same_bytes v w) 0 (put_rows (layer_in format k) k v t)
    (λ n. fresh t (tree_put format t k v) ≡ n)
    (λ is.
    let value : map_get (pairs t) k ≡ Some v = found ∙ ap Some (sym (same_from_test v w is)) in
    let same : tree_put format t k v ≡ t = same_from_pairs (tree_put format t k v) t format
    (put_at_mst t format (layer_in format k) k v refl mst) mst
    (put_at_pairs t format (layer_in format k) k v rise ∙ put-unchanged (pairs t) k v rise
    value) in
    ap (fresh t) same ∙ fresh_none t t (stands_itself t))
    (λ other. put_fresh t rise format k v (layer_in format k) refl (lacks (pairs t) k v rise (λ e.
    let some = sym found ∙ e in
    let same : v ≡ w = cc in
    true≢false (sym (test_of_same v w same) ∙ other))) t rise mst (stands_itself t))

pub cost_put : (format : Format) (m : List Pair) (k v : List ℕ) → IsAscending m
    → cost format m (map.put m k v) ≡ put_cost format (tree format m) k v
cost_put format m k v rise =
    let t = tree format m in
    let rises : IsAscending (pairs t) = subst IsAscending (sym (pairs_tree format m)) rise in
    ap (new_rows t) (sym (put_tree format m k v rise)) ∙ new_rows_fresh (tree_put format t k v) t
    ∙ new_rows_put t format k v (map_get (pairs t) k) refl rises (tree_mst format m)
