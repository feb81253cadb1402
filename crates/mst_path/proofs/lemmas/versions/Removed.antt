-- A remove from a map that stands at a root: what it takes, and what stands then.
use Rattle.mst_path.proofs.Names.{Format, ◌≡◌, ℕ, ◌+◌, ◌≤◌, List, length, Option, Some, None, refl, sym, ◌∙◌, ap, arith, option_map_or, Pair, map_get, Tree, tree, cost, pairs_tree, Content, State, free_count, times, Root, tree_of, used, Stands, numbers, tree_remove, remove_rows, Grown, SearchTree, in_tree, without, without_rows, AreOld, MapStands, AfterChange}
use Rattle.mst_key.specs.Map.{remove}
use Rattle.mst_key.proofs.MapLaws.{remove-unchanged, IsMap-remove}
use Rattle.mst_path.proofs.lemmas.versions.Changes.{search_at, Changed, after_change, unchanged_map}
use Rattle.mst_change.proofs.Cost.Remove.{cost_remove}
use Rattle.mst_change.proofs.Remove.Trees.{removed_tree}
use Rattle.mst_path.proofs.lemmas.steps.Rounds.{regrown}
use Rattle.mst_path.proofs.lemmas.cost.Sizes.{remove_le}
use Rattle.mst_path.proofs.lemmas.rows.FreeCounts.{rows_beside_free}

module _ (format : Format) (c : Content) (s : State) (root : Root) (m : List Pair)
    (stands : Stands format c root m) (k : List ℕ) where
  new_tree : tree_remove (tree_of format stands.tree.placed) k ≡ tree format (remove m k)
  new_tree = ap (λ (t : Tree). tree_remove t k) stands.tree.is ∙ removed_tree format m k
      stands.map.ascending

  cost_at : (o : Option (List ℕ)) → map_get m k ≡ o → cost format m (remove m k) ≡ option_map_or
      (λ v. remove_rows (tree format m) k) o 0
  cost_at o is =
      cost_remove format m k stands.map.ascending
      ∙ ap (λ (x : Option (List ℕ)). option_map_or (λ v. remove_rows (tree format m) k) x 0)
      (ap (λ (l : List Pair). map_get l k) (pairs_tree format m) ∙ is)

  pub cost_found : (v : List ℕ) → map_get m k ≡ Some v
      → remove_rows (tree_of format stands.tree.placed) k ≡ cost format m (remove m k)
  cost_found v is = ap (λ (t : Tree). remove_rows t k) stands.tree.is ∙ sym (cost_at (Some v) is)

  module _ (old : AreOld s (numbers stands)) where
    pub least_new : remove_rows (tree_of format stands.tree.placed) k + free_count s.lives
        ≤ length s.lives
    least_new =
        omega (
          arith,
          rows_beside_free format c s root m stands old,
          remove_le (tree_of format stands.tree.placed) k,
        )

    -- the key has a value
    pub grown_found : (c1 : Content) (s1 : State) (at : Root) (v : List ℕ) → map_get m k ≡ Some v
        → Grown format c c1 s s1 (without format (search_at format c s root m stands old) k) at
        (in_tree format (search_at format c s root m stands old))
        (without_rows format (search_at format c s root m stands old) k) → Changed format c c1 s s1
        root at (λ n. remove n k) m stands
    grown_found c1 s1 at v is g =
        regrown format c c1 s s1 (without format (search_at format c s root m stands old) k)
        (tree format (remove m k)) at (in_tree format (search_at format c s root m stands old))
        (λ x. times x (used stands.tree.placed))
        (without_rows format (search_at format c s root m stands old) k)
        (cost format m (remove m k)) g (sym new_tree) (λ x. refl) (sym (cost_found v is))

    -- it has none
    pub grown_none : map_get m k ≡ None → Changed format c c s s root root (λ n. remove n k) m
        stands
    grown_none is = unchanged_map format c s root (λ n. remove n k) m stands old
        (remove-unchanged m k stands.map.ascending is) (cost_at None is)

-- ---- what the caller learns

abbrev pub AfterRemove : (format : Format) (c c1 : Content) (s s1 : State) (root at : Root) → List ℕ
    → Type 0
AfterRemove format c c1 s s1 root at k = AfterChange format c c1 s s1 root at (λ m. remove m k)

module _ (format : Format) (c : Content) (s : State) (root : Root) (k : List ℕ)
    (one : MapStands format c s root) where
  -- the tree lost the key
  pub after_found : (c1 : Content) (s1 : State) (at : Root) (v : List ℕ)
      → ((m : List Pair) → Stands format c root m → map_get m k ≡ Some v)
      → ((t : SearchTree format c s root.link) → Grown format c c1 s s1 (without format t k) at
      (in_tree format t) (without_rows format t k)) → AfterRemove format c c1 s s1 root at k
  after_found c1 s1 at v found removed =
      after_change format c c1 s s1 root at (λ m. remove m k) one (λ m map. IsMap-remove m k map)
      (λ m st old. grown_found format c s root m st k old c1 s1 at v (found m st)
      (removed (search_at format c s root m st old)))

  -- there is nothing to remove
  pub after_none : ((m : List Pair) → Stands format c root m → map_get m k ≡ None)
      → AfterRemove format c c s s root root k
  after_none found =
      after_change format c c s s root root (λ m. remove m k) one (λ m map. IsMap-remove m k map)
      (λ m st old. grown_none format c s root m st k old (found m st))
