-- A put into a map that stands at a root: what it takes, and what stands then.
use Rattle.mst_path.proofs.Names.{Format, ◌≡◌, ℕ, ◌+◌, ◌*◌, ◌≤◌, Bool, true, false, cond, List, length, Option, Some, None, refl, sym, ◌∙◌, ap, arith, option_map_or, layer_in, Pair, map_get, Tree, tree, same_bytes, cost, pairs_tree, Content, State, free_count, times, Root, tree_of, used, Stands, numbers, put_at, put_rows, Grown, RisingTree, in_rising, with_pair, pair_rows, AreOld, MapStands, AfterChange}
use Rattle.mst_key.specs.Bytes.{IsKey, IsValue}
use Rattle.mst_key.specs.Map.{put}
use Rattle.mst_key.proofs.KeyOrder.{same_from_test, test_of_same}
use Rattle.mst_key.proofs.MapLaws.{put-unchanged, IsMap-put}
use Rattle.mst_change.specs.Put.{tree_put}
use Rattle.mst_path.proofs.lemmas.versions.Changes.{search_at, rises, Changed, after_change, unchanged_map}
use Rattle.mst_change.proofs.Cost.Put.{cost_put}
use Rattle.mst_change.proofs.Put.Trees.{put_tree}
use Rattle.mst_path.proofs.lemmas.steps.Rounds.{regrown}
use Rattle.mst_path.proofs.lemmas.cost.Sizes.{put_le}
use Rattle.mst_path.proofs.lemmas.rows.FreeCounts.{rows_beside_free}

-- whether a value was found, and is this one
abbrev pub is_same : Option (List ℕ) → List ℕ → Bool
is_same o v = option_map_or (same_bytes v) o false

pub found_same : (o : Option (List ℕ)) (v : List ℕ) → is_same o v ≡ true → o ≡ Some v
found_same None v is = absurd cc
found_same (Some w) v is = ap Some (sym (same_from_test v w is))

pub same_found : (v : List ℕ) → is_same (Some v) v ≡ true
same_found v = test_of_same v v refl

module _ (format : Format) (c : Content) (s : State) (root : Root) (m : List Pair)
    (stands : Stands format c root m) (k v : List ℕ) where
  new_tree : tree_put format (tree_of format stands.tree.placed) k v ≡ tree format (put m k v)
  new_tree = ap (λ (t : Tree). tree_put format t k v) stands.tree.is ∙ put_tree format m k v
      stands.map.ascending

  cost_at : (o : Option (List ℕ)) → map_get m k ≡ o → cost format m (put m k v) ≡ cond (is_same o v)
      0 (put_rows (layer_in format k) k v (tree format m))
  cost_at o is =
      cost_put format m k v stands.map.ascending
      ∙ ap (λ (x : Option (List ℕ)). cond (is_same x v) 0
      (put_rows (layer_in format k) k v (tree format m)))
      (ap (λ (l : List Pair). map_get l k) (pairs_tree format m) ∙ is)

  pub cost_other : (o : Option (List ℕ)) → map_get m k ≡ o → is_same o v ≡ false
      → put_rows (layer_in format k) k v (tree_of format stands.tree.placed) ≡ cost format m
      (put m k v)
  cost_other o is other =
      ap (put_rows (layer_in format k) k v) stands.tree.is
      ∙ sym (cost_at o is
      ∙ ap (λ (b : Bool). cond b 0 (put_rows (layer_in format k) k v (tree format m))) other)

  cost_same : (o : Option (List ℕ)) → map_get m k ≡ o → is_same o v ≡ true
      → cost format m (put m k v) ≡ 0
  cost_same o is same =
      cost_at o is ∙ ap (λ (b : Bool). cond b 0 (put_rows (layer_in format k) k v (tree format m)))
      same

  module _ (old : AreOld s (numbers stands)) where
    abbrev pub rising_at : RisingTree format c s root.link
    rising_at =
        record {
          tree = search_at format c s root m stands old;
          rises =
              rises format c root m stands;
        }

    pub least_new : (l : ℕ)
        → pair_rows format rising_at l k v + 2 * free_count s.lives ≤ 2 * length s.lives + 2
    least_new l =
        omega (
          arith,
          rows_beside_free format c s root m stands old,
          put_le (tree_of format stands.tree.placed) l k v,
        )

    -- the key has another value, or none
    pub grown_other : (c1 : Content) (s1 : State) (at : Root) (l : ℕ) → l ≡ layer_in format k
        → (o : Option (List ℕ)) → map_get m k ≡ o → is_same o v ≡ false → Grown format c c1 s s1
        (with_pair format rising_at l k v) at (in_rising format rising_at)
        (pair_rows format rising_at l k v) → Changed format c c1 s s1 root at (λ n. put n k v) m
        stands
    grown_other c1 s1 at l l_is o is other g =
        let t = tree_of format stands.tree.placed in
        regrown format c c1 s s1 (with_pair format rising_at l k v) (tree format (put m k v)) at
        (in_rising format rising_at) (λ x. times x (used stands.tree.placed))
        (pair_rows format rising_at l k v) (cost format m (put m k v)) g
        (sym (ap (λ (n : ℕ). put_at format n k v t) l_is ∙ new_tree)) (λ x. refl)
        (sym (ap (λ (n : ℕ). put_rows n k v t) l_is ∙ cost_other o is other))

    -- it has this value
    pub grown_same : (o : Option (List ℕ)) → map_get m k ≡ o → is_same o v ≡ true
        → Changed format c c s s root root (λ n. put n k v) m stands
    grown_same o is same = unchanged_map format c s root (λ n. put n k v) m stands old
        (put-unchanged m k v stands.map.ascending (is ∙ found_same o v same)) (cost_same o is same)

-- ---- what the caller learns

abbrev pub AfterPut : (format : Format) (c c1 : Content) (s s1 : State) (root at : Root)
    → (k v : List ℕ) → Type 0
AfterPut format c c1 s s1 root at k v = AfterChange format c c1 s s1 root at (λ m. put m k v)

module _ (format : Format) (c : Content) (s : State) (root : Root) (k v : List ℕ) (key : IsKey k)
    (value : IsValue v) (one : MapStands format c s root) (o : Option (List ℕ))
    (found : (m : List Pair) → Stands format c root m → map_get m k ≡ o) where
  -- the pair was put
  pub after_other : (c1 : Content) (s1 : State) (at : Root) (l : ℕ) → l ≡ layer_in format k
      → is_same o v ≡ false
      → ((t : RisingTree format c s root.link) → Grown format c c1 s s1 (with_pair format t l k v)
      at (in_rising format t) (pair_rows format t l k v)) → AfterPut format c c1 s s1 root at k v
  after_other c1 s1 at l l_is other grows =
      after_change format c c1 s s1 root at (λ m. put m k v) one
      (λ m map. IsMap-put m k v map key value)
      (λ m st old. grown_other format c s root m st k v old c1 s1 at l l_is o (found m st) other
      (grows (rising_at format c s root m st k v old)))

  -- the key has this value already
  pub after_same : is_same o v ≡ true → AfterPut format c c s s root root k v
  after_same same =
      after_change format c c s s root root (λ m. put m k v) one
      (λ m map. IsMap-put m k v map key value)
      (λ m st old. grown_same format c s root m st k v old o (found m st) same)
