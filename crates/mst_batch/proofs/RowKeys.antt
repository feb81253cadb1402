-- A row of a placed tree and a key of the node that has it: no node of the tree has the row more
-- often than it has the key.
use Rattle.mst_batch.proofs.Names.{◌≡◌, ℕ, ◌+◌, ◌<◌, ◌≤◌, eqb, Bool, true, false, List, [], ◌∷◌, ◌++◌, refl, sym, ◌∙◌, ap, subst, arith, inl, inr, Contains, Contains-append_cases, Pair, IsAscending, AllAbove, Format, same_from_test, other_from_less, contains-cases, contains-nothing, entry_count, pairs, entries_pairs, IsMst, IsMstEntries, bit, times, Placed, none, head, Chain, end, cell, tree_of, entries_of, used, chain_used, times-append, placed_nodes, chain_nodes}
use Rattle.mst_key.proofs.KeyOrder.{test_of_same, test_of_other}
use Rattle.mst_node.specs.Cost.{same_bytes}
use Rattle.mst_node.proofs.Distinct.{by_zero}
use Rattle.mst_batch.proofs.Replaced.{node_inside_chain}

-- ---- how many pairs have a key

abbrev pub keyed : List ℕ → List Pair → ℕ
keyed q [] = 0
keyed q (p ∷ m) = bit (same_bytes q p.0) + keyed q m

pub keyed-append : (q : List ℕ) (m n : List Pair) → keyed q (m ++ n) ≡ keyed q m + keyed q n
keyed-append q [] n = omega arith
keyed-append q (p ∷ m) n = omega (arith, keyed-append q m n)

none_keyed : (q k : List ℕ) (m : List Pair) → q ≡ k → AllAbove m k → keyed q m ≡ 0
none_keyed q k [] is above = refl
none_keyed q k (p ∷ m) is above =
    let other : same_bytes q p.0 ≡ false =
    test_of_other q p.0 (λ same. other_from_less k p.0 above.0 (sym is ∙ same)) in
    omega (arith, ap bit other, none_keyed q k m is above.1)

pub keyed_once : (q : List ℕ) (m : List Pair) → IsAscending m → keyed q m ≤ 1
keyed_once q [] rise = omega arith
keyed_once q (p ∷ m) rise = go (same_bytes q p.0) refl (keyed_once q m rise.1)
  where
    go : (b : Bool) → same_bytes q p.0 ≡ b → keyed q m ≤ 1 → bit b + keyed q m ≤ 1
    go true e few = omega (arith, none_keyed q p.0 m (same_from_test q p.0 e) rise.0)
    go false e few = omega (arith, few)

own_key : (k v : List ℕ) (m n : List Pair) → 1 ≤ keyed k (m ++ (k, v) ∷ n)
own_key k v m n =
    omega (arith, keyed-append k m ((k, v) ∷ n), ap bit (test_of_same k k refl))

module _ (format : Format) (x : ℕ) where
  -- none of these nodes has the row more often than its tree has the key
  abbrev pub Fewer : List ℕ → List Placed → Type 0
  Fewer q ps = (p : Placed) → Contains ps p → times x (used p) ≤ keyed q (pairs (tree_of format p))

  abbrev pub KeyOf : Placed → Type 0
  KeyOf p = (q : List ℕ) × Fewer q (placed_nodes p)
      × (times x (used p) ≤ keyed q (pairs (tree_of format p)))

  abbrev KeyIn : Chain → Type 0
  KeyIn c = (q : List ℕ) × Fewer q (chain_nodes c)
      × (times x (chain_used c) ≤ keyed q (entries_pairs (entries_of format c)))

  none_in : (q : List ℕ) (c : Chain) → times x (chain_used c) ≡ 0 → Fewer q (chain_nodes c)
  none_in q c out p has =
      by_zero (times x (used p)) (times x (used p) ≤ keyed q (pairs (tree_of format p)))
      (λ z. omega (arith, z))
      (λ some. absurd (omega (arith, out, node_inside_chain c p x has some)))

  both_in : (q : List ℕ) (child : Placed) (rest : Chain) → Fewer q (placed_nodes child)
      → Fewer q (chain_nodes rest) → Fewer q (placed_nodes child ++ chain_nodes rest)
  both_in q child rest first more p has =
      elim (Contains-append_cases (placed_nodes child) (chain_nodes rest) p has) [
        | inl k ↦ first p k
        | inr k ↦ more p k
      ]

  with_top : (at layer : ℕ) (chain : Chain) (q : List ℕ) → Fewer q (chain_nodes chain)
      → times x (used (head at layer chain)) ≤ keyed q (entries_pairs (entries_of format chain))
      → KeyOf (head at layer chain)
  with_top at layer chain q fewer here = (
    q,
    (λ p has. elim (contains-cases (head at layer chain) (chain_nodes chain) p has) [
      | inl same ↦ subst (λ (r : Placed). times x (used r) ≤ keyed q (pairs (tree_of format r)))
          same here
      | inr later ↦ fewer p later
    ]),
    here,
  )

  top_key : (c : Chain) → 0 < entry_count (entries_of format c)
      → (q : List ℕ) × (1 ≤ keyed q (entries_pairs (entries_of format c)))
  top_key (end child) some = absurd (omega (arith, some))
  top_key (cell at child key value rest) some = (
    key,
    own_key key value (pairs (tree_of format child))
        (entries_pairs (entries_of format rest)),
  )

  at_top : (b : Bool) (at layer : ℕ) (chain : Chain) → eqb x at ≡ b
      → 0 < entry_count (entries_of format chain) → bit b + times x (chain_used chain) ≤ 1
      → (times x (chain_used chain) ≤ 1 → KeyIn chain) → KeyOf (head at layer chain)
  at_top true at layer chain e some once more =
      let t = top_key chain some in
      with_top at layer chain t.0 (none_in t.0 chain (omega (arith, once)))
      (omega (arith, t.1, once, ap bit e))
  at_top false at layer chain e some once more =
      let r = more (omega (arith, once)) in
      with_top at layer chain r.0 r.1 (omega (arith, ap bit e, r.2))

  in_child : (at : ℕ) (child : Placed) (key value : List ℕ) (rest : Chain)
      → times x (used child) + times x (chain_used rest) ≤ 1 → 0 < times x (used child)
      → eqb x at ≡ false → KeyOf child → KeyIn (cell at child key value rest)
  in_child at child key value rest once some e r = (
    r.0,
    both_in r.0 child rest r.1 (none_in r.0 rest (omega (arith, once, some))),
    omega (
      arith,
      ap bit e,
      r.2,
      once,
      some,
      times-append x (used child) (chain_used rest),
      keyed-append r.0 (pairs (tree_of format child))
          ((key, value) ∷ entries_pairs (entries_of format rest)),
    ),
  )

  in_rest : (at : ℕ) (child : Placed) (key value : List ℕ) (rest : Chain)
      → times x (used child) ≡ 0 → eqb x at ≡ false → KeyIn rest
      → KeyIn (cell at child key value rest)
  in_rest at child key value rest none_there e r = (
    r.0,
    both_in r.0 child rest (none_in r.0 (end child) none_there) r.1,
    omega (
      arith,
      ap bit e,
      r.2,
      none_there,
      times-append x (used child) (chain_used rest),
      keyed-append r.0 (pairs (tree_of format child))
          ((key, value) ∷ entries_pairs (entries_of format rest)),
    ),
  )

  at_entry : (b : Bool) (at : ℕ) (child : Placed) (key value : List ℕ) (rest : Chain)
      → eqb x at ≡ b → bit b + times x (used child) + times x (chain_used rest) ≤ 1
      → (times x (used child) ≤ 1 → KeyOf child) → (times x (chain_used rest) ≤ 1 → KeyIn rest)
      → KeyIn (cell at child key value rest)
  at_entry true at child key value rest e once first more = (
    key,
    both_in key child rest (none_in key (end child) (omega (arith, once)))
        (none_in key rest (omega (arith, once))),
    omega (
      arith,
      ap bit e,
      once,
      times-append x (used child) (chain_used rest),
      own_key key value (pairs (tree_of format child)) (entries_pairs (entries_of format rest)),
    ),
  )
  at_entry false at child key value rest e once first more =
      by_zero (times x (used child)) (KeyIn (cell at child key value rest))
      (λ z. in_rest at child key value rest z e (more (omega (arith, once))))
      (λ some. in_child at child key value rest (omega (arith, once)) some e
      (first (omega (arith, once))))

  mutual
    pub key_of : (p : Placed) → IsMst format (tree_of format p) → times x (used p) ≤ 1 → KeyOf p
    key_of none mst once = ([], (λ p has. absurd (contains-nothing p has)), omega arith)
    key_of (head at layer chain) mst once =
        at_top (eqb x at) at layer chain refl mst.1 once (λ few. key_in layer chain mst.2 few)

    key_in : (layer : ℕ) (c : Chain) → IsMstEntries format layer (entries_of format c)
        → times x (chain_used c) ≤ 1 → KeyIn c
    key_in layer (end child) mst once = key_of child mst.1 once
    key_in layer (cell at child key value rest) mst once =
        at_entry (eqb x at) at child key value rest refl
        (omega (arith, once, times-append x (used child) (chain_used rest)))
        (λ few. key_of child mst.1 few) (λ few. key_in layer rest mst.3 few)
