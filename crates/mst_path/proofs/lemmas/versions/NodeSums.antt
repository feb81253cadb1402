-- The node at a row, and sums over the nodes of a tree.
use Rattle.mst_path.proofs.Names.{◌≡◌, ℕ, ◌+◌, ◌<◌, ◌≤◌, ◌⊎◌, inl, inr, eqb, Bool, true, false, cond, List, [], ◌∷◌, ◌++◌, length, filter, Some, refl, sym, ap, arith, Contains, AllByRecursion, nat_tests, Contains-append_cases, Format, contains-cases, contains-nothing, Tree, entry_count, is_subtree, top_entries, Content, In, times, bit, Head, Placed, none, head, Chain, end, cell, tree_of, entries_of, link_of, rows_of, chain_rows, used, chain_used, HasRows, all-front, all-back, placed_nodes, chain_nodes, chain_own, top_rows, in_either}
use Rattle.std.proofs.lemmas.List.Elements.{Contains-append_left, Contains-append_right}
use Rattle.mst_key.proofs.SpanLaws.{contains-first, contains-later}
use Rattle.mst_node.proofs.InTrees.{InTree, InEntries}
use Rattle.mst_change.proofs.Cost.Fresh.{fresh, fresh_in}
use Rattle.mst_path.proofs.lemmas.rows.CopyRows.{at_self}

module _ (format : Format) where
  -- ---- the node at a row

  abbrev NodeAt : Content → List Placed → ℕ → Type 0
  NodeAt content ps x = (p : Placed) × Contains ps p × (link_of p ≡ x + 1) × HasRows content
      (rows_of format p)

  mutual
    pub node_at : (content : Content) (q : Placed) → HasRows content (rows_of format q) → (x : ℕ)
        → In x (used q) → (l n f t : ℕ) (d : List ℕ) → content x ≡ Some (Head l n f t d)
        → NodeAt content (placed_nodes q) x
    node_at content none has x i l n f t d row = absurd (omega (arith, i))
    node_at content (head at layer chain) has x i l n f t d row =
        go (eqb x at) refl i (λ j. chain_node_at content chain has.1 x j l n f t d row)
      where
        go : (b : Bool) → eqb x at ≡ b → 0 < bit b + times x (chain_used chain)
            → (In x (chain_used chain) → NodeAt content (chain_nodes chain) x)
            → NodeAt content (head at layer chain ∷ chain_nodes chain) x
        go true e j more =
            let same : x ≡ at = grind (arith, nat_tests, e) in (
              head at layer chain,
              contains-first (head at layer chain) (chain_nodes chain)
                  (head at layer chain) refl,
              omega (arith, same),
              has,
            )
        go false e j more =
            let r = more (omega (arith, j)) in
            (r.0, contains-later (head at layer chain) (chain_nodes chain) r.0 r.1, r.2, r.3)

    chain_node_at : (content : Content) (chain : Chain) → HasRows content (chain_rows format chain)
        → (x : ℕ) → In x (chain_used chain) → (l n f t : ℕ) (d : List ℕ) → content x ≡ Some
        (Head l n f t d) → NodeAt content (chain_nodes chain) x
    chain_node_at content (end child) has x i l n f t d row =
        node_at content child has x i l n f t d row
    chain_node_at content (cell at child key value rest) has x i l n f t d row =
        go (eqb x at) refl i
        (λ j. node_at content child
        (all-front _ (rows_of format child) (chain_rows format rest) has.1) x j l n f t d row)
        (λ j. chain_node_at content rest
        (all-back _ (rows_of format child) (chain_rows format rest) has.1) x j l n f t d row)
      where
        go : (b : Bool) → eqb x at ≡ b → 0 < bit b + times x (used child ++ chain_used rest)
            → (In x (used child) → NodeAt content (placed_nodes child) x)
            → (In x (chain_used rest) → NodeAt content (chain_nodes rest) x)
            → NodeAt content (placed_nodes child ++ chain_nodes rest) x
        go true e j first more = let same : x ≡ at = grind (arith, nat_tests, e) in let here =
            ap content same in let entry = has.0 in absurd cc
        go false e j first more =
            elim (in_either x (used child) (chain_used rest) (omega (arith, j))) [
              | inl k ↦ let r =
                  first k in (
                    r.0,
                    Contains-append_left (placed_nodes child) (chain_nodes rest) r.0 r.1,
                    r.2,
                    r.3,
                  )
              | inr k ↦ let r =
                  more k in (
                    r.0,
                    Contains-append_right (placed_nodes child) (chain_nodes rest) r.0 r.1,
                    r.2,
                    r.3,
                  )
            ]

  -- ---- the tree of a node stands in the whole tree

  mutual
    pub node_in : (q p : Placed) → Contains (placed_nodes q) p → InTree (tree_of format p)
        (tree_of format q)
    node_in none p has = absurd (contains-nothing p has)
    node_in (head at layer chain) p has =
        go (contains-cases (head at layer chain) (chain_nodes chain) p has)
        (λ k. chain_node_in chain p k)
      where
        go : (head at layer chain ≡ p) ⊎ Contains (chain_nodes chain) p
            → (Contains (chain_nodes chain) p → InEntries (tree_of format p)
            (entries_of format chain)) → InTree (tree_of format p)
            (tree_of format (head at layer chain))
        go (inl same) more = inl (ap (tree_of format) (sym same))
        go (inr later) more = inr (more later)

    chain_node_in : (chain : Chain) (p : Placed) → Contains (chain_nodes chain) p
        → InEntries (tree_of format p) (entries_of format chain)
    chain_node_in (end child) p has = node_in child p has
    chain_node_in (cell at child key value rest) p has =
        go (Contains-append_cases (placed_nodes child) (chain_nodes rest) p has)
        (λ k. node_in child p k) (λ k. chain_node_in rest p k)
      where
        go : Contains (placed_nodes child) p ⊎ Contains (chain_nodes rest) p
            → (Contains (placed_nodes child) p → InTree (tree_of format p) (tree_of format child))
            → (Contains (chain_nodes rest) p → InEntries (tree_of format p)
            (entries_of format rest)) → InTree (tree_of format p) (tree_of format child)
            ⊎ InEntries (tree_of format p) (entries_of format rest)
        go (inl k) first more = inl (first k)
        go (inr k) first more = inr (more k)

  -- ---- sums over nodes

  abbrev pub over : (Placed → ℕ) → List Placed → ℕ
  over f [] = 0
  over f (p ∷ ps) = f p + over f ps

  over-append : (f : Placed → ℕ) (ps qs : List Placed) → over f (ps ++ qs) ≡ over f ps + over f qs
  over-append f [] qs = omega arith
  over-append f (p ∷ ps) qs = omega (arith, over-append f ps qs)

  over_le : (f g : Placed → ℕ) (ps : List Placed) → AllByRecursion (λ p. g p ≤ f p) ps
      → over g ps ≤ over f ps
  over_le f g [] all = omega arith
  over_le f g (p ∷ ps) all = omega (arith, all.0, over_le f g ps all.1)

  -- what is nowhere less, and in sum not more, is everywhere the same
  pub squeezed : (f g : Placed → ℕ) (ps : List Placed) → AllByRecursion (λ p. g p ≤ f p) ps
      → over f ps ≤ over g ps → AllByRecursion (λ p. f p ≡ g p) ps
  squeezed f g [] all le = tt
  squeezed f g (p ∷ ps) all le =
      let rest = over_le f g ps all.1 in
      (omega (arith, all.0, rest, le), squeezed f g ps all.1 (omega (arith, all.0, rest, le)))

  -- the rows of new nodes, counted along the tree
  module _ (old : Tree) where
    abbrev pub new_rows_of : Placed → ℕ
    new_rows_of p = cond (is_subtree (tree_of format p) old) 0 (top_entries (tree_of format p) + 1)

    mutual
      pub fresh_over : (p : Placed) → fresh old (tree_of format p) ≡ over new_rows_of
          (placed_nodes p)
      fresh_over none = refl
      fresh_over (head at layer chain) = omega (arith, fresh_over_chain chain)

      fresh_over_chain : (chain : Chain) → fresh_in old (entries_of format chain) ≡ over new_rows_of
          (chain_nodes chain)
      fresh_over_chain (end child) = fresh_over child
      fresh_over_chain (cell at child key value rest) =
          omega (
            arith,
            fresh_over child,
            fresh_over_chain rest,
            over-append new_rows_of
                (placed_nodes child) (chain_nodes rest),
          )

  pub own_length : (chain : Chain) → length (chain_own chain) ≡ entry_count
      (entries_of format chain)
  own_length (end child) = refl
  own_length (cell at child key value rest) = omega (arith, own_length rest)

  -- the rows that pass a test, counted along the tree
  module _ (test : ℕ → Bool) where
    abbrev pub passing : List ℕ → ℕ
    passing [] = 0
    passing (x ∷ xs) = bit (test x) + passing xs

    passing-append : (xs ys : List ℕ) → passing (xs ++ ys) ≡ passing xs + passing ys
    passing-append [] ys = omega arith
    passing-append (x ∷ xs) ys = omega (arith, passing-append xs ys)

    pub passing_length : (xs : List ℕ) → length (filter test xs) ≡ passing xs
    passing_length [] = refl
    passing_length (x ∷ xs) = go (test x) (passing_length xs)
      where
        go : (b : Bool) → length (filter test xs) ≡ passing xs
            → length (cond b (x ∷ filter test xs) (filter test xs)) ≡ bit b + passing xs
        go true e = omega (arith, e)
        go false e = omega (arith, e)

    pub all_passing : (xs : List ℕ) → ((r : ℕ) → In r xs → test r ≡ true) → passing xs ≡ length xs
    all_passing [] all = refl
    all_passing (x ∷ xs) all =
        let here : bit (test x) ≡ 1 = ap bit (all x (omega (arith, at_self x))) in
        omega (arith, here, all_passing xs (λ r i. all r (omega (arith, i))))

    mutual
      pub passing_over : (p : Placed) → passing (used p) ≡ over (λ q. passing (top_rows q))
          (placed_nodes p)
      passing_over none = refl
      passing_over (head at layer chain) = omega (arith, passing_over_chain chain)

      passing_over_chain : (chain : Chain) → passing (chain_used chain) ≡ passing (chain_own chain)
          + over (λ q. passing (top_rows q)) (chain_nodes chain)
      passing_over_chain (end child) = omega (arith, passing_over child)
      passing_over_chain (cell at child key value rest) =
          omega (
            arith,
            passing_over child,
            passing_over_chain rest,
            passing-append (used child)
                (chain_used rest),
            over-append (λ q. passing (top_rows q)) (placed_nodes child)
                (chain_nodes rest),
          )
