-- After a change of the tree each node has the rows that it had before, or only new rows; and the
-- latter only if its tree did not stand before.
use Rattle.mst_path.proofs.Names.{◌≡◌, ℕ, zero, suc, ◌+◌, ◌<◌, ◌≤◌, ◌⊎◌, inl, inr, eqb, Bool, true, false, cond, length, refl, sym, ap, subst, arith, Contains, AllByRecursion, nat_tests, Format, is_subtree, top_entries, new_rows, is_old, Content, State, version, next, free_count, In, times, bit, Placed, none, head, Chain, end, cell, tree_of, rows_of, chain_rows, used, chain_used, HasRows, times-append, all-append, all-front, all-back, one_placed, placed_frame, placed_nodes, chain_nodes, chain_own, top_rows, IsAged, AreOld, OnlyFreeWritten, IsMade, IsMadeChain, IsOld, IsNew, Changes}
use Rattle.mst_change.proofs.Cost.Fresh.{new_rows_fresh}
use Rattle.mst_path.proofs.lemmas.rows.CopyRows.{at_self, all_in}
use Rattle.mst_path.proofs.lemmas.rows.FreeCounts.{count_change}
use Rattle.mst_path.proofs.lemmas.versions.Reached.{by_place}
use Rattle.mst_path.proofs.lemmas.versions.NodeSums.{node_at, node_in, over, squeezed, new_rows_of, fresh_over, own_length, passing, passing_length, all_passing, passing_over}

module _ (format : Format) where
  -- ---- a change

  own_new : (s : State) (chain : Chain) → IsMadeChain s chain → (r : ℕ) → In r (chain_own chain)
      → IsNew s r
  own_new s (end child) made r i = absurd (omega (arith, i))
  own_new s (cell at child key value rest) made r i =
      go (eqb r at) refl i (λ j. own_new s rest made.2 r j)
    where
      go : (b : Bool) → eqb r at ≡ b → 0 < bit b + times r (chain_own rest)
          → (In r (chain_own rest) → IsNew s r) → IsNew s r
      go true e j more = let same : r ≡ at = grind (arith, nat_tests, e) in
          subst (IsNew s) (sym same) made.0
      go false e j more = more (omega (arith, j))

  top_new : (s : State) (at layer : ℕ) (chain : Chain) → IsNew s at → IsMadeChain s chain → (r : ℕ)
      → In r (top_rows (head at layer chain)) → IsNew s r
  top_new s at layer chain new made r i = go (eqb r at) refl i
    where
      go : (b : Bool) → eqb r at ≡ b → 0 < bit b + times r (chain_own chain) → IsNew s r
      go true e j = let same : r ≡ at = grind (arith, nat_tests, e) in subst (IsNew s) (sym same)
          new
      go false e j = own_new s chain made r (omega (arith, j))

  module _ (before after : Content) (old new : State) (o w : Placed)
      (stood : HasRows before (rows_of format o)) (change : Changes old new (used o) (used w))
      (written : OnlyFreeWritten old before after) (are_old : AreOld old (used o)) where
    same_version : version new ≡ version old
    same_version = rw (change.versions.0, change.versions.1)

    -- a row that is old was a row of the old tree, and stays as it was
    was_there : (r : ℕ) → In r (used w) → IsOld new r → In r (used o)
    was_there r i is = by_place old new (used o) (used w) change r _
        (λ only. let born = ((change.taken r).1 only).1 in let also =
        is.1 in let same : is.0 ≡ next old =
        cc in absurd (omega (arith, same, is.2, same_version)))
        (λ only. absurd (omega (arith, i, only.1)))
        (λ both. both.1 i)

    row_kept : (r : ℕ) → In r (used o) → after r ≡ before r
    row_kept r i = written r (λ free. let born = (are_old r i).1 in cc)

    -- a new row was no row of the old tree
    not_there : (r : ℕ) → IsNew new r → times r (used o) ≡ 0
    not_there r is = by_place old new (used o) (used w) change r _
        (λ only. only.1)
        (λ only. let dead = ((change.killed r).1 only).3 in let born = is in absurd cc)
        (λ both. go (times r (used o)) refl both)
      where
        go : (n : ℕ) → times r (used o) ≡ n → (In r (used o) → In r (used w))
            × (In r (used w) → In r (used o)) → n ≡ 0
        go zero e both = refl
        go (suc n) e both =
            let was = are_old r (omega (arith, e)) in
            let born = was.1 in
            let same_life = change.others r both in
            let same : was.0 ≡ next new = cc in
            absurd (omega (arith, same, was.2, same_version))

    -- a tree on old rows stood on them before
    module _ (p : Placed) (has : HasRows after (rows_of format p))
        (inside : (r : ℕ) → In r (used p) → In r (used w))
        (olds : (r : ℕ) → In r (used p) → IsOld new r) where
      had_rows : HasRows before (rows_of format p)
      had_rows =
          placed_frame format after before p
          (all_in (used p) (λ r i. sym (row_kept r (was_there r (inside r i) (olds r i))))) has

    old_node : (at layer : ℕ) (chain : Chain) → HasRows after (rows_of format (head at layer chain))
        → ((r : ℕ) → In r (used (head at layer chain)) → In r (used w))
        → ((r : ℕ) → In r (used (head at layer chain)) → IsOld new r) → Contains (placed_nodes o)
        (head at layer chain)
    old_node at layer chain has inside olds =
        let p = head at layer chain in
        let had = had_rows p has inside olds in
        let here : In at (used p) = omega (arith, at_self at) in
        let found =
        node_at format before o stood at (was_there at (inside at here) (olds at here)) _ _ _
        _
        _ had.0 in
        subst (Contains (placed_nodes o)) (one_placed format before found.0 p found.2 found.3 had)
        found.1

    abbrev StoodOrNew : Placed → Type 0
    StoodOrNew p = Contains (placed_nodes o) p ⊎ ((r : ℕ) → In r (top_rows p) → IsNew new r)

    mutual
      all_stood : (p : Placed) → HasRows after (rows_of format p)
          → ((r : ℕ) → In r (used p) → In r (used w)) → ((r : ℕ) → In r (used p) → IsOld new r)
          → AllByRecursion StoodOrNew (placed_nodes p)
      all_stood none has inside olds = tt
      all_stood (head at layer chain) has inside olds = (
        inl (old_node at layer chain has inside olds),
        all_stood_below chain has.1
            (λ r i. inside r (omega (arith, i))) (λ r i. olds r (omega (arith, i))),
      )

      all_stood_below : (chain : Chain) → HasRows after (chain_rows format chain)
          → ((r : ℕ) → In r (chain_used chain) → In r (used w))
          → ((r : ℕ) → In r (chain_used chain) → IsOld new r) → AllByRecursion StoodOrNew
          (chain_nodes chain)
      all_stood_below (end child) has inside olds = all_stood child has inside olds
      all_stood_below (cell at child key value rest) has inside olds =
          all-append StoodOrNew (placed_nodes child) (chain_nodes rest)
          (all_stood child (all-front _ (rows_of format child) (chain_rows format rest) has.1)
          (λ r i. inside r (omega (arith, i, times-append r (used child) (chain_used rest))))
          (λ r i. olds r (omega (arith, i, times-append r (used child) (chain_used rest)))))
          (all_stood_below rest (all-back _ (rows_of format child) (chain_rows format rest) has.1)
          (λ r i. inside r (omega (arith, i, times-append r (used child) (chain_used rest))))
          (λ r i. olds r (omega (arith, i, times-append r (used child) (chain_used rest)))))

    mutual
      each : (p : Placed) → HasRows after (rows_of format p)
          → ((r : ℕ) → In r (used p) → In r (used w)) → IsMade new p → AllByRecursion StoodOrNew
          (placed_nodes p)
      each none has inside made = tt
      each (head at layer chain) has inside (inl olds) =
          all_stood (head at layer chain) has inside olds
      each (head at layer chain) has inside (inr news) = (
        inr (top_new new at layer chain news.0 news.1),
        each_below chain has.1
            (λ r i. inside r (omega (arith, i))) news.1,
      )

      each_below : (chain : Chain) → HasRows after (chain_rows format chain)
          → ((r : ℕ) → In r (chain_used chain) → In r (used w)) → IsMadeChain new chain
          → AllByRecursion StoodOrNew (chain_nodes chain)
      each_below (end child) has inside made = each child has inside made
      each_below (cell at child key value rest) has inside made =
          all-append StoodOrNew (placed_nodes child) (chain_nodes rest)
          (each child (all-front _ (rows_of format child) (chain_rows format rest) has.1)
          (λ r i. inside r (omega (arith, i, times-append r (used child) (chain_used rest))))
          made.1)
          (each_below rest (all-back _ (rows_of format child) (chain_rows format rest) has.1)
          (λ r i. inside r (omega (arith, i, times-append r (used child) (chain_used rest))))
          made.2)

    -- ---- the rows that were taken are those of the trees that did not stand before

    abbrev was_free : ℕ → Bool
    was_free r = eqb (times r (used o)) 0

    free_before : (r : ℕ) → times r (used o) ≡ 0 → was_free r ≡ true
    free_before r e = grind (arith, nat_tests, e)

    node_rows : (p : Placed) → StoodOrNew p → length (top_rows p) ≡ top_entries (tree_of format p)
        + 1 → new_rows_of format (tree_of format o) p ≤ passing format was_free (top_rows p)
    node_rows p (inl stands) rows =
        let is = is_old (tree_of format p) (tree_of format o) (node_in format o p stands) in
        let zero_rows : new_rows_of format (tree_of format o) p ≡ 0 =
        ap (λ (b : Bool). cond b 0 (top_entries (tree_of format p) + 1)) is in
        omega (arith, zero_rows)
    node_rows p (inr news) rows =
        let all = all_passing format was_free (top_rows p)
        (λ r i. free_before r (not_there r (news r i)))
        in
        let le : new_rows_of format (tree_of format o) p ≤ top_entries (tree_of format p) + 1 =
        go (is_subtree (tree_of format p) (tree_of format o)) in
        omega (arith, all, rows, le)
      where
        go : (b : Bool) → cond b 0 (top_entries (tree_of format p) + 1) ≤ top_entries
            (tree_of format p) + 1
        go true = omega arith
        go false = omega arith

    mutual
      rows_le : (p : Placed) → AllByRecursion StoodOrNew (placed_nodes p)
          → AllByRecursion
          (λ q. new_rows_of format (tree_of format o) q ≤ passing format was_free
          (top_rows q))
          (placed_nodes p)
      rows_le none all = tt
      rows_le (head at layer chain) all = (
        node_rows (head at layer chain) all.0 (omega (arith, own_length format chain)),
        rows_le_below
            chain all.1,
      )

      rows_le_below : (chain : Chain) → AllByRecursion StoodOrNew (chain_nodes chain)
          → AllByRecursion
          (λ q. new_rows_of format (tree_of format o) q ≤ passing format was_free
          (top_rows q))
          (chain_nodes chain)
      rows_le_below (end child) all = rows_le child all
      rows_le_below (cell at child key value rest) all =
          all-append _ (placed_nodes child) (chain_nodes rest)
          (rows_le child (all-front _ (placed_nodes child) (chain_nodes rest) all))
          (rows_le_below rest (all-back _ (placed_nodes child) (chain_nodes rest) all))

    abbrev Aged : Placed → Type 0
    Aged p = IsAged format format new o p

    node_aged : (p : Placed) → StoodOrNew p → passing format was_free (top_rows p)
        ≡ new_rows_of format
        (tree_of format o) p → 0 < length (top_rows p) → Aged p
    node_aged p (inl stands) same some = inl (refl, stands)
    node_aged p (inr news) same some =
        inr (news, go (is_subtree (tree_of format p) (tree_of format o)) refl)
      where
        all : passing format was_free (top_rows p) ≡ length (top_rows p)
        all = all_passing format was_free (top_rows p)
            (λ r i. free_before r (not_there r (news r i)))

        go : (b : Bool) → is_subtree (tree_of format p) (tree_of format o) ≡ b → b ≡ false
        go false e = refl
        go true e =
            let zero_rows : new_rows_of format (tree_of format o) p ≡ 0 =
            ap (λ (b : Bool). cond b 0 (top_entries (tree_of format p) + 1)) e in
            absurd (omega (arith, all, same, zero_rows, some))

    mutual
      aged_all : (p : Placed) → AllByRecursion StoodOrNew (placed_nodes p)
          → AllByRecursion (λ q. passing format was_free (top_rows q) ≡ new_rows_of format
          (tree_of format o) q)
          (placed_nodes p) → AllByRecursion Aged (placed_nodes p)
      aged_all none all same = tt
      aged_all (head at layer chain) all same = (
        node_aged (head at layer chain) all.0 same.0 (omega arith),
        aged_below chain all.1
            same.1,
      )

      aged_below : (chain : Chain) → AllByRecursion StoodOrNew (chain_nodes chain)
          → AllByRecursion (λ q. passing format was_free (top_rows q) ≡ new_rows_of format
          (tree_of format o) q)
          (chain_nodes chain) → AllByRecursion Aged (chain_nodes chain)
      aged_below (end child) all same = aged_all child all same
      aged_below (cell at child key value rest) all same =
          all-append Aged (placed_nodes child) (chain_nodes rest)
          (aged_all child (all-front _ (placed_nodes child) (chain_nodes rest) all)
          (all-front _ (placed_nodes child) (chain_nodes rest) same))
          (aged_below rest (all-back _ (placed_nodes child) (chain_nodes rest) all)
          (all-back _ (placed_nodes child) (chain_nodes rest) same))

    pub aged : HasRows after (rows_of format w) → IsMade new w → ((r : ℕ) → times r (used w) ≤ 1)
        → free_count new.lives + new_rows (tree_of format o) (tree_of format w) ≡ free_count
        old.lives → AllByRecursion Aged (placed_nodes w)
    aged has made once count =
        let all = each w has (λ r i. i) made in
        let taken = count_change old new (used o) (used w) change once in
        let sums : over format (λ q. passing format was_free (top_rows q)) (placed_nodes w)
        ≤ over format
        (new_rows_of format (tree_of format o)) (placed_nodes w) =
        omega (
          arith,
          taken,
          count,
          passing_length format was_free (used w),
          passing_over format was_free w,
          new_rows_fresh (tree_of format w) (tree_of format o),
          fresh_over format (tree_of format o) w,
        )
        in
        aged_all w all
        (squeezed format (λ q. passing format was_free (top_rows q))
        (new_rows_of format (tree_of format o))
        (placed_nodes w) (rows_le w all) sums)
