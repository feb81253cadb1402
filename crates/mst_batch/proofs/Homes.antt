-- Which node of a tree is kept: a look-up of one of its keys in the tree that stands finds the only
-- candidate, and the tree is that node exactly if layer, entries and the plans of the gaps agree.
use Rattle.mst_batch.proofs.Names.{◌≡◌, ℕ, ◌+◌, Bool, true, inl, inr, Less, Equal, Greater, List, ◌∷◌, refl, sym, ◌∙◌, ap, subst, if◌then◌else◌, Contains, AllByRecursion, Contains-append_left, Contains-append_right, Contains-append_cases, Pair, IsAscending, key_cmp, Format, alls-front, alls-back, equal_from_same, IsAscending-below, contains-cases, contains-nothing, contains-first, contains-later, is_subtree, Entries, pairs, entries_pairs, IsMst, IsMstEntries, Content, Placed, none, head, Chain, end, cell, tree_of, entries_of, link_of, rows_of, HasRows, one_placed, HasEntry, rest_rises, child_rises, placed_nodes, chain_nodes, link_among, node_at, plan_beside, entries_beside, link_of_key, chain_link, kept_entries, Matches, kept, made, last, entry, entries_planned}
use Rattle.std.proofs.lemmas.Bool.{false_from_ne_true}
use Rattle.mst_key.proofs.KeyOrder.{greater_from_less}
use Rattle.mst_key.proofs.Splits.{IsAscending-above}
use Rattle.mst_node.specs.Tree as tree
use Rattle.mst_node.proofs.InTrees.{is_old}
use Rattle.mst_change.proofs.Choices.{chosen}
use Rattle.mst_change.proofs.Cost.Home.{HasKey, TopKey, key_holds, top_key_holds, some_key}
use Rattle.mst_path.proofs.lemmas.versions.NodeSums.{node_in}
use Rattle.mst_batch.proofs.Besides.{node_rows, node_found, nothing_at, found, entries_is}

own_node : (p : Placed) (row layer : ℕ) (chain : Chain) → p ≡ head row layer chain
    → Contains (placed_nodes p) p
own_node none row layer chain is = absurd cc
own_node (head r k c) row layer chain is =
    contains-first (head r k c) (chain_nodes c) (head r k c) refl

-- a node of a node of a tree is a node of the tree
mutual
  pub node_below : (w p q : Placed) → Contains (placed_nodes w) p → Contains (placed_nodes p) q
      → Contains (placed_nodes w) q
  node_below none p q has below = absurd (contains-nothing p has)
  node_below (head at layer chain) p q has below =
      elim (contains-cases (head at layer chain) (chain_nodes chain) p has) [
        | inl same ↦ subst (λ (r : Placed). Contains (placed_nodes r) q) (sym same) below
        | inr later ↦ contains-later (head at layer chain) (chain_nodes chain) q
            (chain_below chain p q later below)
      ]

  chain_below : (c : Chain) (p q : Placed) → Contains (chain_nodes c) p
      → Contains (placed_nodes p) q → Contains (chain_nodes c) q
  chain_below (end child) p q has below = node_below child p q has below
  chain_below (cell at child key value rest) p q has below =
      elim (Contains-append_cases (placed_nodes child) (chain_nodes rest) p has) [
        | inl k ↦ Contains-append_left (placed_nodes child) (chain_nodes rest) q
            (node_below child p q k below)
        | inr k ↦ Contains-append_right (placed_nodes child) (chain_nodes rest) q
            (chain_below rest p q k below)
      ]

module _ (format : Format) where
  -- ---- what holds of the pairs of a placed tree holds of those of its nodes

  module _ (P : Pair → Type 0) where
    mutual
      node_pairs : (w p : Placed) → Contains (placed_nodes w) p
          → AllByRecursion P (pairs (tree_of format w))
          → AllByRecursion P (pairs (tree_of format p))
      node_pairs none p has all = absurd (contains-nothing p has)
      node_pairs (head at layer chain) p has all =
          elim (contains-cases (head at layer chain) (chain_nodes chain) p has) [
            | inl same ↦
                subst (λ (r : Placed). AllByRecursion P (pairs (tree_of format r))) same all
            | inr later ↦ chain_pairs chain p later all
          ]

      chain_pairs : (c : Chain) (p : Placed) → Contains (chain_nodes c) p
          → AllByRecursion P (entries_pairs (entries_of format c))
          → AllByRecursion P (pairs (tree_of format p))
      chain_pairs (end child) p has all = node_pairs child p has all
      chain_pairs (cell at child key value rest) p has all =
          elim (Contains-append_cases (placed_nodes child) (chain_nodes rest) p has) [
            | inl k ↦ node_pairs child p k
                (alls-front P (pairs (tree_of format child))
                ((key, value) ∷ entries_pairs (entries_of format rest)) all)
            | inr k ↦ chain_pairs rest p k
                (alls-back P (pairs (tree_of format child))
                ((key, value) ∷ entries_pairs (entries_of format rest)) all).1
          ]

  -- ---- a look-up of a key finds the node that has it

  link_here : (c : Chain) (here : ℕ) (q : List ℕ)
      → IsAscending (entries_pairs (entries_of format c)) → HasKey q (entries_of format c)
      → chain_link q here c ≡ here
  link_here (end child) here q rise has = absurd has
  link_here (cell at child key value rest) here q rise (inl is) =
      chosen (key_cmp q key) Equal (link_of_key q child) here (chain_link q here rest)
      (equal_from_same q key is)
  link_here (cell at child key value rest) here q rise (inr has) =
      let less = key_holds (λ (x : List ℕ). key_cmp key x ≡ Less) (entries_of format rest) q has
      (IsAscending-above (pairs (tree_of format child)) (entries_pairs (entries_of format rest))
      (key, value) rise) in
      chosen (key_cmp q key) Greater (link_of_key q child) here (chain_link q here rest)
      (greater_from_less key q less)
      ∙ link_here rest here q
      (rest_rises (tree_of format child) key value (entries_of format rest) rise) has

  mutual
    pub link_home : (w p : Placed) (q : List ℕ) → IsAscending (pairs (tree_of format w))
        → Contains (placed_nodes w) p → TopKey q (tree_of format p)
        → link_of_key q w ≡ link_of p
    link_home none p q rise has top = absurd (contains-nothing p has)
    link_home (head at layer chain) p q rise has top =
        elim (contains-cases (head at layer chain) (chain_nodes chain) p has) [
          | inl same ↦
              link_here chain (at + 1) q rise
              (subst (λ (r : Placed). TopKey q (tree_of format r)) (sym same) top)
              ∙ ap link_of same
          | inr later ↦ chain_home chain (at + 1) p q rise later top
        ]

    chain_home : (c : Chain) (here : ℕ) (p : Placed) (q : List ℕ)
        → IsAscending (entries_pairs (entries_of format c)) → Contains (chain_nodes c) p
        → TopKey q (tree_of format p) → chain_link q here c ≡ link_of p
    chain_home (end child) here p q rise has top = link_home child p q rise has top
    chain_home (cell at child key value rest) here p q rise has top =
        elim (Contains-append_cases (placed_nodes child) (chain_nodes rest) p has) [
          | inl k ↦
              let less = top_key_holds (λ (x : List ℕ). key_cmp x key ≡ Less) (tree_of format p) q
              top (node_pairs (λ (r : Pair). key_cmp r.0 key ≡ Less) child p k
              (IsAscending-below (pairs (tree_of format child))
              (entries_pairs (entries_of format rest)) (key, value) rise)) in
              chosen (key_cmp q key) Less (link_of_key q child) here (chain_link q here rest) less
              ∙ link_home child p q
              (child_rises (tree_of format child) key value (entries_of format rest) rise) k top
          | inr k ↦
              let less = top_key_holds (λ (x : List ℕ). key_cmp key x ≡ Less) (tree_of format p) q
              top (chain_pairs (λ (r : Pair). key_cmp key r.0 ≡ Less) rest p k
              (IsAscending-above (pairs (tree_of format child))
              (entries_pairs (entries_of format rest)) (key, value) rise)) in
              chosen (key_cmp q key) Greater (link_of_key q child) here (chain_link q here rest)
              (greater_from_less key q less)
              ∙ chain_home rest here p q
              (rest_rises (tree_of format child) key value (entries_of format rest) rise) k top
        ]

module _ (format : Format) (content : Content) (whole : Placed)
    (has : HasRows content (rows_of format whole))
    (rise : IsAscending (pairs (tree_of format whole))) where
  abbrev at : ℕ → Placed
  at link = node_at whole link

  -- ---- a node that stands is kept at its link

  module _ (g : Format) (l : ℕ) (es : Entries) (q : List ℕ) (own : HasKey q es) where
    -- the link of a tree that stands is the one that the look-up finds
    link_found : is_subtree (tree.node g l es) (tree_of format whole) ≡ true
        → link_among format (placed_nodes whole) (tree.node g l es) ≡ link_of_key q whole
    link_found is =
        let f = found format content whole has (tree.node g l es) is in
        sym f.1 ∙ sym (link_home format whole
        (at (link_among format (placed_nodes whole) (tree.node g l es))) q rise f.0
        (subst (TopKey q) (sym f.2) own))

  pub kept_plan : (p : Placed) → IsMst format (tree_of format p)
      → ((row layer : ℕ) (chain : Chain) → p ≡ head row layer chain
      → Contains (placed_nodes whole) p)
      → plan_beside format whole (tree_of format p) ≡ kept (link_of p)
  kept_plan none mst inside = refl
  kept_plan (head row layer chain) mst inside =
      let here = inside row layer chain refl in
      let t = tree.node format layer (entries_of format chain) in
      let is : is_subtree (tree_of format (head row layer chain)) (tree_of format whole) ≡ true =
      is_old (tree_of format (head row layer chain)) (tree_of format whole)
      (node_in format whole (head row layer chain) here) in
      let k = some_key (entries_of format chain) mst.1 in
      let link : link_among format (placed_nodes whole) (tree_of format (head row layer chain))
      ≡ row + 1 =
      link_found format layer (entries_of format chain) k.0 k.1 is
      ∙ link_home format whole (head row layer chain) k.0 rise here k.1 in
      ap (λ (b : Bool). if b
      then kept (link_among format (placed_nodes whole) (tree_of format (head row layer chain)))
      else made layer (entries_beside format whole (entries_of format chain))) is
      ∙ ap kept link

  kept_chain : (l : ℕ) (c : Chain) → IsMstEntries format l (entries_of format c)
      → ((r : Placed) → Contains (chain_nodes c) r → Contains (placed_nodes whole) r)
      → entries_beside format whole (entries_of format c) ≡ kept_entries c
  kept_chain l (end child) mst inside =
      ap last (kept_plan child mst.1 (λ row layer chain is. inside child
      (own_node child row layer chain is)))
  kept_chain l (cell row child key value rest) mst inside =
      let one = kept_plan child mst.1 (λ r layer chain is. inside child
      (Contains-append_left (placed_nodes child) (chain_nodes rest) child
      (own_node child r layer chain is))) in
      let more = kept_chain l rest mst.3 (λ r k. inside r
      (Contains-append_right (placed_nodes child) (chain_nodes rest) r k)) in
      λ i. entry (one i) key value (more i)

  -- ---- what matches it is that node

  -- the node at a link that a node has
  at_link : (p : Placed) → ((row layer : ℕ) (chain : Chain) → p ≡ head row layer chain
      → Contains (placed_nodes whole) p) → at (link_of p) ≡ p
  at_link none inside = nothing_at format content whole has
  at_link (head row layer chain) inside =
      let here = inside row layer chain refl in
      let f = node_found (placed_nodes whole) (head row layer chain) here in
      one_placed format content (at (row + 1)) (head row layer chain) f.1
      (node_rows format content whole (at (row + 1)) f.0 has)
      (node_rows format content whole (head row layer chain) here has)

  entries_at : (c : Chain)
      → ((r : Placed) → Contains (chain_nodes c) r → Contains (placed_nodes whole) r)
      → entries_planned format at (kept_entries c) ≡ entries_of format c
  entries_at (end child) inside =
      ap (λ (p : Placed). tree.last (tree_of format p))
      (at_link child (λ row layer chain is. inside child (own_node child row layer chain is)))
  entries_at (cell row child key value rest) inside =
      let one = at_link child (λ r layer chain is. inside child
      (Contains-append_left (placed_nodes child) (chain_nodes rest) child
      (own_node child r layer chain is))) in
      let more = entries_at rest (λ r k. inside r
      (Contains-append_right (placed_nodes child) (chain_nodes rest) r k)) in
      λ i. tree.entry (tree_of format (one i)) key value (more i)

  -- the nodes below a node of the tree are nodes of the tree
  below_node : (w p : Placed) (row layer : ℕ) (chain : Chain)
      → Contains (placed_nodes w) (head row layer chain) → Contains (chain_nodes chain) p
      → Contains (placed_nodes w) p
  below_node w p row layer chain inside below =
      node_below w (head row layer chain) p inside
      (contains-later (head row layer chain) (chain_nodes chain) p below)

  module _ (l : ℕ) (es : Entries) (q : List ℕ) (own : HasKey q es)
      (mst : IsMst format (tree.node format l es)) where
    pub match_kept : Matches whole (link_of_key q whole) l (entries_beside format whole es)
        → plan_beside format whole (tree.node format l es) ≡ kept (link_of_key q whole)
    match_kept match =
        let row = match.0 in
        let chain = match.1 in
        let here = match.2 in
        let below : (r : Placed) → Contains (chain_nodes match.1) r
        → Contains (placed_nodes whole) r =
        λ r k. below_node whole r match.0 l match.1 match.2 k in
        let same : es ≡ entries_of format match.1 =
        sym (entries_is format content whole has l es mst.2)
        ∙ ap (entries_planned format at) match.4 ∙ entries_at match.1 below in
        let top : IsMst format (tree.node format l (entries_of format match.1)) =
        subst (λ (fs : Entries). IsMst format (tree.node format l fs)) same mst in
        ap (λ (fs : Entries). plan_beside format whole (tree.node format l fs)) same
        ∙ kept_plan (head match.0 l match.1) top (λ r k c is. match.2) ∙ ap kept match.3

    stands_match : is_subtree (tree.node format l es) (tree_of format whole) ≡ true
        → Matches whole (link_of_key q whole) l (entries_beside format whole es)
    stands_match is =
        let f = found format content whole has (tree.node format l es) is in
        go (at (link_among format (placed_nodes whole) (tree.node format l es))) f.0
        (f.1 ∙ link_found format l es q own is) f.2
      where
        go : (p : Placed) → Contains (placed_nodes whole) p → link_of p ≡ link_of_key q whole
            → tree_of format p ≡ tree.node format l es
            → Matches whole (link_of_key q whole) l (entries_beside format whole es)
        go none here link is = absurd cc
        go (head row k chain) here link is =
            let layer : k ≡ l = cc in
            let entries : entries_of format chain ≡ es = cc in
            let below : (r : Placed) → Contains (chain_nodes chain) r
            → Contains (placed_nodes whole) r =
            λ r j. below_node whole r row k chain here j in
            let search : IsMstEntries format l (entries_of format chain) =
            subst (IsMstEntries format l) (sym entries) mst.2 in (
              row,
              chain,
              subst (λ (n : ℕ). Contains (placed_nodes whole) (head row n chain)) layer here,
              link,
              ap (entries_beside format whole) (sym entries) ∙ kept_chain l chain search below,
            )

    pub other_made : (Matches whole (link_of_key q whole) l (entries_beside format whole es) → ⊥)
        → plan_beside format whole (tree.node format l es)
        ≡ made l (entries_beside format whole es)
    other_made other =
        ap (λ (b : Bool). if b
        then kept (link_among format (placed_nodes whole) (tree.node format l es))
        else made l (entries_beside format whole es))
        (false_from_ne_true (is_subtree (tree.node format l es) (tree_of format whole))
        (λ is. other (stands_match is)))

-- ---- the key is that of an entry

pub key_of_entry : (es : Entries) (q : List ℕ) → HasEntry q es → HasKey q es
key_of_entry (tree.last child) q has = has
key_of_entry (tree.entry child key value rest) q (inl is) = inl is
key_of_entry (tree.entry child key value rest) q (inr has) = inr (key_of_entry rest q has)
