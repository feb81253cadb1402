-- The plan of a tree beside one that stands: it is that tree, it takes the rows that are counted,
-- and it can be carried out.
use Rattle.mst_batch.proofs.Names.{◌≡◌, ℕ, ◌+◌, ◌<◌, ◌≤◌, eqb, Bool, true, false, ◌||◌, ◌⊎◌, List, [], ◌∷◌, ◌++◌, map, refl, sym, ◌∙◌, ap, subst, arith, inl, inr, true≢false, if◌then◌else◌, Contains, list_any, nat_tests, map-append, Contains-append_left, Contains-append_right, Contains-append_cases, IsAscending, Format, contains-cases, contains-nothing, contains-first, contains-later, is_subtree, Tree, Entries, entry_count, pairs, entries_pairs, IsMst, IsMstEntries, Content, In, times, bit, State, Placed, none, head, Chain, end, cell, tree_of, entries_of, link_of, rows_of, chain_rows, used, HasRows, times-append, all-front, all-back, one_placed, rows_beside, placed_nodes, chain_nodes, IsOld, OldPiece, at_self, in_either, link_among, node_at, plan_beside, entries_beside, links_kept, entries_links, AreMarks, is_marked, PlanTree, PlanEntries, kept, made, last, entry, tree_planned, entries_planned, rows_planned, entries_rows, rows_kept, entries_kept, EachKept, EachKeptBelow, IsPlan, IsMarkedNode, trees_kept, entries_trees, Keeps}
use Rattle.mst_node.specs.Cost.{subtrees, entries_subtrees, same_tree}
use Rattle.mst_node.specs.Tree as tree
use Rattle.mst_node.proofs.SameTrees.{tree_from_same}
use Rattle.mst_change.specs.Batch as batch
use Rattle.mst_batch.specs.Beside.{node_among}
use Rattle.mst_batch.proofs.Replaced.{node_inside_chain}
use Rattle.mst_batch.proofs.RowKeys.{keyed, keyed-append, keyed_once, Fewer, key_of}

-- ---- a node is found by its link

-- what the node that is found has
abbrev pub FoundAmong : List Placed → ℕ → Placed → Type 0
FoundAmong ps link q = Contains ps q × (link_of q ≡ link)

found_now : (b : Bool) (r p : Placed) (ps : List Placed) → eqb (link_of r) (link_of p) ≡ b
    → (r ≡ p) ⊎ Contains ps p
    → (Contains ps p → FoundAmong ps (link_of p) (node_among ps (link_of p)))
    → FoundAmong (r ∷ ps) (link_of p) (if b then r else node_among ps (link_of p))
found_now true r p ps e which more = (contains-first r ps r refl, grind (arith, nat_tests, e))
found_now false r p ps e (inl same) more =
    let links : link_of r ≡ link_of p = ap link_of same in
    absurd (true≢false (sym (grind (arith, nat_tests, links)) ∙ e))
found_now false r p ps e (inr later) more =
    let f = more later in
    (contains-later r ps (node_among ps (link_of p)) f.0, f.1)

pub node_found : (ps : List Placed) (p : Placed) → Contains ps p
    → FoundAmong ps (link_of p) (node_among ps (link_of p))
node_found [] p has = absurd (contains-nothing p has)
node_found (r ∷ ps) p has =
    found_now (eqb (link_of r) (link_of p)) r p ps refl (contains-cases r ps p has)
    (λ later. node_found ps p later)

none_among : (ps : List Placed) → node_among ps 0 ≡ none
none_among [] = refl
none_among (none ∷ ps) = refl
none_among (head i l c ∷ ps) =
    let e : eqb (i + 1) 0 ≡ false = grind (arith, nat_tests) in
    ap (λ (b : Bool). if b then head i l c else node_among ps 0) e ∙ none_among ps

-- ---- a node is found by its tree

module _ (format : Format) where
  mutual
    subtrees_placed : (p : Placed)
        → subtrees (tree_of format p) ≡ map (tree_of format) (placed_nodes p)
    subtrees_placed none = refl
    subtrees_placed (head at layer chain) =
        ap (λ (ts : List Tree). tree_of format (head at layer chain) ∷ ts) (chain_subtrees chain)

    chain_subtrees : (c : Chain)
        → entries_subtrees (entries_of format c) ≡ map (tree_of format) (chain_nodes c)
    chain_subtrees (end child) = subtrees_placed child
    chain_subtrees (cell at child key value rest) =
        (λ i. subtrees_placed child i ++ chain_subtrees rest i)
        ∙ sym (map-append (tree_of format) (placed_nodes child) (chain_nodes rest))

  -- the first node whose tree this is
  abbrev FirstOf : Tree → List Placed → ℕ → Type 0
  FirstOf t ps link =
      (q : Placed) × Contains ps q × (tree_of format q ≡ t) × (link ≡ link_of q)

  first_now : (b : Bool) (t : Tree) (p : Placed) (ps : List Placed)
      → same_tree t (tree_of format p) ≡ b
      → (b || list_any (same_tree t) (map (tree_of format) ps)) ≡ true
      → (list_any (same_tree t) (map (tree_of format) ps) ≡ true
      → FirstOf t ps (link_among format ps t))
      → FirstOf t (p ∷ ps) (if b then link_of p else link_among format ps t)
  first_now true t p ps e is more =
      (p, contains-first p ps p refl, sym (tree_from_same t (tree_of format p) e), refl)
  first_now false t p ps e is more =
      let r = more is in (r.0, contains-later p ps r.0 r.1, r.2, r.3)

  first_of_tree : (t : Tree) (ps : List Placed)
      → list_any (same_tree t) (map (tree_of format) ps) ≡ true
      → FirstOf t ps (link_among format ps t)
  first_of_tree t [] is = absurd (true≢false (sym is))
  first_of_tree t (p ∷ ps) is =
      first_now (same_tree t (tree_of format p)) t p ps refl is (λ rest. first_of_tree t ps rest)

  -- ---- the nodes of a tree that stands stand

  mutual
    pub node_rows : (content : Content) (p q : Placed) → Contains (placed_nodes p) q
        → HasRows content (rows_of format p) → HasRows content (rows_of format q)
    node_rows content none q has rows = absurd (contains-nothing q has)
    node_rows content (head at layer chain) q has rows =
        elim (contains-cases (head at layer chain) (chain_nodes chain) q has) [
          | inl same ↦ subst (λ (r : Placed). HasRows content (rows_of format r)) same rows
          | inr later ↦ chain_node_rows content chain q later rows.1
        ]

    chain_node_rows : (content : Content) (c : Chain) (q : Placed) → Contains (chain_nodes c) q
        → HasRows content (chain_rows format c) → HasRows content (rows_of format q)
    chain_node_rows content (end child) q has rows = node_rows content child q has rows
    chain_node_rows content (cell at child key value rest) q has rows =
        elim (Contains-append_cases (placed_nodes child) (chain_nodes rest) q has) [
          | inl k ↦ node_rows content child q k
              (all-front _ (rows_of format child) (chain_rows format rest) rows.1)
          | inr k ↦ chain_node_rows content rest q k
              (all-back _ (rows_of format child) (chain_rows format rest) rows.1)
        ]

-- ---- a list of one link

in_own : (x link : ℕ) → x ≡ link → In x (link ∷ [])
in_own x link is = subst (λ (n : ℕ). In x (n ∷ [])) is (omega (arith, at_self x))

one_link : (l link : ℕ) → In link (l ∷ []) → l ≡ link
one_link l link i = go (eqb link l) refl i
  where
    go : (b : Bool) → eqb link l ≡ b → 0 < bit b + 0 → l ≡ link
    go true e some = grind (arith, nat_tests, e)
    go false e some = absurd (omega (arith, some))

-- ---- a plan whose node is kept if it stands

each_if : (P : ℕ → Type 0) (b : Bool) (link : ℕ) (plan : PlanTree) → (b ≡ true → P link)
    → EachKept P plan → EachKept P (if b then kept link else plan)
each_if P true link plan here below = here refl
each_if P false link plan here below = below

tree_if : (format : Format) (at : ℕ → Placed) (b : Bool) (link : ℕ) (plan : PlanTree) (t : Tree)
    → (b ≡ true → tree_of format (at link) ≡ t) → tree_planned format at plan ≡ t
    → tree_planned format at (if b then kept link else plan) ≡ t
tree_if format at true link plan t here below = here refl
tree_if format at false link plan t here below = below

rows_if : (b : Bool) (link : ℕ) (plan : PlanTree) (n : ℕ) → rows_planned plan ≡ n
    → rows_planned (if b then kept link else plan) ≡ (if b then 0 else n)
rows_if true link plan n below = refl
rows_if false link plan n below = below

kept_if : (at : ℕ → Placed) (x : ℕ) (b : Bool) (link : ℕ) (plan : PlanTree) (n : ℕ)
    → (b ≡ true → times x (used (at link)) ≤ n) → times x (rows_kept at plan) ≤ n
    → times x (rows_kept at (if b then kept link else plan)) ≤ n
kept_if at x true link plan n here below = here refl
kept_if at x false link plan n here below = below

module _ (format : Format) (content : Content) (whole : Placed)
    (has : HasRows content (rows_of format whole)) where
  abbrev pub at : ℕ → Placed
  at link = node_at whole link

  abbrev pub old : Tree
  old = tree_of format whole

  -- the node of the tree that a kept link leads to
  abbrev pub Found : Tree → ℕ → Type 0
  Found t link =
      Contains (placed_nodes whole) (at link) × (link_of (at link) ≡ link)
      × (tree_of format (at link) ≡ t)

  pub found : (t : Tree) → is_subtree t old ≡ true
      → Found t (link_among format (placed_nodes whole) t)
  found t is =
      let r = first_of_tree format t (placed_nodes whole)
      (ap (list_any (same_tree t)) (sym (subtrees_placed format whole)) ∙ is) in
      let f = node_found (placed_nodes whole) r.0 r.1 in
      let same : at (link_of r.0) ≡ r.0 =
      one_placed format content (at (link_of r.0)) r.0 f.1
      (node_rows format content whole (at (link_of r.0)) f.0 has)
      (node_rows format content whole r.0 r.1 has) in
      subst (Found t) (sym r.3) (f.0, f.1, ap (tree_of format) same ∙ r.2)

  pub nothing_at : at 0 ≡ none
  nothing_at = none_among (placed_nodes whole)

  -- ---- its tree, and its rows

  mutual
    pub plan_is : (t : Tree) → IsMst format t
        → tree_planned format at (plan_beside format whole t) ≡ t
    plan_is tree.empty mst = ap (tree_of format) nothing_at
    plan_is (tree.node g l es) mst =
        tree_if format at (is_subtree (tree.node g l es) old)
        (link_among format (placed_nodes whole) (tree.node g l es))
        (made l (entries_beside format whole es)) (tree.node g l es)
        (λ is. (found (tree.node g l es) is).2)
        (λ i. tree.node (sym mst.0 i) l (entries_is l es mst.2 i))

    pub entries_is : (l : ℕ) (es : Entries) → IsMstEntries format l es
        → entries_planned format at (entries_beside format whole es) ≡ es
    entries_is l (tree.last child) mst = ap tree.last (plan_is child mst.1)
    entries_is l (tree.entry child key value rest) mst =
        λ i. tree.entry (plan_is child mst.1 i) key value (entries_is l rest mst.3 i)

  mutual
    pub plan_rows : (t : Tree) → rows_planned (plan_beside format whole t) ≡ rows_beside old t
    plan_rows tree.empty = refl
    plan_rows (tree.node g l es) =
        rows_if (is_subtree (tree.node g l es) old)
        (link_among format (placed_nodes whole) (tree.node g l es))
        (made l (entries_beside format whole es))
        (entry_count es + 1 + batch.entries_beside old es)
        (omega (arith, plan_entries_rows es))

    plan_entries_rows : (es : Entries) → entries_rows (entries_beside format whole es)
        ≡ entry_count es + batch.entries_beside old es
    plan_entries_rows (tree.last child) = omega (arith, plan_rows child)
    plan_entries_rows (tree.entry child key value rest) =
        omega (arith, plan_rows child, plan_entries_rows rest)

  -- ---- what it keeps

  module _ (P : ℕ → Type 0) (nothing : P 0)
      (here : (t : Tree) (link : ℕ) → Found t link → P link) where
    mutual
      each_beside : (t : Tree) → EachKept P (plan_beside format whole t)
      each_beside tree.empty = nothing
      each_beside (tree.node g l es) =
          each_if P (is_subtree (tree.node g l es) old)
          (link_among format (placed_nodes whole) (tree.node g l es))
          (made l (entries_beside format whole es))
          (λ is. here (tree.node g l es)
          (link_among format (placed_nodes whole) (tree.node g l es))
          (found (tree.node g l es) is))
          (each_below es)

      each_below : (es : Entries) → EachKeptBelow P (entries_beside format whole es)
      each_below (tree.last child) = each_beside child
      each_below (tree.entry child key value rest) = (each_beside child, each_below rest)

  -- a row is no more often in the trees that are kept than the key of its node in the whole tree
  module _ (x : ℕ) (q : List ℕ) (fewer : Fewer format x q (placed_nodes whole)) where
    no_more : (t : Tree) (link : ℕ) → Found t link → times x (used (at link)) ≤ keyed q (pairs t)
    no_more t link f =
        subst (λ (u : Tree). times x (used (at link)) ≤ keyed q (pairs u)) f.2 (fewer (at link) f.0)

    mutual
      kept_fewer : (t : Tree)
          → times x (rows_kept at (plan_beside format whole t)) ≤ keyed q (pairs t)
      kept_fewer tree.empty = omega (arith, ap (λ (p : Placed). times x (used p)) nothing_at)
      kept_fewer (tree.node g l es) =
          kept_if at x (is_subtree (tree.node g l es) old)
          (link_among format (placed_nodes whole) (tree.node g l es))
          (made l (entries_beside format whole es)) (keyed q (entries_pairs es))
          (λ is. no_more (tree.node g l es)
          (link_among format (placed_nodes whole) (tree.node g l es))
          (found (tree.node g l es) is))
          (entries_fewer es)

      entries_fewer : (es : Entries)
          → times x (entries_kept at (entries_beside format whole es)) ≤ keyed q (entries_pairs es)
      entries_fewer (tree.last child) = kept_fewer child
      entries_fewer (tree.entry child key value rest) =
          omega (
            arith,
            kept_fewer child,
            entries_fewer rest,
            times-append x (rows_kept at (plan_beside format whole child))
                (entries_kept at (entries_beside format whole rest)),
            keyed-append q (pairs child) ((key, value) ∷ entries_pairs rest),
          )

  module _ (s : State) (dies : (r : ℕ) → In r (used whole) → IsOld s r) where
    piece_nothing : OldPiece format content s (at 0)
    piece_nothing = subst (OldPiece format content s) (sym nothing_at)
        (record { rows = tt; old = λ r i. absurd (omega (arith, i)) })

    piece_found : (t : Tree) (link : ℕ) → Found t link → OldPiece format content s (at link)
    piece_found t link f = record {
      rows = node_rows format content whole (at link) f.0 has;
      old = λ r i. dies r (node_inside_chain (end whole) (at link) r f.0 i);
    }

    pub plan_possible : IsMst format old → ((x : ℕ) → times x (used whole) ≤ 1) → (t : Tree)
        → IsMst format t → IsAscending (pairs t)
        → IsPlan format at content s (plan_beside format whole t)
    plan_possible standing once t mst rise = record {
      links = each_beside (λ link. link_of (at link) ≡ link) (ap link_of nothing_at)
          (λ u link f. f.1) t;
      stand = each_beside (λ link. OldPiece format content s (at link)) piece_nothing piece_found t;
      once = λ x.
          let k = key_of format x whole standing (once x) in
          omega (arith, kept_fewer x k.0 k.1 t, keyed_once k.0 (pairs t) rise);
      search = subst (IsMst format) (sym (plan_is t mst)) mst;
    }

  -- ---- its marks

  module _ (marks : List Bool) where
    -- what is known of each kept link makes it that of a marked node
    abbrev Known : ℕ → Type 0
    Known link = (link_of (at link) ≡ link)
        × ((at link ≡ none) ⊎ Contains (placed_nodes whole) (at link))

    marked_node : (link : ℕ) → Known link
        → ((row : ℕ) → row + 1 ≡ link → is_marked marks row ≡ true)
        → IsMarkedNode marks whole (at link)
    marked_node link known marked = go (at link) known.0 known.1
      where
        go : (p : Placed) → link_of p ≡ link → (p ≡ none) ⊎ Contains (placed_nodes whole) p
            → IsMarkedNode marks whole p
        go none is which = tt
        go (head i l c) is (inl nothing) = absurd cc
        go (head i l c) is (inr inside) = (inside, marked i is)

    mutual
      nodes_marked : (plan : PlanTree) → EachKept Known plan
          → ((row : ℕ) → In (row + 1) (links_kept plan) → is_marked marks row ≡ true)
          → EachKept (λ link. IsMarkedNode marks whole (at link)) plan
      nodes_marked (kept link) known marked =
          marked_node link known (λ row is. marked row (in_own (row + 1) link is))
      nodes_marked (made l es) known marked = entries_marked es known marked

      entries_marked : (es : PlanEntries) → EachKeptBelow Known es
          → ((row : ℕ) → In (row + 1) (entries_links es) → is_marked marks row ≡ true)
          → EachKeptBelow (λ link. IsMarkedNode marks whole (at link)) es
      entries_marked (last child) known marked = nodes_marked child known marked
      entries_marked (entry child key value rest) known marked = (
        nodes_marked child known.0 (λ row i. marked row
            (omega (arith, i, times-append (row + 1) (links_kept child) (entries_links rest)))),
        entries_marked rest known.1 (λ row i. marked row
            (omega (arith, i, times-append (row + 1) (links_kept child) (entries_links rest)))),
      )

    mutual
      tree_of_link : (plan : PlanTree) (link : ℕ) → In link (links_kept plan)
          → Contains (trees_kept at plan) (at link)
      tree_of_link (kept l) link i =
          let same : l ≡ link = one_link l link i in
          contains-first (at l) [] (at link) (ap at same)
      tree_of_link (made l es) link i = tree_of_entries es link i

      tree_of_entries : (es : PlanEntries) (link : ℕ) → In link (entries_links es)
          → Contains (entries_trees at es) (at link)
      tree_of_entries (last child) link i = tree_of_link child link i
      tree_of_entries (entry child key value rest) link i =
          elim (in_either link (links_kept child) (entries_links rest) i) [
            | inl k ↦ Contains-append_left (trees_kept at child) (entries_trees at rest) (at link)
                (tree_of_link child link k)
            | inr k ↦ Contains-append_right (trees_kept at child) (entries_trees at rest) (at link)
                (tree_of_entries rest link k)
          ]

    pub plan_keeps : (t : Tree) → AreMarks marks (plan_beside format whole t)
        → Keeps at marks whole (plan_beside format whole t)
    plan_keeps t only = record {
      nodes = nodes_marked (plan_beside format whole t)
          (each_beside Known (ap link_of nothing_at, inl nothing_at) (λ u link f. (f.1, inr f.0)) t)
          (λ row i. (only row).1 i);
      all = λ row layer chain inside marked.
          let f = node_found (placed_nodes whole) (head row layer chain) inside in
          let same : at (row + 1) ≡ head row layer chain =
          one_placed format content (at (row + 1)) (head row layer chain) f.1
          (node_rows format content whole (at (row + 1)) f.0 has)
          (node_rows format content whole (head row layer chain) inside has) in
          subst (Contains (trees_kept at (plan_beside format whole t))) same
          (tree_of_link (plan_beside format whole t) (row + 1) ((only row).0 marked));
    }
