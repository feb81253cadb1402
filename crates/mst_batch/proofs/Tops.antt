-- The top of items: where a tree of the greatest layer is opened, the items have the same pairs,
-- and then a pair is of that layer.
use Rattle.mst_batch.proofs.Names.{◌≡◌, ◌≢◌, ℕ, ◌+◌, ◌<◌, ◌≤◌, max, ◌==◌, Bool, true, false, ◌||◌, inl, inr, List, [], ◌∷◌, ◌++◌, refl, sym, ◌∙◌, ap, subst, arith, true≢false, append_assoc, Contains, if◌then◌else◌, option_and_then, AllByRecursion, list_any, flat_map, nat_tests, append-nil, Contains-append_left, Contains-append_right, Contains-append_cases, Format, Pair, alls-append, contains-cases, contains-nothing, contains-first, contains-later, entry_count, pairs, entries_pairs, IsMst, IsMstEntries, IsUnder, Content, entry_pair, Placed, none, head, Chain, end, cell, tree_of, entries_of, link_of, rows_of, chain_rows, HasRows, one_placed, all-back, placed_nodes, chain_nodes, node_at, item_pairs, items_pairs, IsItem, layer_of, height_of, IsUpTo, IsPairOf, IsEntryOf, IsStanding, is_tree, tree_items, chain_items, node_items, opened, Item}
use Rattle.mst_batch.specs.declared.items.Item.TheVariants as item
use Rattle.mst_batch.proofs.Besides.{node_found, node_rows}
use Rattle.mst_batch.proofs.Homes.{node_below}
use Rattle.mst_batch.proofs.PairsFound.{pair_found}

-- ---- lists of items

pub items_pairs-append : (format : Format) (whole : Placed) (xs ys : List Item)
    → items_pairs format whole (xs ++ ys)
    ≡ items_pairs format whole xs ++ items_pairs format whole ys
items_pairs-append format whole [] ys = refl
items_pairs-append format whole (x ∷ xs) ys =
    ap (λ (ps : List Pair). item_pairs format whole x ++ ps) (items_pairs-append format whole xs ys)
    ∙ sym (append_assoc (item_pairs format whole x) (items_pairs format whole xs)
    (items_pairs format whole ys))

pub height-append : (xs ys : List Item) → height_of (xs ++ ys) ≡ max (height_of xs) (height_of ys)
height-append [] ys = omega arith
height-append (x ∷ xs) ys = omega (arith, height-append xs ys)

-- ---- the greatest layer

-- a pair of the list is of the layer
abbrev pub HasPair : ℕ → List Item → Type 0
HasPair l xs = (x : Item) × Contains xs x × IsPairOf l x

has_later : (l : ℕ) (x : Item) (xs : List Item) → HasPair l xs → HasPair l (x ∷ xs)
has_later l x xs has = (has.0, contains-later x xs has.0 has.1, has.2)

-- where no tree is of the greatest layer, each tree is below it
pub all_upto : (l : ℕ) (xs : List Item) → height_of xs ≤ l + 1
    → list_any (is_tree l) xs ≡ false → AllByRecursion (IsUpTo l) xs
all_upto l [] low no_tree = tt
all_upto l (item.Put key value n o ∷ xs) low no_tree =
    (omega (arith, low), all_upto l xs (omega (arith, low)) no_tree)
all_upto l (item.Kept row n ∷ xs) low no_tree =
    (omega (arith, low), all_upto l xs (omega (arith, low)) no_tree)
all_upto l (item.Subtree link n ∷ xs) low no_tree =
    go (n == l) refl no_tree (λ rest. all_upto l xs (omega (arith, low)) rest)
  where
    go : (b : Bool) → (n == l) ≡ b → (b || list_any (is_tree l) xs) ≡ false
        → (list_any (is_tree l) xs ≡ false → AllByRecursion (IsUpTo l) xs)
        → (n < l) × AllByRecursion (IsUpTo l) xs
    go true e is more = absurd (true≢false is)
    go false e is more =
        let other : n ≢ l = grind (arith, nat_tests, e) in (omega (arith, low, other), more is)

-- and then a pair is of it
pub some_pair : (l : ℕ) (xs : List Item) → height_of xs ≡ l + 1
    → list_any (is_tree l) xs ≡ false → HasPair l xs
some_pair l [] top no_tree = absurd (omega (arith, top))
some_pair l (item.Put key value n o ∷ xs) top no_tree =
    go (n == l) refl (λ high. some_pair l xs high no_tree)
  where
    go : (b : Bool) → (n == l) ≡ b → (height_of xs ≡ l + 1 → HasPair l xs)
        → HasPair l (item.Put key value n o ∷ xs)
    go true e more = (
      item.Put key value n o,
      contains-first (item.Put key value n o) xs (item.Put key value n o) refl,
      grind (arith, nat_tests, e),
    )
    go false e more =
        let other : n ≢ l = grind (arith, nat_tests, e) in
        has_later l (item.Put key value n o) xs (more (omega (arith, top, other)))
some_pair l (item.Kept row n ∷ xs) top no_tree =
    go (n == l) refl (λ high. some_pair l xs high no_tree)
  where
    go : (b : Bool) → (n == l) ≡ b → (height_of xs ≡ l + 1 → HasPair l xs)
        → HasPair l (item.Kept row n ∷ xs)
    go true e more = (
      item.Kept row n,
      contains-first (item.Kept row n) xs (item.Kept row n) refl,
      grind (arith, nat_tests, e),
    )
    go false e more =
        let other : n ≢ l = grind (arith, nat_tests, e) in
        has_later l (item.Kept row n) xs (more (omega (arith, top, other)))
some_pair l (item.Subtree link n ∷ xs) top no_tree =
    go (n == l) refl no_tree (λ high rest. some_pair l xs high rest)
  where
    go : (b : Bool) → (n == l) ≡ b → (b || list_any (is_tree l) xs) ≡ false
        → (height_of xs ≡ l + 1 → list_any (is_tree l) xs ≡ false → HasPair l xs)
        → HasPair l (item.Subtree link n ∷ xs)
    go true e is more = absurd (true≢false is)
    go false e is more =
        let other : n ≢ l = grind (arith, nat_tests, e) in
        has_later l (item.Subtree link n) xs (more (omega (arith, top, other)) is)

-- ---- a node of the tree that stands, as items

-- the nodes of a search tree are search trees
mutual
  pub node_mst : (format : Format) (w p : Placed) → Contains (placed_nodes w) p
      → IsMst format (tree_of format w) → IsMst format (tree_of format p)
  node_mst format none p has mst = absurd (contains-nothing p has)
  node_mst format (head at layer chain) p has mst =
      elim (contains-cases (head at layer chain) (chain_nodes chain) p has) [
        | inl same ↦ subst (λ (r : Placed). IsMst format (tree_of format r)) same mst
        | inr later ↦ chain_mst format layer chain p later mst.2
      ]

  chain_mst : (format : Format) (l : ℕ) (c : Chain) (p : Placed) → Contains (chain_nodes c) p
      → IsMstEntries format l (entries_of format c) → IsMst format (tree_of format p)
  chain_mst format l (end child) p has mst = node_mst format child p has mst.1
  chain_mst format l (cell at child key value rest) p has mst =
      elim (Contains-append_cases (placed_nodes child) (chain_nodes rest) p has) [
        | inl k ↦ node_mst format child p k mst.1
        | inr k ↦ chain_mst format l rest p k mst.3
      ]

module _ (format : Format) (content : Content) (whole : Placed)
    (s : IsStanding format content whole) where
  -- a node stands at its own link
  pub node_here : (p : Placed) → Contains (placed_nodes whole) p → node_at whole (link_of p) ≡ p
  node_here p here =
      let f = node_found (placed_nodes whole) p here in
      one_placed format content (node_at whole (link_of p)) p f.1
      (node_rows format content whole (node_at whole (link_of p)) f.0 s.rows)
      (node_rows format content whole p here s.rows)

  pub node_is : (link layer : ℕ) (i : IsItem format whole (item.Subtree link layer))
      → node_at whole link ≡ head i.0 layer i.1
  node_is link layer i = ap (node_at whole) i.2 ∙ node_here (head i.0 layer i.1) i.3

  -- all nodes of the tree stand in the whole
  abbrev pub Inside : List Placed → Type 0
  Inside ps = (r : Placed) → Contains ps r → Contains (placed_nodes whole) r

  own : (row layer : ℕ) (chain : Chain)
      → Contains (placed_nodes (head row layer chain)) (head row layer chain)
  own row layer chain =
      contains-first (head row layer chain) (chain_nodes chain) (head row layer chain) refl

  pub tree_pairs : (p : Placed) → Inside (placed_nodes p)
      → items_pairs format whole (tree_items p) ≡ pairs (tree_of format p)
  tree_pairs none inside = refl
  tree_pairs (head row layer chain) inside =
      append-nil (pairs (tree_of format (node_at whole (row + 1))))
      ∙ ap (λ (p : Placed). pairs (tree_of format p))
      (node_here (head row layer chain) (inside (head row layer chain) (own row layer chain)))

  -- wherever the rows of the whole stand, those of the chain do
  abbrev pub Held : Chain → Type 0
  Held c = (x : Content) → HasRows x (rows_of format whole) → HasRows x (chain_rows format c)

  -- an entry of the whole tree, by its row
  entry_told : (row : ℕ) (child : Placed) (key value : List ℕ) (rest : Chain)
      → Held (cell row child key value rest) → IsEntryOf format whole row (key, value)
  entry_told row child key value rest held x rows =
      ap (option_and_then entry_pair) (held x rows).0

  chain_pairs : (l : ℕ) (c : Chain) → Inside (chain_nodes c) → Held c
      → items_pairs format whole (chain_items l c) ≡ entries_pairs (entries_of format c)
  chain_pairs l (end child) inside held = tree_pairs child inside
  chain_pairs l (cell row child key value rest) inside held =
      let one = tree_pairs child
      (λ r k. inside r (Contains-append_left (placed_nodes child) (chain_nodes rest) r k)) in
      let more = chain_pairs l rest
      (λ r k. inside r (Contains-append_right (placed_nodes child) (chain_nodes rest) r k))
      (λ x rows. all-back _ (rows_of format child) (chain_rows format rest) (held x rows).1) in
      let own = pair_found format whole content s.rows row (key, value)
      (entry_told row child key value rest held) in
      items_pairs-append format whole (tree_items child)
      (item.Kept row l ∷ chain_items l rest)
      ∙ (λ i. one i ++ (own i ++ more i))

  pub tree_each : (p : Placed) → Inside (placed_nodes p)
      → AllByRecursion (IsItem format whole) (tree_items p)
  tree_each none inside = tt
  tree_each (head row layer chain) inside =
      ((row, chain, refl, inside (head row layer chain) (own row layer chain)), tt)

  chain_each : (l : ℕ) (c : Chain) → Inside (chain_nodes c) → Held c
      → IsMstEntries format l (entries_of format c)
      → AllByRecursion (IsItem format whole) (chain_items l c)
  chain_each l (end child) inside held mst = tree_each child inside
  chain_each l (cell row child key value rest) inside held mst =
      let one = tree_each child
      (λ r k. inside r (Contains-append_left (placed_nodes child) (chain_nodes rest) r k)) in
      let more = chain_each l rest
      (λ r k. inside r (Contains-append_right (placed_nodes child) (chain_nodes rest) r k))
      (λ x rows. all-back _ (rows_of format child) (chain_rows format rest) (held x rows).1) mst.3
      in
      alls-append (IsItem format whole) (tree_items child)
      (item.Kept row l ∷ chain_items l rest) one (
        (
          (key, value),
          entry_told row child key value rest held,
          pair_found format whole content s.rows row (key, value)
              (entry_told row child key value rest held),
          mst.2,
        ),
        more,
      )

  tree_upto : (l : ℕ) (p : Placed) → IsUnder l (tree_of format p)
      → AllByRecursion (IsUpTo l) (tree_items p)
  tree_upto l none under = tt
  tree_upto l (head row layer chain) under = (under, tt)

  chain_upto : (l : ℕ) (c : Chain) → IsMstEntries format l (entries_of format c)
      → AllByRecursion (IsUpTo l) (chain_items l c)
  chain_upto l (end child) mst = tree_upto l child mst.0
  chain_upto l (cell row child key value rest) mst =
      alls-append (IsUpTo l) (tree_items child) (item.Kept row l ∷ chain_items l rest)
      (tree_upto l child mst.0) (omega arith, chain_upto l rest mst.3)

  chain_has : (l : ℕ) (c : Chain) → 0 < entry_count (entries_of format c)
      → HasPair l (chain_items l c)
  chain_has l (end child) some = absurd (omega (arith, some))
  chain_has l (cell row child key value rest) some = (
    item.Kept row l,
    Contains-append_right (tree_items child) (item.Kept row l ∷ chain_items l rest)
        (item.Kept row l)
        (contains-first (item.Kept row l) (chain_items l rest) (item.Kept row l) refl),
    refl,
  )

  -- ---- items, opened at a layer

  -- the items of a list are opened to those of another
  pub record Opens (l : ℕ) (xs ys : List Item) : Type 0 where
    pub pairs : items_pairs format whole ys ≡ items_pairs format whole xs
    pub each : AllByRecursion (IsItem format whole) ys
    pub upto : AllByRecursion (IsUpTo l) ys

  module _ (l : ℕ) where
    opens_node : (p : Placed) (row : ℕ) (chain : Chain) → p ≡ head row l chain
        → Contains (placed_nodes whole) (head row l chain) → (link : ℕ) → node_at whole link ≡ p
        → Opens l (item.Subtree link l ∷ []) (node_items p) × HasPair l (node_items p)
    opens_node none row chain is here link at = absurd cc
    opens_node (head i k c) row chain is here link at =
        let layer : k ≡ l = cc in
        let inside : Contains (placed_nodes whole) (head i k c) =
        subst (λ (p : Placed). Contains (placed_nodes whole) p) (sym is) here in
        let below : Inside (chain_nodes c) =
        λ r j. node_below whole (head i k c) r inside
        (contains-later (head i k c) (chain_nodes c) r j) in
        let mst : IsMst format (tree_of format (head i k c)) =
        node_mst format whole (head i k c) inside s.search in (
          record {
            pairs =
                chain_pairs k c below
                (λ x rows. (node_rows format x whole (head i k c) inside rows).1)
                ∙ ap (λ (p : Placed). pairs (tree_of format p)) (sym at)
                ∙ sym (append-nil (pairs (tree_of format (node_at whole link))));
            each = chain_each k c below
                (λ x rows. (node_rows format x whole (head i k c) inside rows).1) mst.2;
            upto = subst (λ (n : ℕ). AllByRecursion (IsUpTo n) (chain_items k c)) layer
                (chain_upto k c mst.2);
          },
          subst (λ (n : ℕ). HasPair n (chain_items k c)) layer (chain_has k c mst.1),
        )

    opens_one : (x : Item) → IsItem format whole x → layer_of x ≤ l
        → Opens l (x ∷ []) (opened whole l x)
    opens_one (item.Put key value n o) is low =
        record { pairs = refl; each = (is, tt); upto = (low, tt) }
    opens_one (item.Kept row n) is low =
        record { pairs = refl; each = (is, tt); upto = (low, tt) }
    opens_one (item.Subtree link n) is low = go (n == l) refl
      where
        go : (b : Bool) → (n == l) ≡ b → Opens l (item.Subtree link n ∷ [])
            (if b then node_items (node_at whole link) else item.Subtree link n ∷ [])
        go true e =
            let same : n ≡ l = grind (arith, nat_tests, e) in
            subst (λ (k : ℕ).
            Opens l (item.Subtree link k ∷ []) (node_items (node_at whole link))) (sym same)
            (opens_node (node_at whole link) is.0 is.1
            (node_is link n is ∙ ap (λ (k : ℕ). head is.0 k is.1) same)
            (subst (λ (k : ℕ). Contains (placed_nodes whole) (head is.0 k is.1)) same is.3) link
            refl).0
        go false e =
            let other : n ≢ l = grind (arith, nat_tests, e) in
            record { pairs = refl; each = (is, tt); upto = (omega (arith, low, other), tt) }

    pub opens : (xs : List Item) → AllByRecursion (IsItem format whole) xs
        → height_of xs ≤ l + 1 → Opens l xs (flat_map (opened whole l) xs)
    opens [] each low = record { pairs = refl; each = tt; upto = tt }
    opens (x ∷ xs) each low =
        let one = opens_one x each.0 (omega (arith, low)) in
        let more = opens xs each.1 (omega (arith, low)) in
        record {
          pairs =
              items_pairs-append format whole (opened whole l x) (flat_map (opened whole l) xs)
              ∙ (λ i. one.pairs i ++ more.pairs i)
              ∙ ap (λ (ps : List Pair). ps ++ items_pairs format whole xs)
              (append-nil (item_pairs format whole x));
          each = alls-append (IsItem format whole) (opened whole l x)
              (flat_map (opened whole l) xs) one.each more.each;
          upto = alls-append (IsUpTo l) (opened whole l x) (flat_map (opened whole l) xs) one.upto
              more.upto;
        }

    has_front : (xs ys : List Item) → HasPair l xs → HasPair l (xs ++ ys)
    has_front xs ys has = (has.0, Contains-append_left xs ys has.0 has.1, has.2)

    has_back : (xs ys : List Item) → HasPair l ys → HasPair l (xs ++ ys)
    has_back xs ys has = (has.0, Contains-append_right xs ys has.0 has.1, has.2)

    -- a tree of the layer is opened to a pair of it
    pub opens_some : (xs : List Item) → AllByRecursion (IsItem format whole) xs
        → list_any (is_tree l) xs ≡ true → HasPair l (flat_map (opened whole l) xs)
    opens_some [] each some = absurd (true≢false (sym some))
    opens_some (item.Put key value n o ∷ xs) each some =
        has_later l (item.Put key value n o) (flat_map (opened whole l) xs)
        (opens_some xs each.1 some)
    opens_some (item.Kept row n ∷ xs) each some =
        has_later l (item.Kept row n) (flat_map (opened whole l) xs)
        (opens_some xs each.1 some)
    opens_some (item.Subtree link n ∷ xs) each some =
        go (n == l) refl some (λ rest. opens_some xs each.1 rest)
      where
        go : (b : Bool) → (n == l) ≡ b → (b || list_any (is_tree l) xs) ≡ true
            → (list_any (is_tree l) xs ≡ true → HasPair l (flat_map (opened whole l) xs))
            → HasPair l
            ((if b then node_items (node_at whole link) else item.Subtree link n ∷ [])
            ++ flat_map (opened whole l) xs)
        go true e some more =
            let same : n ≡ l = grind (arith, nat_tests, e) in
            has_front (node_items (node_at whole link)) (flat_map (opened whole l) xs)
            (opens_node (node_at whole link) each.0.0 each.0.1
            (node_is link n each.0 ∙ ap (λ (k : ℕ). head each.0.0 k each.0.1) same)
            (subst (λ (k : ℕ). Contains (placed_nodes whole) (head each.0.0 k each.0.1)) same
            each.0.3) link refl).1
        go false e some more =
            has_back (item.Subtree link n ∷ []) (flat_map (opened whole l) xs) (more some)
