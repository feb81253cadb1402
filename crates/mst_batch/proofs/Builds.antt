-- The plan of items beside the tree that stands at a root: of a tree alone, of items that are
-- opened, and of a node, one item after another.
use Rattle.mst_batch.proofs.Names.{◌≡◌, ℕ, ◌+◌, ◌<◌, ◌≤◌, max, true, false, List, [], ◌∷◌, ◌++◌, Some, None, length, map, get_or, drop, refl, sym, ◌∙◌, ap, subst, arith, slice_range, AllByRecursion, list_any, flat_map, same_Some, append-nil, Format, layer_in, Pair, IsAscending, contains-all, Entries, tree, pairs, IsMst, tree-no_pairs, tree_unique, Content, Root, Placed, head, tree_of, Stands, mst_of, rises, node_at, plan_beside, entries_beside, item_pairs, items_pairs, IsItem, IsTold, AreItems, height_of, IsUpTo, Known, AreKnown, all_known, known_of_entry, own_known, PlanTree, kept, made, last, PlannedEntry, with_planned, IsStanding, is_tree, is_pair, opened, Item, Origin, PlanEntry}
use Rattle.mst_node.specs.Tree as tree
use Rattle.mst_batch.specs.Tops.{lone}
use Rattle.mst_batch.specs.declared.items.Item.TheVariants as item
use Rattle.mst_batch.proofs.KnownShapes.{known_both, known_more}
use Rattle.mst_batch.proofs.Homes.{kept_plan}
use Rattle.mst_batch.proofs.NodePlans.{no_pair, part_items, gap_low, node_entries, tree_is, is_mst, planned, ends_gap, joins_gap, last_gap}
use Rattle.mst_batch.proofs.Tops.{HasPair, node_mst, node_is, Opens, opens, opens_some}

module _ (content : Content) (root : Root) where
  pub standing : (format : Format) (m : List Pair) (stands : Stands format content root m)
      → IsStanding format content stands.tree.placed
  standing format m stands = record {
    rows = stands.tree.rows;
    search = mst_of format stands.tree.placed m stands.tree.is;
  }

  -- the items stand beside the tree at the root
  abbrev pub AreBeside : List Item → Type 0
  AreBeside xs = (format : Format) × (m : List Pair) × (stands : Stands format content root m)
      × AreItems format stands.tree.placed xs

  -- the plan is that of their tree
  abbrev pub Plans : List Item → PlanTree → Type 0
  Plans xs plan = (format : Format) (m : List Pair) (stands : Stands format content root m)
      → AreItems format stands.tree.placed xs
      → plan ≡ plan_beside format stands.tree.placed
      (tree format (items_pairs format stands.tree.placed xs))

  -- what a plan names is known, where the items stand beside the tree
  abbrev pub KnownBeside : List Item → List Known → Type 0
  KnownBeside xs known = (format : Format) (m : List Pair)
      (stands : Stands format content root m) → AreItems format stands.tree.placed xs
      → AreKnown format stands.tree.placed known

  -- a plan of a node to be made, with the plans of the trees below it
  abbrev pub IsToShare : PlanTree → Type 0
  IsToShare plan = (format : Format) × (m : List Pair)
      × (stands : Stands format content root m) × (l : ℕ) × (es : Entries)
      × IsMst format (tree.node format l es)
      × (plan ≡ made l (entries_beside format stands.tree.placed es))

  -- the plan of such a node, which may stand already
  abbrev pub Shared : PlanTree → PlanTree → Type 0
  Shared node plan = (format : Format) (m : List Pair) (stands : Stands format content root m)
      (l : ℕ) (es : Entries) → IsMst format (tree.node format l es)
      → node ≡ made l (entries_beside format stands.tree.placed es)
      → plan ≡ plan_beside format stands.tree.placed (tree.node format l es)

  -- a tree of one item that stands is kept
  lone_plan : (link layer : ℕ) → Plans (item.Subtree link layer ∷ []) (kept link)
  lone_plan link layer format m stands are =
      let i = are.each.0 in
      let s = standing format m stands in
      let mst = node_mst format stands.tree.placed (head i.0 layer i.1) i.3 s.search in
      ap kept i.2
      ∙ sym (kept_plan format content stands.tree.placed stands.tree.rows
      (rises format content root m stands) (head i.0 layer i.1) mst (λ r k c is. i.3))
      ∙ ap (plan_beside format stands.tree.placed)
      (sym (ap (tree format) (append-nil (pairs (tree_of format
      (node_at stands.tree.placed link))))
      ∙ ap (λ (q : Placed). tree format (pairs (tree_of format q)))
      (node_is format content stands.tree.placed s link layer i)
      ∙ tree_unique (tree_of format (head i.0 layer i.1)) format mst))

  pub stands_alone : (xs : List Item) (link : ℕ) → lone xs ≡ Some link → Plans xs (kept link)
  stands_alone [] link is format m stands are =
      ap kept (sym (same_Some 0 link is))
      ∙ ap (plan_beside format stands.tree.placed) (sym (tree-no_pairs format [] refl))
  stands_alone (item.Put key value layer origin ∷ xs) link is format m stands are = absurd cc
  stands_alone (item.Kept row layer ∷ xs) link is format m stands are = absurd cc
  stands_alone (item.Subtree at layer ∷ []) link is format m stands are =
      ap kept (sym (same_Some at link is)) ∙ lone_plan at layer format m stands are
  stands_alone (item.Subtree at layer ∷ y ∷ xs) link is format m stands are = absurd cc

  -- ---- items that are opened

  module _ (l : ℕ) (xs ys : List Item) (low : height_of xs ≤ l + 1)
      (is : (format : Format) (whole : Placed) → IsStanding format content whole
      → AllByRecursion (IsItem format whole) xs → ys ≡ flat_map (opened whole l) xs) where
    opens_to : (format : Format) (m : List Pair) (stands : Stands format content root m)
        → (are : AreItems format stands.tree.placed xs)
        → Opens format content stands.tree.placed (standing format m stands) l xs ys
    opens_to format m stands are =
        let s = standing format m stands in
        subst (Opens format content stands.tree.placed s l xs)
        (sym (is format stands.tree.placed s are.each))
        (opens format content stands.tree.placed s l xs are.each low)

    opened_items : (format : Format) (m : List Pair) (stands : Stands format content root m)
        → AreItems format stands.tree.placed xs → AreItems format stands.tree.placed ys
    opened_items format m stands are =
        let o = opens_to format m stands are in
        record { each = o.each; rise = subst IsAscending (sym o.pairs) are.rise }

    pub opened_beside : AreBeside xs → AreBeside ys
    opened_beside z = (z.0, z.1, z.2, opened_items z.0 z.1 z.2 z.3)

    pub opened_upto : AreBeside xs → AllByRecursion (IsUpTo l) ys
    opened_upto z = (opens_to z.0 z.1 z.2 z.3).upto

    pub opened_has : AreBeside xs → list_any (is_tree l) xs ≡ true → HasPair l ys
    opened_has z some =
        let s = standing z.0 z.1 z.2 in
        subst (HasPair l) (sym (is z.0 z.2.tree.placed s z.3.each))
        (opens_some z.0 content z.2.tree.placed s l xs z.3.each some)

    pub opened_plans : (plan : PlanTree) → Plans ys plan → Plans xs plan
    opened_plans plan plans format m stands are =
        plans format m stands (opened_items format m stands are)
        ∙ ap (λ (ps : List Pair). plan_beside format stands.tree.placed (tree format ps))
        (opens_to format m stands are).pairs

    pub opened_known : (known : List Known) → KnownBeside ys known → KnownBeside xs known
    opened_known known is_known format m stands are =
        is_known format m stands (opened_items format m stands are)

  -- ---- a node to be made, one item after another

  pub part_known : (xs : List Item) (a b : ℕ) (known : List Known)
      → KnownBeside (slice_range xs a b) known → KnownBeside xs known
  part_known xs a b known is_known format m stands are =
      is_known format m stands (part_items format stands.tree.placed xs a b are)

  pub entry_known : {A : Type 0} (xs : List Item) (i : ℕ) (x : Item) → i < length xs
      → x ≡ get_or xs i x → (es : List (PlanEntry A)) (e : PlanEntry A) (child : List Known)
      (o : Origin) (pair : Pair) → known_of_entry e ≡ child ++ own_known o pair
      → KnownBeside xs (all_known (map known_of_entry es)) → KnownBeside xs child
      → ((format : Format) (whole : Placed) → IsStanding format content whole
      → IsItem format whole x → IsTold format whole pair o)
      → KnownBeside xs (all_known (map known_of_entry (es ++ e ∷ [])))
  entry_known xs i x within at es e child o pair is before below told format m stands are =
      known_more format stands.tree.placed es e child o pair is (before format m stands are)
      (below format m stands are)
      (told format stands.tree.placed (standing format m stands)
      (contains-all (IsItem format stands.tree.placed) xs x are.each (i, within, sym at)))

  pub node_known : (xs : List Item) (node before tail : List Known) → node ≡ before ++ tail
      → KnownBeside xs before → KnownBeside xs tail → KnownBeside xs node
  node_known xs node before tail is a b format m stands are =
      subst (AreKnown format stands.tree.placed) (sym is)
      (known_both format stands.tree.placed before tail (a format m stands are)
      (b format m stands are))

  pub part_beside : (xs : List Item) (a b : ℕ) → AreBeside xs → AreBeside (slice_range xs a b)
  part_beside xs a b z = (z.0, z.1, z.2, part_items z.0 z.2.tree.placed xs a b z.3)

  -- the entries so far stand in front of those that the gap so far and the other items make
  abbrev pub SoFar : ℕ → List Item → ℕ → ℕ → List PlannedEntry → Type 0
  SoFar l xs start i ps = (format : Format) (m : List Pair)
      (stands : Stands format content root m) → AreItems format stands.tree.placed xs
      → with_planned ps (planned format content stands.tree.placed (standing format m stands) l
      (slice_range xs start i) (drop i xs))
      ≡ entries_beside format stands.tree.placed
      (node_entries format content stands.tree.placed (standing format m stands) l xs)

  module _ (l : ℕ) (xs : List Item) (upto : AllByRecursion (IsUpTo l) xs) (start i : ℕ)
      (ps : List PlannedEntry) (so_far : SoFar l xs start i ps) where
    pub ends : (x : Item) → i < length xs → x ≡ get_or xs i x → (kv : Pair)
        → ((format : Format) (whole : Placed) → IsStanding format content whole
        → IsItem format whole x
        → (item_pairs format whole x ≡ kv ∷ []) × (layer_in format kv.0 ≡ l))
        → (child : PlanTree) → Plans (slice_range xs start i) child
        → (y : PlannedEntry) → y ≡ record { child = child; key = kv.0; value = kv.1 }
        → SoFar l xs (i + 1) (i + 1) (ps ++ y ∷ [])
    ends x within at kv is child plans y y_is format m stands are =
        let whole = stands.tree.placed in
        let pair = is format whole (standing format m stands)
        (contains-all (IsItem format whole) xs x are.each (i, within, sym at)) in
        let here : PlanTree → PlannedEntry =
        λ p. record { child = p; key = kv.0; value = kv.1 } in
        ends_gap format content whole (standing format m stands) l xs start i ps _
        (so_far format m stands are) x within at kv pair.0 pair.1 y
        (y_is ∙ ap here (plans format m stands (part_items format whole xs start i are)))

    pub joins : start ≤ i → (x : Item) → i < length xs → x ≡ get_or xs i x
        → is_pair l x ≡ false → SoFar l xs start (i + 1) ps
    joins order x within at is format m stands are =
        let whole = stands.tree.placed in
        joins_gap format content whole (standing format m stands) l xs start i ps _
        (so_far format m stands are) order x within at
        (contains-all (IsItem format whole) xs x are.each (i, within, sym at))
        (no_pair l x is (contains-all (IsUpTo l) xs x upto (i, within, sym at)))

    pub stays_low : start ≤ i → (x : Item) → i < length xs → x ≡ get_or xs i x
        → is_pair l x ≡ false → height_of (slice_range xs start i) ≤ l
        → height_of (slice_range xs start (i + 1)) ≤ l
    stays_low order x within at is low =
        gap_low l xs start i x order within at
        (no_pair l x is (contains-all (IsUpTo l) xs x upto (i, within, sym at))) low

    -- ---- all items are passed

    module _ (some : HasPair l xs) (end : i ≡ length xs) (last_plan node : PlanTree)
        (plans : Plans (slice_range xs start (length xs)) last_plan)
        (made_is : node ≡ made l (with_planned ps (last last_plan))) where
      node_made : (format : Format) (m : List Pair) (stands : Stands format content root m)
          → AreItems format stands.tree.placed xs
          → node ≡ made l (entries_beside format stands.tree.placed
          (node_entries format content stands.tree.placed (standing format m stands) l xs))
      node_made format m stands are =
          let whole = stands.tree.placed in
          made_is
          ∙ ap (λ (p : PlanTree). made l (with_planned ps (last p)))
          (plans format m stands (part_items format whole xs start (length xs) are))
          ∙ ap (made l) (last_gap format content whole (standing format m stands) l xs start i ps _
          (so_far format m stands are) end)

      pub to_share : AreBeside xs → IsToShare node
      to_share z =
          let s = standing z.0 z.1 z.2 in (
            z.0,
            z.1,
            z.2,
            l,
            node_entries z.0 content z.2.tree.placed s l xs,
            is_mst z.0 content z.2.tree.placed s l xs z.3.each upto some,
            node_made z.0 z.1 z.2 z.3,
          )

      pub shares : (plan : PlanTree) → Shared node plan → Plans xs plan
      shares plan shared format m stands are =
          let whole = stands.tree.placed in
          let s = standing format m stands in
          shared format m stands l (node_entries format content whole s l xs)
          (is_mst format content whole s l xs are.each upto some) (node_made format m stands are)
          ∙ ap (plan_beside format stands.tree.placed)
          (sym (tree_is format content whole s l xs are.each upto some))

-- items of which no tree stands alone are some
pub some_height : (xs : List Item) → lone xs ≡ None → (l : ℕ) → max 1 (height_of xs) ≡ l + 1
    → height_of xs ≡ l + 1
some_height [] is l top = absurd cc
some_height (x ∷ xs) is l top = omega (arith, top)
