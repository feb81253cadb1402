-- Items of which some pair is of a layer and none is above it: their tree is a node of that layer,
-- with the trees of the gaps between its pairs below it.
use Rattle.mst_batch.proofs.Names.{◌≡◌, ◌≢◌, ℕ, suc, ◌+◌, ◌-◌, ◌<◌, ◌≤◌, false, inl, inr, List, [], ◌∷◌, ◌++◌, length, get_or, take, drop, refl, sym, ◌∙◌, ap, subst, arith, length-drop, Contains, slice_range, AllByRecursion, nat_tests, common_steps, append-nil, take_more, get_or-drop, take-append-drop, Format, layer_in, Pair, IsAscending, alls-append, alls-front, alls-back, alls-weaker, contains-cases, contains-nothing, IsAscending-back, Entries, tree, pairs, IsMst, Has, tree_some, entries_at_layer, keys_under, gap-lower, tree_mst, Content, Placed, head, tree_of, plan_beside, entries_beside, item_pairs, items_pairs, IsItem, AreItems, layer_of, height_of, IsUpTo, IsPairOf, PlanTree, PlanEntries, last, entry, PlannedEntry, with_planned, IsStanding, is_pair, Item}
use Rattle.std.proofs.Common.{add-one}
use Rattle.std.proofs.Math.Seq.{drop-cons}
use Rattle.mst_key.proofs.Splits.{IsAscending-front}
use Rattle.mst_node.specs.Tree as tree
use Rattle.mst_node.specs.Tree.{layers, greatest, entries_of}
use Rattle.mst_batch.specs.declared.items.Item.TheVariants as item
use Rattle.mst_batch.proofs.Tops.{items_pairs-append, height-append, HasPair, node_mst, node_is}

-- ---- parts of a list

module _ {X : Type 0} where
  -- the element at i, and those after it
  pub from_here : (xs : List X) (i : ℕ) (x : X) → i < length xs → x ≡ get_or xs i x
      → drop i xs ≡ x ∷ drop (i + 1) xs
  from_here xs i x h e = let f = drop-cons xs i x h in
      rw add-one (f ∙ ap (λ (y : X). y ∷ drop (suc i) xs) (sym e))

  -- the gap grows by the element at i
  gap_grows : (xs : List X) (start i : ℕ) (x : X) → start ≤ i → i < length xs
      → x ≡ get_or xs i x → slice_range xs start (i + 1) ≡ slice_range xs start i ++ x ∷ []
  gap_grows xs start i x s h e =
      let width : i + 1 - start ≡ i - start + 1 = omega arith in
      let place : start + (i - start) ≡ i = omega arith in
      let within : i - start < length (drop start xs) = omega (arith, length-drop start xs) in
      let at : get_or (drop start xs) (i - start) x ≡ x = get_or-drop start xs (i - start) x
      ∙ ap (λ (j : ℕ). get_or xs j x) place ∙ sym e in
      ap (λ (n : ℕ). take n (drop start xs)) width ∙ take_more (drop start xs) (i - start) x within
      ∙ ap (λ (y : X). take (i - start) (drop start xs) ++ y ∷ []) at

  no_gap : (xs : List X) (i : ℕ) → slice_range xs i i ≡ []
  no_gap xs i = let e : i - i ≡ 0 = omega arith in ap (λ (n : ℕ). take n (drop i xs)) e

  none_after : (xs : List X) → drop (length xs) xs ≡ []
  none_after xs = grind (arith, common_steps)

pub with_planned-push : (ps : List PlannedEntry) (y : PlannedEntry) (es : PlanEntries)
    → with_planned (ps ++ y ∷ []) es ≡ with_planned ps (entry y.child y.key y.value es)
with_planned-push [] y es = refl
with_planned-push (p ∷ ps) y es = ap (entry p.child p.key p.value) (with_planned-push ps y es)

pub entries_end : (format : Format) (l : ℕ) (gap : List Pair)
    → entries_of (layer_in format) (tree format) l gap [] ≡ tree.last (tree format gap)
unfolding entries_of
entries_end format l gap = refl

-- ---- an item and a layer

pub no_pair : (l : ℕ) (x : Item) → is_pair l x ≡ false → IsUpTo l x → layer_of x < l
no_pair l (item.Put key value n o) is low =
    let other : n ≢ l = grind (arith, nat_tests, is) in omega (arith, low, other)
no_pair l (item.Kept row n) is low =
    let other : n ≢ l = grind (arith, nat_tests, is) in omega (arith, low, other)
no_pair l (item.Subtree link n) is low = low

-- ---- parts of items beside a tree

module _ (format : Format) (whole : Placed) where
  front_items : (xs ys : List Item) → AreItems format whole (xs ++ ys) → AreItems format whole xs
  front_items xs ys are = record {
    each = alls-front (IsItem format whole) xs ys are.each;
    rise = IsAscending-front (items_pairs format whole xs) (items_pairs format whole ys)
        (subst IsAscending (items_pairs-append format whole xs ys) are.rise);
  }

  back_items : (xs ys : List Item) → AreItems format whole (xs ++ ys) → AreItems format whole ys
  back_items xs ys are = record {
    each = alls-back (IsItem format whole) xs ys are.each;
    rise = IsAscending-back (items_pairs format whole xs) (items_pairs format whole ys)
        (subst IsAscending (items_pairs-append format whole xs ys) are.rise);
  }

  pub part_items : (xs : List Item) (a b : ℕ) → AreItems format whole xs
      → AreItems format whole (slice_range xs a b)
  part_items xs a b are =
      front_items (take (b - a) (drop a xs)) (drop (b - a) (drop a xs))
      (subst (AreItems format whole) (sym (take-append-drop (b - a) (drop a xs)))
      (back_items (take a xs) (drop a xs)
      (subst (AreItems format whole) (sym (take-append-drop a xs)) are)))

-- ---- the greatest layer of pairs

greatest_low : (layer : List ℕ → ℕ) (l : ℕ) (m : List Pair)
    → AllByRecursion (λ p. layer p.0 ≤ l) m → greatest (layers layer m) ≤ l
greatest_low layer l [] low = omega arith
greatest_low layer l (p ∷ m) low = omega (arith, low.0, greatest_low layer l m low.1)

pub greatest_is : (layer : List ℕ → ℕ) (l : ℕ) (m : List Pair)
    → AllByRecursion (λ p. layer p.0 ≤ l) m → Has layer l m → greatest (layers layer m) ≡ l
greatest_is layer l [] low has = absurd has
greatest_is layer l (p ∷ m) low (inl is) = omega (arith, is, greatest_low layer l m low.1)
greatest_is layer l (p ∷ m) low (inr has) = omega (arith, low.0, greatest_is layer l m low.1 has)

pub has_after : (layer : List ℕ → ℕ) (l : ℕ) (xs ys : List Pair) → Has layer l ys
    → Has layer l (xs ++ ys)
has_after layer l [] ys has = has
has_after layer l (x ∷ xs) ys has = inr (has_after layer l xs ys has)

pub some_pairs : (layer : List ℕ → ℕ) (l : ℕ) (m : List Pair) → Has layer l m → 0 < length m
some_pairs layer l [] has = absurd has
some_pairs layer l (p ∷ m) has = omega arith

module _ (format : Format) (content : Content) (whole : Placed)
    (s : IsStanding format content whole) (l : ℕ) where
  -- the keys of an item have lower layers than one above it
  pub keys_low : (k : ℕ) (x : Item) → IsItem format whole x → layer_of x < k
      → AllByRecursion (λ p. layer_in format p.0 < k) (item_pairs format whole x)
  keys_low k (item.Put key value n o) is low = (omega (arith, is.0, low), tt)
  keys_low k (item.Kept row n) is low =
      subst (AllByRecursion (λ p. layer_in format p.0 < k)) (sym is.2)
      (omega (arith, is.3, low), tt)
  keys_low k (item.Subtree link n) is low =
      subst (λ (p : Placed). AllByRecursion (λ q. layer_in format q.0 < k)
      (pairs (tree_of format p))) (sym (node_is format content whole s link n is))
      (keys_under (tree_of format (head is.0 n is.1)) format k
      (node_mst format whole (head is.0 n is.1) is.3 s.search) low)

  item_upto : (x : Item) → IsItem format whole x → IsUpTo l x
      → AllByRecursion (λ p. layer_in format p.0 ≤ l) (item_pairs format whole x)
  item_upto (item.Put key value n o) is low = (omega (arith, is.0, low), tt)
  item_upto (item.Kept row n) is low =
      subst (AllByRecursion (λ p. layer_in format p.0 ≤ l)) (sym is.2)
      (omega (arith, is.3, low), tt)
  item_upto (item.Subtree link n) is low =
      alls-weaker (λ p. layer_in format p.0 < l) (λ p. layer_in format p.0 ≤ l)
      (λ p (h : layer_in format p.0 < l). omega (arith, h))
      (item_pairs format whole (item.Subtree link n)) (keys_low l (item.Subtree link n) is low)

  pairs_upto : (xs : List Item) → AllByRecursion (IsItem format whole) xs
      → AllByRecursion (IsUpTo l) xs
      → AllByRecursion (λ p. layer_in format p.0 ≤ l) (items_pairs format whole xs)
  pairs_upto [] each low = tt
  pairs_upto (x ∷ xs) each low =
      alls-append (λ p. layer_in format p.0 ≤ l) (item_pairs format whole x)
      (items_pairs format whole xs) (item_upto x each.0 low.0) (pairs_upto xs each.1 low.1)

  pair_has : (x : Item) (ps : List Pair) → IsItem format whole x → IsPairOf l x
      → Has (layer_in format) l (item_pairs format whole x ++ ps)
  pair_has (item.Put key value n o) ps is of = inl (is.0 ∙ of)
  pair_has (item.Kept row n) ps is of =
      subst (λ (qs : List Pair). Has (layer_in format) l (qs ++ ps)) (sym is.2)
      (inl (is.3 ∙ of))
  pair_has (item.Subtree link n) ps is of = absurd of

  pairs_have : (xs : List Item) (x : Item) → Contains xs x → IsPairOf l x
      → AllByRecursion (IsItem format whole) xs
      → Has (layer_in format) l (items_pairs format whole xs)
  pairs_have [] x has of each = absurd (contains-nothing x has)
  pairs_have (y ∷ xs) x has of each =
      elim (contains-cases y xs x has) [
        | inl same ↦ pair_has y (items_pairs format whole xs) each.0
            (subst (IsPairOf l) (sym same) of)
        | inr later ↦ has_after (layer_in format) l (item_pairs format whole y)
            (items_pairs format whole xs) (pairs_have xs x later of each.1)
      ]

  -- ---- the node of the layer

  abbrev pub node_entries : List Item → Entries
  node_entries xs =
      entries_of (layer_in format) (tree format) l [] (items_pairs format whole xs)

  module _ (xs : List Item) (each : AllByRecursion (IsItem format whole) xs)
      (low : AllByRecursion (IsUpTo l) xs) (some : HasPair l xs) where
    pub tree_is : tree format (items_pairs format whole xs)
        ≡ tree.node format l (node_entries xs)
    tree_is =
        let has = pairs_have xs some.0 some.1 some.2 each in
        tree_some format (items_pairs format whole xs)
        (some_pairs (layer_in format) l (items_pairs format whole xs) has)
        ∙ ap (λ (k : ℕ). tree.node format k (entries_of (layer_in format) (tree format) k []
        (items_pairs format whole xs)))
        (greatest_is (layer_in format) l (items_pairs format whole xs) (pairs_upto xs each low) has)

    pub is_mst : IsMst format (tree.node format l (node_entries xs))
    is_mst = subst (IsMst format) tree_is (tree_mst format (items_pairs format whole xs))

  -- ---- its entries, one item after another

  -- the plans of the entries that a gap so far and other items make
  abbrev pub planned : List Item → List Item → PlanEntries
  planned gap rest =
      entries_beside format whole
      (entries_of (layer_in format) (tree format) l (items_pairs format whole gap)
      (items_pairs format whole rest))

  abbrev pub gap_plan : List Item → PlanTree
  gap_plan gap = plan_beside format whole (tree format (items_pairs format whole gap))

  module _ (xs : List Item) (start i : ℕ) (ps : List PlannedEntry) (all : PlanEntries)
      (before : with_planned ps (planned (slice_range xs start i) (drop i xs)) ≡ all) where
    -- a pair of the layer ends the gap
    pub ends_gap : (x : Item) → i < length xs → x ≡ get_or xs i x → (kv : Pair)
        → item_pairs format whole x ≡ kv ∷ [] → layer_in format kv.0 ≡ l → (y : PlannedEntry)
        → y ≡ record { child = gap_plan (slice_range xs start i); key = kv.0; value = kv.1 }
        → with_planned (ps ++ y ∷ []) (planned (slice_range xs (i + 1) (i + 1)) (drop (i + 1) xs))
        ≡ all
    ends_gap x within at kv own here y y_is =
        let gap = slice_range xs start i in
        let rest = drop (i + 1) xs in
        let cut : planned (slice_range xs start i) (drop i xs)
        ≡ entry (gap_plan (slice_range xs start i)) kv.0 kv.1 (planned [] (drop (i + 1) xs)) =
        ap (planned gap) (from_here xs i x within at)
        ∙ ap (λ (ps : List Pair). entries_beside format whole
        (entries_of (layer_in format) (tree format) l
        (items_pairs format whole (slice_range xs start i))
        (ps ++ items_pairs format whole (drop (i + 1) xs)))) own
        ∙ ap (entries_beside format whole) (entries_at_layer (layer_in format) (tree format) l
        (items_pairs format whole gap) (kv.0, kv.1) (items_pairs format whole rest) here) in
        ap (λ (g : List Item). with_planned (ps ++ y ∷ []) (planned g (drop (i + 1) xs)))
        (no_gap xs (i + 1))
        ∙ with_planned-push ps y (planned [] (drop (i + 1) xs))
        ∙ ap (λ (z : PlannedEntry).
        with_planned ps (entry z.child z.key z.value (planned [] (drop (i + 1) xs)))) y_is
        ∙ sym (ap (with_planned ps) cut) ∙ before

    -- an item below the layer goes into it
    pub joins_gap : start ≤ i → (x : Item) → i < length xs → x ≡ get_or xs i x
        → IsItem format whole x → layer_of x < l
        → with_planned ps (planned (slice_range xs start (i + 1)) (drop (i + 1) xs)) ≡ all
    joins_gap order x within at each low =
        let gap = slice_range xs start i in
        let rest = drop (i + 1) xs in
        let grown : items_pairs format whole (slice_range xs start (i + 1))
        ≡ items_pairs format whole (slice_range xs start i) ++ item_pairs format whole x =
        ap (items_pairs format whole) (gap_grows xs start i x order within at)
        ∙ items_pairs-append format whole gap (x ∷ [])
        ∙ ap (λ (qs : List Pair). items_pairs format whole (slice_range xs start i) ++ qs)
        (append-nil (item_pairs format whole x)) in
        let moved : planned (slice_range xs start i) (drop i xs)
        ≡ planned (slice_range xs start (i + 1)) (drop (i + 1) xs) =
        ap (planned gap) (from_here xs i x within at)
        ∙ ap (entries_beside format whole)
        (gap-lower format l (items_pairs format whole gap) (item_pairs format whole x)
        (items_pairs format whole rest) (keys_low l x each low)
        ∙ ap (λ (g : List Pair). entries_of (layer_in format) (tree format) l g
        (items_pairs format whole (drop (i + 1) xs))) (sym grown)) in
        sym (ap (with_planned ps) moved) ∙ before

    -- after the last item the gap is the last one
    pub last_gap : i ≡ length xs
        → with_planned ps (last (gap_plan (slice_range xs start (length xs)))) ≡ all
    last_gap end =
        let nothing : drop i xs ≡ [] = ap (λ (n : ℕ). drop n xs) end ∙ none_after xs in
        ap (λ (n : ℕ). with_planned ps (last (gap_plan (slice_range xs start n)))) (sym end)
        ∙ ap (λ (es : Entries). with_planned ps (entries_beside format whole es))
        (sym (entries_end format l (items_pairs format whole (slice_range xs start i))))
        ∙ ap (λ (zs : List Item). with_planned ps (planned (slice_range xs start i) zs))
        (sym nothing)
        ∙ before

-- how high the gap is, when an item below the layer goes into it
pub gap_low : (l : ℕ) (xs : List Item) (start i : ℕ) (x : Item) → start ≤ i → i < length xs
    → x ≡ get_or xs i x → layer_of x < l → height_of (slice_range xs start i) ≤ l
    → height_of (slice_range xs start (i + 1)) ≤ l
gap_low l xs start i x order within at low so_far =
    omega (
      arith,
      low,
      so_far,
      ap height_of (gap_grows xs start i x order within at),
      height-append (slice_range xs start i) (x ∷ []),
    )

pub gap_none_low : (xs : List Item) (i l : ℕ) → height_of (slice_range xs i i) ≤ l
gap_none_low xs i l = omega (arith, ap height_of (no_gap xs i))
