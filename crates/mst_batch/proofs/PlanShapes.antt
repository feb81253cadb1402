-- A plan of the program, one level at a time: its entries, its rows, and the trees that it keeps.
use Rattle.mst_batch.proofs.Names.{◌≡◌, ℕ, zero, suc, ◌+◌, ◌<◌, ◌≤◌, List, [], ◌∷◌, ◌++◌, length, map, take, get_or, refl, sym, ◌∙◌, ap, subst, arith, rules, inl, inr, length-map, Format, Entries, entry_count, IsMst, IsMstEntries, TreeEntry, with_entries, Content, State, In, times, Placed, link_of, times-append, IsOld, OldPiece, in_either, PlanNode, out-PlanNode, PlanEntry, out-PlanEntry, the_lemmas, fold_out-PlanNode, fold_out-PlanEntry, PlanTree, PlanEntries, kept, made, last, entry, PlannedEntry, with_planned, plan_of_node, planned_entry, plan_of, tree_planned, entries_planned, rows_planned, entries_rows, rows_kept, entries_kept, EachKept, EachKeptBelow, IsPlan}
use Rattle.std.proofs.Math.Seq.{take-length}
use Rattle.std.proofs.lemmas.List.{map_more}
use Rattle.mst_node.specs.Tree as tree
use Rattle.mst_path.proofs.lemmas.trees.Nodes.{layer_of_entries}
use Rattle.mst_batch.specs.Plans.{entry_step, node_step}

-- ---- a plan from its fields

pub plan_out : (A : Type 0) (n : PlanNode A) → plan_of_node n ≡ made (out-PlanNode A n).layer
    (with_planned (map planned_entry (out-PlanNode A n).entries.items)
    (last (plan_of (out-PlanNode A n).tail)))
plan_out A n =
    search (
      rules,
      the_lemmas,
      fold_out-PlanNode A PlannedEntry PlanTree (entry_step A)
          (node_step A),
    )

pub planned_entry_out : (A : Type 0) (e : PlanEntry A) → planned_entry e ≡ record {
  child = plan_of (out-PlanEntry A e).child;
  key = (out-PlanEntry A e).key;
  value = (out-PlanEntry A e).value;
}
planned_entry_out A e =
    search (
      rules,
      the_lemmas,
      fold_out-PlanEntry A PlannedEntry PlanTree (entry_step A)
          (node_step A),
    )

-- ---- lists of entries

-- the entry of the tree that is planned
abbrev pub cell_planned : Format → (ℕ → Placed) → PlannedEntry → TreeEntry
cell_planned format at x =
    record { child = tree_planned format at x.child; key = x.key; value = x.value }

abbrev pub cells_planned : Format → (ℕ → Placed) → List PlannedEntry → List TreeEntry
cells_planned format at xs = map (cell_planned format at) xs

-- the rows that entries take with the plans before them, and the rows that these keep
abbrev pub list_rows : List PlannedEntry → ℕ
list_rows [] = 0
list_rows (x ∷ xs) = rows_planned x.child + 1 + list_rows xs

abbrev pub list_kept : (ℕ → Placed) → List PlannedEntry → List ℕ
list_kept at [] = []
list_kept at (x ∷ xs) = rows_kept at x.child ++ list_kept at xs

pub tree_with : (format : Format) (at : ℕ → Placed) (xs : List PlannedEntry) (t : PlanTree)
    → entries_planned format at (with_planned xs (last t)) ≡ with_entries
    (cells_planned format at xs) (tree.last (tree_planned format at t))
tree_with format at [] t = refl
tree_with format at (x ∷ xs) t =
    ap (λ (es : Entries). tree.entry (tree_planned format at x.child) x.key x.value es)
    (tree_with format at xs t)

pub rows_with : (xs : List PlannedEntry) (t : PlanTree) → entries_rows (with_planned xs (last t))
    ≡ list_rows xs + rows_planned t
rows_with [] t = omega arith
rows_with (x ∷ xs) t = omega (arith, rows_with xs t)

pub kept_with : (at : ℕ → Placed) (xs : List PlannedEntry) (t : PlanTree) (r : ℕ)
    → times r (entries_kept at (with_planned xs (last t))) ≡ times r (list_kept at xs) + times r
    (rows_kept at t)
kept_with at [] t r = omega arith
kept_with at (x ∷ xs) t r =
    omega (
      arith,
      kept_with at xs t r,
      times-append r (rows_kept at x.child)
          (entries_kept at (with_planned xs (last t))),
      times-append r (rows_kept at x.child)
          (list_kept at xs),
    )

pub list_rows-append : (xs ys : List PlannedEntry) → list_rows (xs ++ ys) ≡ list_rows xs + list_rows
    ys
list_rows-append [] ys = omega arith
list_rows-append (x ∷ xs) ys = omega (arith, list_rows-append xs ys)

pub list_kept-append : (at : ℕ → Placed) (xs ys : List PlannedEntry) (r : ℕ)
    → times r (list_kept at (xs ++ ys)) ≡ times r (list_kept at xs) + times r (list_kept at ys)
list_kept-append at [] ys r = omega arith
list_kept-append at (x ∷ xs) ys r =
    omega (
      arith,
      list_kept-append at xs ys r,
      times-append r (rows_kept at x.child)
          (list_kept at (xs ++ ys)),
      times-append r (rows_kept at x.child) (list_kept at xs),
    )

-- ---- the next entry of a list

pub rows_length : (X : Type 0) (f : X → PlannedEntry) (items : List X) → length items ≤ list_rows
    (map f items)
rows_length X f [] = omega arith
rows_length X f (x ∷ items) = omega (arith, rows_length X f items)

-- the entries up to it, and it, are among all; each entry after it takes at least a row
pub rows_child : (X : Type 0) (f : X → PlannedEntry) (items : List X) (i : ℕ) (e : X)
    → i < length items → e ≡ get_or items i e → list_rows (map f (take i items)) + rows_planned
    (f e).child + length items ≤ list_rows (map f items) + i
rows_child X f [] i e h is = absurd (omega (arith, h))
rows_child X f (d ∷ items) zero e h is =
    let same : rows_planned (f e).child ≡ rows_planned (f d).child =
    ap (λ (y : X). rows_planned (f y).child) is in omega (arith, same, rows_length X f items)
rows_child X f (d ∷ items) (suc i) e h is =
    omega (arith, rows_child X f items i e (omega (arith, h)) is)

pub kept_child : (X : Type 0) (f : X → PlannedEntry) (at : ℕ → Placed) (items : List X) (i : ℕ)
    (e : X) (r : ℕ) → i < length items → e ≡ get_or items i e
    → times r (list_kept at (map f (take i items))) + times r (rows_kept at (f e).child) ≤ times r
    (list_kept at (map f items))
kept_child X f at [] i e r h is = absurd (omega (arith, h))
kept_child X f at (d ∷ items) zero e r h is =
    let same : times r (rows_kept at (f e).child) ≡ times r (rows_kept at (f d).child) =
    ap (λ (y : X). times r (rows_kept at (f y).child)) is in
    omega (
      arith,
      same,
      times-append r (rows_kept at (f d).child)
          (list_kept at (map f items)),
    )
kept_child X f at (d ∷ items) (suc i) e r h is =
    omega (
      arith,
      kept_child X f at items i e r (omega (arith, h)) is,
      times-append r
          (rows_kept at (f d).child) (list_kept at (map f (take i items))),
      times-append r
          (rows_kept at (f d).child) (list_kept at (map f items)),
    )

pub each_child : (X : Type 0) (f : X → PlannedEntry) (P : ℕ → Type 0) (items : List X)
    (t : PlanTree) (i : ℕ) (e : X) → i < length items → e ≡ get_or items i e → EachKeptBelow P
    (with_planned (map f items) (last t)) → EachKept P (f e).child
each_child X f P [] t i e h is each = absurd (omega (arith, h))
each_child X f P (d ∷ items) t zero e h is each =
    subst (λ (y : X). EachKept P (f y).child) (sym is) each.0
each_child X f P (d ∷ items) t (suc i) e h is each =
    each_child X f P items t i e (omega (arith, h)) is each.1

pub each_last : (P : ℕ → Type 0) (xs : List PlannedEntry) (t : PlanTree)
    → EachKeptBelow P (with_planned xs (last t)) → EachKept P t
each_last P [] t each = each
each_last P (x ∷ xs) t each = each_last P xs t each.1

pub search_child : (X : Type 0) (f : X → PlannedEntry) (format : Format) (at : ℕ → Placed) (l : ℕ)
    (items : List X) (t : PlanTree) (i : ℕ) (e : X) → i < length items → e ≡ get_or items i e
    → IsMstEntries format l (entries_planned format at (with_planned (map f items) (last t)))
    → IsMst format (tree_planned format at (f e).child)
search_child X f format at l [] t i e h is each = absurd (omega (arith, h))
search_child X f format at l (d ∷ items) t zero e h is each =
    subst (λ (y : X). IsMst format (tree_planned format at (f y).child)) (sym is) each.1
search_child X f format at l (d ∷ items) t (suc i) e h is each =
    search_child X f format at l items t i e (omega (arith, h)) is each.3

pub search_last : (format : Format) (at : ℕ → Placed) (l : ℕ) (xs : List PlannedEntry)
    (t : PlanTree) → IsMstEntries format l (entries_planned format at (with_planned xs (last t)))
    → IsMst format (tree_planned format at t)
search_last format at l [] t each = each.1
search_last format at l (x ∷ xs) t each = search_last format at l xs t each.3

pub count_planned : (format : Format) (at : ℕ → Placed) (xs : List PlannedEntry) (t : PlanTree)
    → entry_count (entries_planned format at (with_planned xs (last t))) ≡ length xs
count_planned format at [] t = refl
count_planned format at (x ∷ xs) t = omega (arith, count_planned format at xs t)

-- ---- facts of kept links

mutual
  pub each_then : (P Q : ℕ → Type 0) (y : PlanTree) → ((link : ℕ) → P link → Q link) → EachKept P y
      → EachKept Q y
  each_then P Q (kept link) then each = then link each
  each_then P Q (made l es) then each = each_then_below P Q es then each

  each_then_below : (P Q : ℕ → Type 0) (es : PlanEntries) → ((link : ℕ) → P link → Q link)
      → EachKeptBelow P es → EachKeptBelow Q es
  each_then_below P Q (last child) then each = each_then P Q child then each
  each_then_below P Q (entry child key value rest) then each =
      (each_then P Q child then each.0, each_then_below P Q rest then each.1)

-- what is kept stands on old rows
mutual
  pub kept_old : (format : Format) (at : ℕ → Placed) (c : Content) (s : State) (y : PlanTree)
      → EachKept (λ link. OldPiece format c s (at link)) y → (x : ℕ) → In x (rows_kept at y)
      → IsOld s x
  kept_old format at c s (kept link) each x i = each.old x i
  kept_old format at c s (made l es) each x i = below_old format at c s es each x i

  below_old : (format : Format) (at : ℕ → Placed) (c : Content) (s : State) (es : PlanEntries)
      → EachKeptBelow (λ link. OldPiece format c s (at link)) es → (x : ℕ)
      → In x (entries_kept at es) → IsOld s x
  below_old format at c s (last child) each x i = kept_old format at c s child each x i
  below_old format at c s (entry child key value rest) each x i =
      elim (in_either x (rows_kept at child) (entries_kept at rest) i) [
        | inl k ↦ kept_old format at c s child each.0 x k
        | inr k ↦ below_old format at c s rest each.1 x k
      ]

-- ---- a node of the program

module _ (A : Type 0) (n : PlanNode A) where
  abbrev pub items : List (PlanEntry A)
  items = (out-PlanNode A n).entries.items

  abbrev pub tail : PlanTree
  tail = plan_of (out-PlanNode A n).tail

  abbrev pub whole : PlanTree
  whole = made (out-PlanNode A n).layer (with_planned (map planned_entry items) (last tail))

  pub node_rows : rows_planned (plan_of_node n) ≡ list_rows (map planned_entry items) + rows_planned
      tail + 1
  node_rows = ap rows_planned (plan_out A n)
      ∙ ap (λ (k : ℕ). k + 1) (rows_with (map planned_entry items) tail)

  -- the entries up to the next one
  pub entries_more : (i : ℕ) (e : PlanEntry A) → i < length items → e ≡ get_or items i e
      → map planned_entry (take (i + 1) items) ≡ map planned_entry (take i items) ++ record {
        child = plan_of (out-PlanEntry A e).child;
        key = (out-PlanEntry A e).key;
        value = (out-PlanEntry A e).value;
      } ∷ []
  entries_more i e h is =
      map_more {Y = PlannedEntry} planned_entry items i e h
      ∙ ap (λ (y : PlanEntry A). map planned_entry (take i items) ++ planned_entry y ∷ []) (sym is)
      ∙ ap (λ (x : PlannedEntry). map planned_entry (take i items) ++ x ∷ [])
      (planned_entry_out A e)

  pub child_is : (e : PlanEntry A) → (planned_entry e).child ≡ plan_of (out-PlanEntry A e).child
  child_is e = ap (λ (x : PlannedEntry). x.child) (planned_entry_out A e)

  pub rows_ahead : (i : ℕ) (e : PlanEntry A) → i < length items → e ≡ get_or items i e
      → list_rows (map planned_entry (take i items)) + rows_planned
      (plan_of (out-PlanEntry A e).child) + length items + 1 ≤ rows_planned (plan_of_node n) + i
  rows_ahead i e h is =
      omega (
        arith,
        node_rows,
        rows_child (PlanEntry A) planned_entry items i e h is,
        ap rows_planned (child_is e),
      )

  pub rows_least : length items + 1 ≤ rows_planned (plan_of_node n)
  rows_least = omega (arith, node_rows, rows_length (PlanEntry A) planned_entry items)

  pub rows_more : (i : ℕ) (e : PlanEntry A) → i < length items → e ≡ get_or items i e
      → list_rows (map planned_entry (take (i + 1) items)) ≡ list_rows
      (map planned_entry (take i items)) + rows_planned (plan_of (out-PlanEntry A e).child) + 1
  rows_more i e h is =
      ap list_rows (entries_more i e h is) ∙ list_rows-append (map planned_entry (take i items))
      (record {
        child = plan_of (out-PlanEntry A e).child;
        key = (out-PlanEntry A e).key;
        value = (out-PlanEntry A e).value;
      } ∷ [])
      ∙ omega arith

  pub rows_last : list_rows (map planned_entry items) + rows_planned tail + 1 ≤ rows_planned
      (plan_of_node n)
  rows_last = omega (arith, node_rows)

  -- all entries
  pub take_all : (i : ℕ) → i ≡ length items → map planned_entry (take i items) ≡ map planned_entry
      items
  take_all i all = ap (λ (xs : List (PlanEntry A)). map planned_entry xs)
      (ap (λ (k : ℕ). take k items) all ∙ take-length items)

  module _ (format : Format) (at : ℕ → Placed) (c : Content) (s : State)
      (p : IsPlan format at c s (plan_of_node n)) where
    pub plan_whole : IsPlan format at c s whole
    plan_whole = subst (IsPlan format at c s) (plan_out A n) p

    pub some_entries : 0 < length items
    some_entries =
        omega (
          arith,
          plan_whole.search.1,
          count_planned format at (map planned_entry items) tail,
          length-map {B = PlannedEntry} items planned_entry,
        )

    pub low_layer : (out-PlanNode A n).layer ≤ 128
    low_layer = layer_of_entries format (out-PlanNode A n).layer
        (entries_planned format at (with_planned (map planned_entry items) (last tail)))
        plan_whole.search.1 plan_whole.search.2

    -- what is kept in the gaps stands on old rows, each once
    pub kept_rows : (r : ℕ) → times r (list_kept at (map planned_entry items)) + times r
        (rows_kept at tail) ≤ 1
    kept_rows r = omega (arith, plan_whole.once r, kept_with at (map planned_entry items) tail r)

    pub whole_old : (r : ℕ) → 0 < times r (list_kept at (map planned_entry items)) + times r
        (rows_kept at tail) → IsOld s r
    whole_old r some =
        kept_old format at c s whole plan_whole.stand r
        (omega (arith, some, kept_with at (map planned_entry items) tail r))

    module _ (i : ℕ) (e : PlanEntry A) (h : i < length items) (is : e ≡ get_or items i e) where
      pub child_kept : (r : ℕ) → times r (list_kept at (map planned_entry (take i items))) + times r
          (rows_kept at (plan_of (out-PlanEntry A e).child)) ≤ times r
          (list_kept at (map planned_entry items))
      child_kept r =
          subst (λ (y : PlanTree). times r (list_kept at (map planned_entry (take i items)))
          + times r (rows_kept at y) ≤ times r (list_kept at (map planned_entry items)))
          (child_is e) (kept_child (PlanEntry A) planned_entry at items i e r h is)

      pub child_links : EachKept (λ link. link_of (at link) ≡ link)
          (plan_of (out-PlanEntry A e).child)
      child_links =
          subst (EachKept (λ link. link_of (at link) ≡ link))
          (child_is e)
          (each_child (PlanEntry A) planned_entry
          (λ link. link_of (at link) ≡ link) items tail i e h is
          plan_whole.links)

      pub child_stands : EachKept (λ link. OldPiece format c s (at link))
          (plan_of (out-PlanEntry A e).child)
      child_stands =
          subst (EachKept (λ link. OldPiece format c s (at link))) (child_is e)
          (each_child (PlanEntry A) planned_entry (λ link. OldPiece format c s (at link)) items tail
          i e h is plan_whole.stand)

      pub child_search : IsMst format
          (tree_planned format at (plan_of (out-PlanEntry A e).child))
      child_search =
          subst (λ (y : PlanTree). IsMst format (tree_planned format at y)) (child_is e)
          (search_child (PlanEntry A) planned_entry format at (out-PlanNode A n).layer items tail i
          e h is plan_whole.search.2)

    pub tail_links : EachKept (λ link. link_of (at link) ≡ link)
        tail
    tail_links = each_last (λ link. link_of (at link) ≡ link)
        (map planned_entry items) tail plan_whole.links

    pub tail_stands : EachKept (λ link. OldPiece format c s (at link)) tail
    tail_stands = each_last (λ link. OldPiece format c s (at link)) (map planned_entry items) tail
        plan_whole.stand

    pub tail_search : IsMst format (tree_planned format at tail)
    tail_search = search_last format at (out-PlanNode A n).layer (map planned_entry items) tail
        plan_whole.search.2
