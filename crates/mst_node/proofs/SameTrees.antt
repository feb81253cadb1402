-- The test of two trees returns whether they are the same.
use Rattle.mst_node.proofs.Names.{◌≡◌, ℕ, Bool, true, false, ◌&&◌, ◌==◌, refl, sym, ap, ◌∙◌, arith, true≢false, and_parts, and_from, nat_tests, Format, One, Two, Tree, empty, node, Entries, last, entry, same_format, same_tree, same_entries}
use Rattle.mst_key.proofs.KeyOrder.{same_from_test, test_of_same}
use Rattle.mst_node.specs.Cost.{same_bytes}

same_number : (a b : ℕ) → (a == b) ≡ true → a ≡ b
same_number a b e = grind (arith, nat_tests)

number_itself : (a : ℕ) → (a == a) ≡ true
number_itself a = grind (arith, nat_tests)

format_from_same : (f g : Format) → same_format f g ≡ true → f ≡ g
format_from_same One One e = refl
format_from_same Two Two e = refl
format_from_same One Two e = absurd (true≢false (sym e))
format_from_same Two One e = absurd (true≢false (sym e))

format_itself : (f : Format) → same_format f f ≡ true
format_itself One = refl
format_itself Two = refl

mutual
  pub tree_from_same : (t u : Tree) → same_tree t u ≡ true → t ≡ u
  tree_from_same empty empty e = refl
  tree_from_same empty (node g k fs) e = absurd (true≢false (sym e))
  tree_from_same (node f l es) empty e = absurd (true≢false (sym e))
  tree_from_same (node f l es) (node g k fs) e =
      let all = and_parts (same_format f g && (l == k)) (same_entries es fs) e in
      let top = and_parts (same_format f g) (l == k) all.0 in
      let format = format_from_same f g top.0 in
      let layer = same_number l k top.1 in
      let entries = entries_from_same es fs all.1 in
      λ i. node (format i) (layer i) (entries i)

  entries_from_same : (es fs : Entries) → same_entries es fs ≡ true → es ≡ fs
  entries_from_same (last c) (last d) e = ap last (tree_from_same c d e)
  entries_from_same (last c) (entry d j w fs) e = absurd (true≢false (sym e))
  entries_from_same (entry c k v es) (last d) e = absurd (true≢false (sym e))
  entries_from_same (entry c k v es) (entry d j w fs) e =
      let all =
      and_parts (same_tree c d && same_bytes k j && same_bytes v w) (same_entries es fs) e in
      let three = and_parts (same_tree c d && same_bytes k j) (same_bytes v w) all.0 in
      let two = and_parts (same_tree c d) (same_bytes k j) three.0 in
      let child = tree_from_same c d two.0 in
      let key = same_from_test k j two.1 in
      let value = same_from_test v w three.1 in
      let rest = entries_from_same es fs all.1 in
      λ i. entry (child i) (key i) (value i) (rest i)

mutual
  pub tree_itself : (t : Tree) → same_tree t t ≡ true
  tree_itself empty = refl
  tree_itself (node f l es) = and_from (same_format f f && (l == l)) (same_entries es es)
      (and_from (same_format f f) (l == l) (format_itself f) (number_itself l)) (entries_itself es)

  entries_itself : (es : Entries) → same_entries es es ≡ true
  entries_itself (last c) = tree_itself c
  entries_itself (entry c k v es) =
      and_from (same_tree c c && same_bytes k k && same_bytes v v) (same_entries es es)
      (and_from (same_tree c c && same_bytes k k) (same_bytes v v)
      (and_from (same_tree c c) (same_bytes k k) (tree_itself c) (test_of_same k k refl))
      (test_of_same v v refl))
      (entries_itself es)

pub same_from_tree : (t u : Tree) → t ≡ u → same_tree t u ≡ true
same_from_tree t u e = ap (same_tree t) (sym e) ∙ tree_itself t
