-- No subtree stands twice in the tree of a map: each has a key, and the keys rise.
use Rattle.mst_node.proofs.Names.{◌≡◌, ℕ, zero, suc, ◌+◌, ◌<◌, ◌≤◌, Bool, true, false, inl, inr, List, [], ◌∷◌, ◌++◌, length, length-append, refl, sym, ap, subst, arith, AllByRecursion, Format, Pair, key_cmp, IsAscending, IsAscending-back, Tree, empty, node, Entries, last, entry, entry_count, pairs, entries_pairs, IsMst, IsMstEntries, subtrees, entries_subtrees, same_tree}
use Rattle.std.proofs.Common.{Less}
use Rattle.mst_key.proofs.KeyOrder.{less_chain, other_from_less}
use Rattle.mst_key.proofs.Splits.{IsAscending-front, IsAscending-below, IsAscending-above}
use Rattle.mst_node.proofs.InTrees.{InTree, InEntries, pairs_hold, entries_pairs_hold}
use Rattle.mst_node.proofs.SameTrees.{tree_from_same}

abbrev pub bit : Bool → ℕ
bit true = 1
bit false = 0

-- how often a tree stands in a list
abbrev pub copies : Tree → List Tree → ℕ
copies u [] = 0
copies u (t ∷ ts) = bit (same_tree t u) + copies u ts

copies-append : (u : Tree) (xs ys : List Tree) → copies u (xs ++ ys) ≡ copies u xs + copies u ys
copies-append u [] ys = omega arith
copies-append u (x ∷ xs) ys = omega (arith, copies-append u xs ys)

-- none, or some
pub by_zero : (n : ℕ) (A : Type 0) → (n ≡ 0 → A) → (0 < n → A) → A
by_zero zero A is_zero is_more = is_zero refl
by_zero (suc n) A is_zero is_more = is_more (omega arith)

mutual
  in_tree : (t u : Tree) → 0 < copies u (subtrees t) → InTree u t
  in_tree empty u some = absurd (omega (arith, some))
  in_tree (node g l es) u some = go (same_tree (node g l es) u) refl some
      (λ more. in_entries es u more)
    where
      go : (b : Bool) → same_tree (node g l es) u ≡ b → 0 < bit b + copies u (entries_subtrees es)
          → (0 < copies u (entries_subtrees es) → InEntries u es) → InTree u (node g l es)
      go true e more below = inl (sym (tree_from_same (node g l es) u e))
      go false e more below = inr (below (omega (arith, more)))

  in_entries : (es : Entries) (u : Tree) → 0 < copies u (entries_subtrees es) → InEntries u es
  in_entries (last child) u some = in_tree child u some
  in_entries (entry child key value rest) u some = by_zero (copies u (subtrees child)) _
      (λ z. inr (in_entries rest u
      (omega (arith, z, some, copies-append u (subtrees child) (entries_subtrees rest)))))
      (λ there. inl (in_tree child u there))

-- ---- a tree stands in none of its own gaps

abbrev mutual
  size : Tree → ℕ
  size empty = 0
  size (node g l es) = size_below es + 1

  size_below : Entries → ℕ
  size_below (last child) = size child
  size_below (entry child key value rest) = size child + size_below rest

mutual
  size_in : (t u : Tree) → InTree u t → size u ≤ size t
  size_in empty u is = absurd is
  size_in (node g l es) u (inl is) = omega (arith, ap size is)
  size_in (node g l es) u (inr is) = omega (arith, size_in_entries es u is)

  size_in_entries : (es : Entries) (u : Tree) → InEntries u es → size u ≤ size_below es
  size_in_entries (last child) u is = size_in child u is
  size_in_entries (entry child key value rest) u (inl is) = omega (arith, size_in child u is)
  size_in_entries (entry child key value rest) u (inr is) = omega (arith, size_in_entries rest u is)

-- ---- a tree stands in one gap alone

some_pairs : (es : Entries) → 0 < entry_count es → 0 < length (entries_pairs es)
some_pairs (last child) some = absurd (omega (arith, some))
some_pairs (entry child key value rest) some =
    omega (arith, length-append (pairs child) ((key, value) ∷ entries_pairs rest))

mutual
  has_pairs : (format : Format) (t u : Tree) → IsMst format t → InTree u t → 0 < length (pairs u)
  has_pairs format empty u mst is = absurd is
  has_pairs format (node g l es) u mst (inl is) = subst (λ (s : Tree). 0 < length (pairs s))
      (sym is) (some_pairs es mst.1)
  has_pairs format (node g l es) u mst (inr is) = entries_have_pairs format l es u mst.2 is

  entries_have_pairs : (format : Format) (l : ℕ) (es : Entries) (u : Tree) → IsMstEntries format l
      es → InEntries u es → 0 < length (pairs u)
  entries_have_pairs format l (last child) u mst is = has_pairs format child u mst.1 is
  entries_have_pairs format l (entry child key value rest) u mst (inl is) =
      has_pairs format child u mst.1 is
  entries_have_pairs format l (entry child key value rest) u mst (inr is) =
      entries_have_pairs format l rest u mst.3 is

between : (k : List ℕ) (m : List Pair) → 0 < length m → AllByRecursion (λ p. key_cmp p.0 k ≡ Less) m
    → AllByRecursion (λ p. key_cmp k p.0 ≡ Less) m → ⊥
between k [] some low high = omega (arith, some)
between k (p ∷ m) some low high = other_from_less p.0 p.0 (less_chain p.0 k p.0 low.0 high.0) refl

one_side : (format : Format) (l : ℕ) (child : Tree) (key value : List ℕ) (rest : Entries) (u : Tree)
    → IsMst format child → IsAscending (entries_pairs (entry child key value rest)) → InTree u child
    → InEntries u rest → ⊥
one_side format l child key value rest u mst rise is also =
    between key (pairs u) (has_pairs format child u mst is)
    (pairs_hold (λ (p : Pair). key_cmp p.0 key ≡ Less) child u is
    (IsAscending-below (pairs child) (entries_pairs rest) (key, value) rise))
    (entries_pairs_hold (λ (p : Pair). key_cmp key p.0 ≡ Less) rest u also
    (IsAscending-above (pairs child) (entries_pairs rest) (key, value) rise))

mutual
  pub once : (format : Format) (t u : Tree) → IsMst format t → IsAscending (pairs t)
      → copies u (subtrees t) ≤ 1
  once format empty u mst rise = omega arith
  once format (node g l es) u mst rise =
      go (same_tree (node g l es) u) refl (once_below format l es u mst.2 rise)
    where
      go : (b : Bool) → same_tree (node g l es) u ≡ b → copies u (entries_subtrees es) ≤ 1
          → bit b + copies u (entries_subtrees es) ≤ 1
      go true e few = by_zero (copies u (entries_subtrees es)) _
          (λ z. omega (arith, z))
          (λ there. absurd
          (omega (
            arith,
            size_in_entries es u (in_entries es u there),
            ap size (tree_from_same (node g l es) u e),
          )))
      go false e few = omega (arith, few)

  once_below : (format : Format) (l : ℕ) (es : Entries) (u : Tree) → IsMstEntries format l es
      → IsAscending (entries_pairs es) → copies u (entries_subtrees es) ≤ 1
  once_below format l (last child) u mst rise = once format child u mst.1 rise
  once_below format l (entry child key value rest) u mst rise =
      let here =
      once format child u mst.1
      (IsAscending-front (pairs child) ((key, value) ∷ entries_pairs rest) rise) in
      let behind =
      once_below format l rest u mst.3
      (IsAscending-back ((key, value) ∷ []) (entries_pairs rest)
      (IsAscending-back (pairs child) ((key, value) ∷ entries_pairs rest) rise)) in
      let both = copies-append u (subtrees child) (entries_subtrees rest) in
      by_zero (copies u (subtrees child)) _
      (λ z. omega (arith, z, behind, both))
      (λ first. by_zero (copies u (entries_subtrees rest)) _
      (λ z. omega (arith, z, here, both))
      (λ later. absurd (one_side format l child key value rest u mst.1 rise (in_tree child u first)
      (in_entries rest u later))))
