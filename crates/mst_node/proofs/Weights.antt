-- How many rows some of the nodes of a list take, for lists put together, weaker tests, and nodes
-- that stand in another list.
use Rattle.mst_node.proofs.Names.{◌≡◌, ℕ, ◌+◌, ◌≤◌, Bool, true, false, not, cond, ◌&&◌, ◌||◌, List, [], ◌∷◌, ◌++◌, length, length-append, filter, refl, sym, ap, ◌∙◌, arith, true≢false, list_any, sum_by, Tree, empty, node, Entries, last, entry, entry_count, pairs, entries_pairs, subtrees, entries_subtrees, same_tree, top_entries}
use Rattle.std.proofs.lemmas.List.Sums.{sum_by-cons}
use Rattle.mst_node.proofs.SameTrees.{tree_from_same}
use Rattle.mst_node.proofs.Distinct.{bit, copies}

-- ---- rows of some of the nodes of a list

abbrev pub weigh : (Tree → Bool) → List Tree → ℕ
weigh p [] = 0
weigh p (t ∷ ts) = cond (p t) (top_entries t + 1) 0 + weigh p ts

pub weigh_is : (p : Tree → Bool) (ts : List Tree) → sum_by (λ t. top_entries t + 1) (filter p ts)
    ≡ weigh p ts
weigh_is p [] = refl
weigh_is p (t ∷ ts) = go (p t) (weigh_is p ts)
  where
    go : (b : Bool) → sum_by (λ (u : Tree). top_entries u + 1) (filter p ts) ≡ weigh p ts
        → sum_by (λ (u : Tree). top_entries u + 1) (cond b (t ∷ filter p ts) (filter p ts)) ≡ cond b
        (top_entries t + 1) 0 + weigh p ts
    go true e = sum_by-cons (λ (u : Tree). top_entries u + 1) t (filter p ts)
        ∙ ap (λ n. top_entries t + 1 + n) e
    go false e = omega (arith, e)

pub weigh-append : (p : Tree → Bool) (xs ys : List Tree) → weigh p (xs ++ ys) ≡ weigh p xs + weigh p
    ys
weigh-append p [] ys = omega arith
weigh-append p (x ∷ xs) ys = omega (arith, weigh-append p xs ys)

abbrev pub all : Tree → Bool
all t = true

mutual
  pub weigh_all : (t : Tree) → weigh all (subtrees t) ≡ length (pairs t) + length (subtrees t)
  weigh_all empty = refl
  weigh_all (node g l es) = omega (arith, weigh_below es)

  weigh_below : (es : Entries) → entry_count es + weigh all (entries_subtrees es) ≡ length
      (entries_pairs es) + length (entries_subtrees es)
  weigh_below (last child) = omega (arith, weigh_all child)
  weigh_below (entry child key value rest) =
      omega (
        arith,
        weigh_all child,
        weigh_below rest,
        weigh-append all (subtrees child)
            (entries_subtrees rest),
        length-append (pairs child) ((key, value) ∷ entries_pairs rest),
        length-append (subtrees child) (entries_subtrees rest),
      )

pub weigh_none : (ts : List Tree) → weigh (λ t. false) ts ≡ 0
weigh_none [] = refl
weigh_none (t ∷ ts) = omega (arith, weigh_none ts)

pub weigh_weaker : (p q : Tree → Bool) → ((t : Tree) → p t ≡ true → q t ≡ true) → (ts : List Tree)
    → weigh p ts ≤ weigh q ts
weigh_weaker p q weaker [] = omega arith
weigh_weaker p q weaker (t ∷ ts) = go (p t) (q t) (weaker t) (weigh_weaker p q weaker ts)
  where
    go : (a b : Bool) → (a ≡ true → b ≡ true) → weigh p ts ≤ weigh q ts → cond a (top_entries t + 1)
        0 + weigh p ts ≤ cond b (top_entries t + 1) 0 + weigh q ts
    go true true is le = omega (arith, le)
    go true false is le = absurd (true≢false (sym (is refl)))
    go false true is le = omega (arith, le)
    go false false is le = omega (arith, le)

-- those that one list leaves out are left out by the other, or late
pub weigh_split : (s late : Tree → Bool) (ts : List Tree) → weigh (λ t. not (s t)) ts ≤ weigh
    (λ t. not (late t)) ts + weigh (λ t. late t && not (s t)) ts
weigh_split s late [] = omega arith
weigh_split s late (t ∷ ts) = go (s t) (late t) (weigh_split s late ts)
  where
    go : (a b : Bool) → weigh (λ t. not (s t)) ts ≤ weigh (λ t. not (late t)) ts + weigh
        (λ t. late t && not (s t)) ts
        → cond (not a) (top_entries t + 1) 0 + weigh (λ t. not (s t)) ts ≤ cond (not b)
        (top_entries t + 1) 0 + weigh (λ t. not (late t)) ts
        + (cond (b && not a) (top_entries t + 1) 0 + weigh (λ t. late t && not (s t)) ts)
    go true true le = omega (arith, le)
    go true false le = omega (arith, le)
    go false true le = omega (arith, le)
    go false false le = omega (arith, le)

weigh_either : (a b q : Tree → Bool) (ts : List Tree) → weigh (λ t. (a t || b t) && q t) ts ≤ weigh
    (λ t. a t && q t) ts + weigh (λ t. b t && q t) ts
weigh_either a b q [] = omega arith
weigh_either a b q (t ∷ ts) = go (a t) (b t) (q t) (weigh_either a b q ts)
  where
    go : (x y z : Bool) → weigh (λ t. (a t || b t) && q t) ts ≤ weigh (λ t. a t && q t) ts + weigh
        (λ t. b t && q t) ts
        → cond ((x || y) && z) (top_entries t + 1) 0 + weigh (λ t. (a t || b t) && q t) ts ≤ cond
        (x && z) (top_entries t + 1) 0 + weigh (λ t. a t && q t) ts
        + (cond (y && z) (top_entries t + 1) 0 + weigh (λ t. b t && q t) ts)
    go true true true le = omega (arith, le)
    go true false true le = omega (arith, le)
    go false true true le = omega (arith, le)
    go false false true le = omega (arith, le)
    go true true false le = omega (arith, le)
    go true false false le = omega (arith, le)
    go false true false le = omega (arith, le)
    go false false false le = omega (arith, le)

module _ (q : Tree → Bool) where
  no_copy : (u : Tree) (ts : List Tree) → copies u ts ≡ 0 → weigh (λ t. same_tree t u && q t) ts ≡ 0
  no_copy u [] none = refl
  no_copy u (t ∷ ts) none = go (same_tree t u) none (λ z. no_copy u ts z)
    where
      go : (b : Bool) → bit b + copies u ts ≡ 0
          → (copies u ts ≡ 0 → weigh (λ t. same_tree t u && q t) ts ≡ 0) → cond (b && q t)
          (top_entries t + 1) 0 + weigh (λ t. same_tree t u && q t) ts ≡ 0
      go true z rest = absurd (omega (arith, z))
      go false z rest = omega (arith, rest (omega (arith, z)))

  one_copy : (u : Tree) (ts : List Tree) → copies u ts ≤ 1 → weigh (λ t. same_tree t u && q t) ts
      ≤ cond (q u) (top_entries u + 1) 0
  one_copy u [] few = omega arith
  one_copy u (t ∷ ts) few = go (same_tree t u) refl few (λ l. one_copy u ts l)
    where
      go : (b : Bool) → same_tree t u ≡ b → bit b + copies u ts ≤ 1
          → (copies u ts ≤ 1 → weigh (λ t. same_tree t u && q t) ts ≤ cond (q u) (top_entries u + 1)
          0) → cond (b && q t) (top_entries t + 1) 0 + weigh (λ t. same_tree t u && q t) ts ≤ cond
          (q u) (top_entries u + 1) 0
      go true e l rest =
          let same : cond (q t) (top_entries t + 1) 0 ≡ cond (q u) (top_entries u + 1) 0 =
          ap (λ (v : Tree). cond (q v) (top_entries v + 1) 0) (tree_from_same t u e) in
          omega (arith, same, no_copy u ts (omega (arith, l)))
      go false e l rest = omega (arith, rest (omega (arith, l)))

  -- of trees of which none stands twice, those that stand in another list weigh no more than they
  -- do there
  pub weigh_common : (xs ys : List Tree) → ((u : Tree) → copies u xs ≤ 1)
      → weigh (λ t. list_any (same_tree t) ys && q t) xs ≤ weigh q ys
  weigh_common xs [] few = omega (arith, weigh_none xs)
  weigh_common xs (y ∷ ys) few =
      omega (
        arith,
        one_copy y xs (few y),
        weigh_common xs ys few,
        weigh_either (λ t. same_tree t y)
            (λ t. list_any (same_tree t) ys) q xs,
      )
