-- The rows of a node of a tree that stands are rows of that tree.
use Rattle.mst_arena.proofs.Names.{◌≡◌, ℕ, zero, suc, ◌+◌, ◌<◌, ◌⊎◌, inl, inr, eqb, List, [], ◌∷◌, ◌++◌, refl, ap, arith, AllByRecursion, In, times, Placed, none, head, Chain, end, cell, used, chain_used}
use Rattle.std.specs.Prelude.{Contains}
use Rattle.std.proofs.lemmas.List.Elements.{Contains-append_cases}
use Rattle.mst_key.proofs.SpanLaws.{contains-cases, contains-nothing, contains-first, contains-later}
use Rattle.mst_arena.specs.Lists.{bit}
use Rattle.mst_arena.specs.Ages.{placed_nodes, chain_nodes, chain_own, top_rows}
use Rattle.mst_arena.proofs.ListLemmas.{times-append}

-- what holds of each element that a list contains holds of all
pub all_contained : {A : Type 0} (P : A → Type 0) (xs : List A) → ((x : A) → Contains xs x → P x)
    → AllByRecursion P xs
all_contained P [] each = tt
all_contained P (x ∷ xs) each = (
  each x (contains-first x xs x refl),
  all_contained P xs
      (λ y has. each y (contains-later x xs y has)),
)

-- ---- the rows of a node are rows of the tree

own_inside : (chain : Chain) (r : ℕ) → In r (chain_own chain) → In r (chain_used chain)
own_inside (end child) r i = absurd (omega (arith, i))
own_inside (cell at child key value rest) r i =
    go (bit (eqb r at)) refl i (λ j. own_inside rest r j)
  where
    go : (n : ℕ) → bit (eqb r at) ≡ n → 0 < bit (eqb r at) + times r (chain_own rest)
        → (In r (chain_own rest) → In r (chain_used rest)) → 0 < bit (eqb r at) + times r
        (used child ++ chain_used rest)
    go zero e j more = let k = more (omega (arith, j, e)) in
        omega (arith, k, times-append r (used child) (chain_used rest))
    go (suc n) e j more = omega (arith, e)

head_inside : (at layer : ℕ) (chain : Chain) (r : ℕ) → In r (top_rows (head at layer chain))
    → In r (used (head at layer chain))
head_inside at layer chain r i = go (bit (eqb r at)) refl
  where
    go : (n : ℕ) → bit (eqb r at) ≡ n → 0 < bit (eqb r at) + times r (chain_used chain)
    go zero e = let k = own_inside chain r (omega (arith, i, e)) in omega (arith, k)
    go (suc n) e = omega (arith, e)

mutual
  pub top_inside : (p q : Placed) → Contains (placed_nodes p) q → (r : ℕ) → In r (top_rows q)
      → In r (used p)
  top_inside none q has r i = absurd (contains-nothing q has)
  top_inside (head at layer chain) q has r i =
      go (contains-cases (head at layer chain) (chain_nodes chain) q has)
      (λ k. chain_inside chain q k r i)
    where
      go : (head at layer chain ≡ q) ⊎ Contains (chain_nodes chain) q
          → (Contains (chain_nodes chain) q → In r (chain_used chain)) → 0 < bit (eqb r at) + times
          r (chain_used chain)
      go (inl same) more = let same_rows : times r (top_rows (head at layer chain)) ≡ times r
          (top_rows q) = ap (λ (p : Placed). times r (top_rows p)) same in
          head_inside at layer chain r (omega (arith, i, same_rows))
      go (inr later) more = let k = more later in omega (arith, k)

  chain_inside : (chain : Chain) (q : Placed) → Contains (chain_nodes chain) q → (r : ℕ)
      → In r (top_rows q) → In r (chain_used chain)
  chain_inside (end child) q has r i = top_inside child q has r i
  chain_inside (cell at child key value rest) q has r i =
      go (Contains-append_cases (placed_nodes child) (chain_nodes rest) q has)
      (λ k. top_inside child q k r i) (λ k. chain_inside rest q k r i)
    where
      go : Contains (placed_nodes child) q ⊎ Contains (chain_nodes rest) q
          → (Contains (placed_nodes child) q → In r (used child))
          → (Contains (chain_nodes rest) q → In r (chain_used rest)) → 0 < bit (eqb r at) + times r
          (used child ++ chain_used rest)
      go (inl k) first more = let j =
          first k in omega (arith, j, times-append r (used child) (chain_used rest))
      go (inr k) first more = let j =
          more k in omega (arith, j, times-append r (used child) (chain_used rest))
