-- A whole tree is planted beside the one that stands, which is felled: what that does to lives, and
-- how old the rows of the new tree are if it is of another format.
use Rattle.mst_path.proofs.Names.{◌≡◌, ℕ, ◌+◌, Bool, false, ◌&&◌, ◌||◌, List, [], ◌++◌, Some, inl, inr, refl, sym, ◌∙◌, ap, subst, Contains, AllByRecursion, list_any, append-nil, Format, contains-cases, contains-nothing, Contains-append_cases, Tree, node, Entries, subtrees, entries_subtrees, State, version, In, Born, Placed, none, head, Chain, end, cell, tree_of, entries_of, used, placed_nodes, chain_nodes, IsAged, IsTaken, IsKilled, IsNew, Moves, Changes, Takes, all_contained, top_inside}
use Rattle.std.specs.Prelude.{◌==◌}
use Rattle.mst_node.specs.Cost.{same_format, same_tree, same_entries}
use Rattle.mst_path.proofs.lemmas.rows.Moving.{moves_takes, moves_then, not_in}
use Rattle.mst_path.proofs.lemmas.versions.Reached.{by_in}
use Rattle.std.proofs.lemmas.List.Folds.{list_any-append}
use Rattle.std.proofs.lemmas.Bool.{or_from}

-- ---- what was taken stands after it, and what was killed before it

module _ (old new : State) (taken killed : List ℕ) (m : Moves old new taken killed) where
  apart : (r : ℕ) → In r taken → In r killed → ⊥
  apart r i j = let free = m.free r i in let born = (m.dies r j).1 in cc

  was_taken : (r : ℕ) → IsTaken old new r → In r taken
  was_taken r is = by_in r taken
      (λ out. by_in r killed
      (λ left. absurd (let same = m.others r out left in let free = is.0 in let born = is.1 in cc))
      (λ j. absurd (let free = is.0 in let born = (m.dies r j).1 in cc)))
      (λ i. i)

  was_killed : (r : ℕ) → IsKilled old new r → In r killed
  was_killed r is = by_in r killed
      (λ left. by_in r taken
      (λ out. absurd (let same = m.others r out left in let born = is.1 in let dead = is.3 in cc))
      (λ i. absurd (let free = m.free r i in let born = is.1 in cc)))
      (λ j. j)

  pub changes : Changes old new killed taken
  changes = record {
    taken = λ r. (
      (λ is. let i = was_taken r is in (i, not_in r killed (apart r i))),
      (λ only. (m.free r only.0, m.born r only.0)),
    );
    killed = λ r. (
      (λ is. let j = was_killed r is in (j, not_in r taken (λ i. apart r i j))),
      (λ only. m.dies r only.0),
    );
    others = λ r both. m.others r (not_in r taken (λ i. apart r i (both.1 i)))
        (not_in r killed (λ j. apart r (both.0 j) j));
    versions = (m.current, m.versions);
  }

  new_rows : (r : ℕ) → In r taken → IsNew new r
  new_rows r i =
      let v : version new ≡ version old = rw (m.current, m.versions) in
      m.born r i ∙ ap (λ (n : ℕ). Some (Born (n + 1))) (sym v)

-- planted, and then the old one felled
pub moved : (old mid new : State) (taken killed : List ℕ) → Takes old mid taken
    → Moves mid new [] killed → Moves old new taken killed
moved old mid new taken killed takes fells =
    subst (λ (l : List ℕ). Moves old new l killed) (append-nil taken)
    (moves_then old mid new taken [] [] killed (moves_takes old mid taken takes) fells)

-- ---- trees of two formats share no subtree

none_either : (p : Tree → Bool) (xs ys : List Tree) → list_any p xs ≡ false → list_any p ys ≡ false
    → list_any p (xs ++ ys) ≡ false
none_either p xs ys a b = list_any-append p xs ys ∙ or_from (list_any p xs) (list_any p ys) a b

module _ (f g : Format) (other : same_format g f ≡ false) (l : ℕ) (es : Entries) where
  not_same : (k : ℕ) (fs : Entries) → same_tree (node g l es) (node f k fs) ≡ false
  not_same k fs = ap (λ (b : Bool). b && (l == k) && same_entries es fs) other

  mutual
    none_in : (p : Placed) → list_any (same_tree (node g l es)) (subtrees (tree_of f p)) ≡ false
    none_in none = refl
    none_in (head at k chain) =
        ap (λ (b : Bool). b || list_any (same_tree (node g l es))
        (entries_subtrees (entries_of f chain))) (not_same k (entries_of f chain))
        ∙ none_below chain

    none_below : (chain : Chain) → list_any (same_tree (node g l es))
        (entries_subtrees (entries_of f chain)) ≡ false
    none_below (end child) = none_in child
    none_below (cell at child key value rest) =
        none_either (same_tree (node g l es)) (subtrees (tree_of f child))
        (entries_subtrees (entries_of f rest)) (none_in child) (none_below rest)

-- ---- so all nodes of the new tree are aged

mutual
  no_empty : (q : Placed) → Contains (placed_nodes q) none → ⊥
  no_empty none has = contains-nothing none has
  no_empty (head at layer chain) has =
      elim (contains-cases (head at layer chain) (chain_nodes chain) none has) [
        | inl same ↦ cc
        | inr later ↦ no_empty_below chain later
      ]

  no_empty_below : (c : Chain) → Contains (chain_nodes c) none → ⊥
  no_empty_below (end child) has = no_empty child has
  no_empty_below (cell at child key value rest) has =
      elim (Contains-append_cases (placed_nodes child) (chain_nodes rest) none has) [
        | inl k ↦ no_empty child k
        | inr k ↦ no_empty_below rest k
      ]

heads : (P : Placed → Type 0) (w : Placed)
    → ((at layer : ℕ) (chain : Chain) → Contains (placed_nodes w) (head at layer chain)
    → P (head at layer chain)) → (p : Placed) → Contains (placed_nodes w) p → P p
heads P w each none has = absurd (no_empty w has)
heads P w each (head at layer chain) has = each at layer chain has

pub all_new : (f g : Format) → same_format g f ≡ false → (old new : State) (o w : Placed)
    → Moves old new (used w) (used o) → AllByRecursion (IsAged f g new o) (placed_nodes w)
all_new f g other old new o w m =
    all_contained (IsAged f g new o) (placed_nodes w)
    (heads (IsAged f g new o) w (λ at layer chain has. inr (
      (λ r i. new_rows old new (used w) (used o) m r (top_inside w (head at layer chain) has r i)),
      none_in f g other layer (entries_of g chain) o,
    )))
