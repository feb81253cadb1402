-- Plans that meet what the calls require: one that keeps the whole tree, and one of a node alone.
use Rattle.mst_batch.proofs.Names.{◌≡◌, ℕ, zero, suc, ◌+◌, ◌≤◌, Bool, true, false, List, [], ◌∷◌, inl, inr, refl, sym, ◌∙◌, ap, subst, arith, ◌↔◌, Contains, batched, layer_in, Pair, Format, IsMap-nil, contains-cases, contains-nothing, contains-first, new_rows, digest, Tree, IsMst, pairs, tree-no_pairs, pairs_tree, tree_unique, Content, In, times, State, Placed, none, head, Chain, tree_of, link_of, used, chain_used, Stands, numbers, Root, stays, placed_nodes, chain_nodes, AreOld, IsRootOf, at_self, distinct_times, mst_of, one_standing, IsPlanOf, is_marked, PlanTree, kept, made, last, entry, IsMarkedNode, Keeps}
use Rattle.mst_key.specs.Bytes.{IsKey, IsValue}
use Rattle.mst_key.specs.Map.{put}
use Rattle.mst_key.specs.declared.history.Edit.TheVariants as edit
use Rattle.mst_key.proofs.MapLaws.{IsMap-put}
use Rattle.mst_node.specs.Tree as tree
use Rattle.mst_batch.proofs.Replaced.{node_inside_chain}

-- ---- one mark

-- a mark at this row and no other
abbrev pub one_mark : ℕ → List Bool
one_mark zero = true ∷ []
one_mark (suc row) = false ∷ one_mark row

mark_at : (n row : ℕ) → is_marked (one_mark n) row ≡ true → row ≡ n
mark_at zero zero marked = refl
mark_at zero (suc row) marked = absurd cc
mark_at (suc n) zero marked = absurd cc
mark_at (suc n) (suc row) marked = ap suc (mark_at n row marked)

marked_at : (n : ℕ) → is_marked (one_mark n) n ≡ true
marked_at zero = refl
marked_at (suc n) = marked_at n

-- the marks of a link
pub marks_of : (link : ℕ) → (marks : List Bool)
    × ((row : ℕ) → (is_marked marks row ≡ true) ↔ (row + 1 ≡ link))
marks_of zero = ([], λ row. (λ marked. absurd cc, λ is. absurd (omega (arith, is))))
marks_of (suc n) = (
  one_mark n,
  λ row. (
    λ marked. omega (arith, mark_at n row marked),
    λ is. subst (λ (r : ℕ). is_marked (one_mark n) r ≡ true) (omega (arith, is)) (marked_at n),
  ),
)

-- ---- the whole tree is kept

own_row : (row : ℕ) (xs : List ℕ) → In row (row ∷ xs)
own_row row xs = omega (arith, at_self row)

module _ (marks : List Bool) (link : ℕ)
    (only : (row : ℕ) → (is_marked marks row ≡ true) ↔ (row + 1 ≡ link)) where
  top_marked : (p : Placed) → link_of p ≡ link → IsMarkedNode marks p p
  top_marked none is = tt
  top_marked (head row layer chain) is = (
    contains-first (head row layer chain) (chain_nodes chain) (head row layer chain) refl,
    (only row).1 is,
  )

  -- each row stands once, so no node below has the marked row
  all_kept : (p : Placed) → link_of p ≡ link → ((x : ℕ) → times x (used p) ≤ 1)
      → (row layer : ℕ) (chain : Chain) → Contains (placed_nodes p) (head row layer chain)
      → is_marked marks row ≡ true → Contains (p ∷ []) (head row layer chain)
  all_kept none is once row layer chain has marked =
      absurd (contains-nothing (head row layer chain) has)
  all_kept (head top l c) is once row layer chain has marked =
      elim (contains-cases (head top l c) (chain_nodes c) (head row layer chain) has) [
        | inl same ↦ contains-first (head top l c) [] (head row layer chain) same
        | inr later ↦
            let same : row ≡ top = omega (arith, is, (only row).0 marked) in
            let below = node_inside_chain c (head row layer chain) row later
            (own_row row (chain_used chain)) in
            absurd (omega (
              arith,
              once top,
              at_self top,
              below,
              ap (λ (n : ℕ). times n (chain_used c)) same,
            ))
      ]

  keeps_whole : (p : Placed) → link_of p ≡ link → ((x : ℕ) → times x (used p) ≤ 1)
      → Keeps (λ l. p) marks p (kept link)
  keeps_whole p is once = record { nodes = top_marked p is; all = all_kept p is once }

pub keeps_all : (format : Format) (c : Content) (s : State) (root : Root) (marks : List Bool)
    (m : List Pair) (stands : Stands format c root m) → AreOld s (numbers stands)
    → ((row : ℕ) → (is_marked marks row ≡ true) ↔ (row + 1 ≡ root.link))
    → IsPlanOf format c s root marks (kept root.link) (λ n. n)
keeps_all format c s root marks m stands old only =
    let whole = stands.tree.placed in
    let once = distinct_times (used stands.tree.placed) stands.tree.once in
    record {
      at = λ link. stands.tree.placed;
      fits = λ n map. map;
      possible = record {
        links = stands.tree.at;
        stand = record { rows = stands.tree.rows; old = old };
        once = once;
        search = mst_of format stands.tree.placed m stands.tree.is;
      };
      keeps = λ n st.
          subst (λ (p : Placed). Keeps (λ l. stands.tree.placed) marks p (kept root.link))
          (one_standing format c root m n stands st)
          (keeps_whole marks root.link only stands.tree.placed stands.tree.at once);
      is = λ n st. ap (tree_of format) (one_standing format c root m n stands st) ∙ st.tree.is;
      rows = λ n st. sym (stays (tree.tree format n));
    }

-- ---- a node in place of the empty map

-- the empty map stands where no row does
abbrev pub empty_stands : (format : Format) (c : Content) (root : Root) → IsRootOf format none root
    → Stands format c root []
empty_stands format c root is = record {
  map = IsMap-nil;
  digest = is.sum ∙ ap digest (sym (tree-no_pairs format [] refl));
  tree = record {
    placed = none;
    at = sym is.link;
    is = sym (tree-no_pairs format [] refl);
    rows = tt;
    once = tt;
  };
}

nothing : (format : Format) (p : Placed) → tree_of format p ≡ tree.empty → p ≡ none
nothing format none is = refl
nothing format (head at layer chain) is = absurd cc

module _ (format : Format) (c : Content) (s : State) (root : Root) (marks : List Bool)
    (k v : List ℕ) (blank : Stands format c root []) where
  abbrev plan : PlanTree
  plan = made (layer_in format k) (entry (kept 0) k v (last (kept 0)))

  abbrev new : Tree
  new = tree.node format (layer_in format k) (tree.entry tree.empty k v (tree.last tree.empty))

  is_search : IsMst format new
  is_search = (refl, omega arith, (tt, tt, refl, (tt, tt)))

  nothing_stands : (n : List Pair) (st : Stands format c root n) → st.tree.placed ≡ none
  nothing_stands n st = sym (one_standing format c root [] n blank st)
      ∙ nothing format blank.tree.placed (blank.tree.is ∙ tree-no_pairs format [] refl)

  empty_tree : (n : List Pair) → Stands format c root n → tree.tree format n ≡ tree.empty
  empty_tree n st = sym st.tree.is ∙ ap (tree_of format) (nothing_stands n st)

  empty_map : (n : List Pair) → Stands format c root n → n ≡ []
  empty_map n st = sym (pairs_tree format n) ∙ ap pairs (empty_tree n st)

  new_tree : (n : List Pair) → Stands format c root n → new ≡ tree.tree format (put n k v)
  new_tree n st = sym (tree_unique new format is_search)
      ∙ ap (λ (m : List Pair). tree.tree format (put m k v)) (sym (empty_map n st))

  two_rows : new_rows tree.empty new ≡ 2
  two_rows = refl

  its_cost : (n : List Pair) → Stands format c root n
      → 2 ≡ new_rows (tree.tree format n) (tree.tree format (put n k v))
  its_cost n st = sym (ap (λ (t : Tree). new_rows t (tree.tree format (put n k v)))
      (empty_tree n st)
      ∙ ap (new_rows tree.empty) (sym (new_tree n st)) ∙ two_rows)

  pub plants_one : IsKey k → IsValue v
      → IsPlanOf format c s root marks plan (λ n. batched n (edit.Put k v ∷ []))
  plants_one key value = record {
    at = λ link. none;
    fits = λ n map. IsMap-put n k v map key value;
    possible = record {
      links = (refl, refl);
      stand = (
        record { rows = tt; old = λ r i. absurd (omega (arith, i)) },
        record { rows = tt; old = λ r i. absurd (omega (arith, i)) },
      );
      once = λ x. omega arith;
      search = is_search;
    };
    keeps = λ n st.
        subst (λ (p : Placed). Keeps (λ l. none) marks p plan) (sym (nothing_stands n st))
        (record {
          nodes = (tt, tt);
          all = λ row layer chain has marked.
              absurd (contains-nothing (head row layer chain) has);
        });
    is = new_tree;
    rows = its_cost;
  }
