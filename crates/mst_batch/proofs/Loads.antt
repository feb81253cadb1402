-- A batch in the empty map: its tree is planted whole.
use Rattle.mst_batch.proofs.Names.{◌≡◌, ℕ, ◌+◌, ◌<◌, List, [], ◌∷◌, Some, length, length-append, refl, sym, ◌∙◌, ap, subst, arith, inr, AllByRecursion, batched, IsSmall, Pair, Format, Edit, IsMap-batched, IsMap-nil, cost, new_rows, digest, Tree, Entries, entry_count, pairs, entries_pairs, tree, tree-no_pairs, pairs_tree, Content, In, times, State, version, free_count, Placed, none, head, Chain, end, cell, tree_of, used, chain_used, Stands, numbers, Born, Root, times-append, rows_beside, beside_cost, stays, MapStands, IsNew, Moves, Takes, KeepsBut, at_self, moves_takes, AfterChange, after_change, unchanged_map, LacksBatch, LacksPairs}
use Rattle.mst_key.specs.Map.{IsMap}
use Rattle.mst_node.specs.Tree.{empty, node, last, entry}
use Rattle.mst_change.specs.Batch.{entries_beside}
use Rattle.mst_path.specs.Made.{IsMade, IsMadeChain}
use Rattle.mst_path.specs.Planting.{node_count, entries_node_count}
use Rattle.mst_path.proofs.lemmas.trees.Joined.{placed_none}
use Rattle.mst_path.proofs.lemmas.versions.Changes.{Changed}
use Rattle.mst_path.proofs.lemmas.versions.Versions.{rows_of_map}
use Rattle.mst_batch.specs.declared.faults.BatchRefusal.{BatchRefusal}
use Rattle.mst_batch.specs.declared.faults.BatchRefusal.TheVariants.{Memory, NoRoom}

-- ---- what it costs

-- beside the empty tree each node is new
mutual
  all_beside : (t : Tree) → rows_beside empty t ≡ length (pairs t) + node_count t
  all_beside empty = refl
  all_beside (node g l es) = omega (arith, below_beside es)

  below_beside : (es : Entries) → entry_count es + entries_beside empty es
      ≡ length (entries_pairs es) + entries_node_count es
  below_beside (last child) = omega (arith, all_beside child)
  below_beside (entry child key value rest) =
      omega (
        arith,
        all_beside child,
        below_beside rest,
        length-append (pairs child) ((key, value) ∷ entries_pairs rest),
      )

pub cost_of_all : (format : Format) (n : List Pair)
    → cost format [] n ≡ length n + node_count (tree format n)
cost_of_all format n =
    ap (λ (t : Tree). new_rows t (tree format n)) (tree-no_pairs format [] refl)
    ∙ sym (beside_cost empty (tree format n)) ∙ all_beside (tree format n)
    ∙ ap (λ (ps : List Pair). length ps + node_count (tree format n)) (pairs_tree format n)

-- ---- what stands on new rows

mutual
  made_new : (s : State) (p : Placed) → ((r : ℕ) → In r (used p) → IsNew s r) → IsMade s p
  made_new s none new = tt
  made_new s (head at layer chain) new = inr (
    new at (omega (arith, at_self at)),
    chain_made_new s chain (λ r i. new r (omega (arith, i))),
  )

  chain_made_new : (s : State) (chain : Chain) → ((r : ℕ) → In r (chain_used chain) → IsNew s r)
      → IsMadeChain s chain
  chain_made_new s (end child) new = made_new s child new
  chain_made_new s (cell at child key value rest) new = (
    new at (omega (arith, at_self at)),
    made_new s child
        (λ r i. new r (omega (arith, i, times-append r (used child) (chain_used rest)))),
    chain_made_new s rest
        (λ r i. new r (omega (arith, i, times-append r (used child) (chain_used rest)))),
  )

-- ---- the map at a root whose link is 0

module _ (format : Format) (c : Content) (root : Root) (zero_link : root.link ≡ 0) (m : List Pair)
    (st : Stands format c root m) where
  pub nothing_placed : st.tree.placed ≡ none
  nothing_placed = placed_none st.tree.placed root.link st.tree.at zero_link

  pub no_pairs : m ≡ []
  no_pairs = sym (pairs_tree format m)
      ∙ ap pairs (sym st.tree.is ∙ ap (tree_of format) nothing_placed)

-- ---- what the caller learns

abbrev pub AfterBatch : (format : Format) (c c1 : Content) (s s1 : State) (root at : Root)
    → List Edit → Type 0
AfterBatch format c c1 s s1 root at es =
    AfterChange format c c1 s s1 root at (λ m. batched m es)

pub is_map : (es : List Edit) → AllByRecursion IsSmall es → IsMap (batched [] es)
is_map es small = IsMap-batched [] es IsMap-nil small

module _ (format : Format) (c : Content) (s : State) (root : Root) (zero_link : root.link ≡ 0)
    (one : MapStands format c s root) (es : List Edit) (small : AllByRecursion IsSmall es) where
  fits : (m : List Pair) → IsMap m → IsMap (batched m es)
  fits m map = IsMap-batched m es map small

  -- the tree of the pairs is empty, and the root stays
  pub after_nothing : empty ≡ tree format (batched [] es) → AfterBatch format c c s s root root es
  after_nothing none_left =
      let gone : batched [] es ≡ [] = sym (pairs_tree format (batched [] es))
      ∙ ap pairs (sym none_left) in
      after_change format c c s s root root (λ m. batched m es) one fits
      (λ m st old.
      let was = no_pairs format c root zero_link m st in
      let same : batched m es ≡ m = ap (λ (k : List Pair). batched k es) was ∙ gone ∙ sym was in
      unchanged_map format c s root (λ k. batched k es) m st old same
      (ap (cost format m) same ∙ stays (tree format m)))

  -- the tree is planted
  module _ (c1 : Content) (s1 : State) (at : Root) (w : Stands format c1 at (batched [] es))
      (takes : Takes s s1 (numbers w)) (keeps : KeepsBut (numbers w) c c1) where
    moves : Moves s s1 (numbers w) []
    moves = moves_takes s s1 (numbers w) takes

    new_rows_taken : (r : ℕ) → In r (numbers w) → IsNew s1 r
    new_rows_taken r i =
        let v : version s1 ≡ version s = rw (moves.current, moves.versions) in
        moves.born r i ∙ ap (λ (n : ℕ). Some (Born (n + 1))) (sym v)

    planted : (m : List Pair) (st : Stands format c root m)
        → Changed format c c1 s s1 root at (λ k. batched k es) m st
    planted m st =
        let was : [] ≡ m = sym (no_pairs format c root zero_link m st) in
        record {
          placed = w.tree.placed;
          is = w.tree.is ∙ ap (λ (k : List Pair). tree format (batched k es)) was;
          root = record {
            link = sym w.tree.at;
            sum = w.digest ∙ sym (ap digest w.tree.is);
          };
          piece = record {
            rows = w.tree.rows;
            made = made_new s1 w.tree.placed new_rows_taken;
          };
          taken = numbers w;
          killed = [];
          moves = moves;
          keeps = keeps;
          rows = λ x. omega (
            arith,
            ap (λ (p : Placed). times x (used p)) (nothing_placed format c root zero_link m st),
          );
          counted = rows_of_map format c1 at (batched [] es) w
              ∙ sym (cost_of_all format (batched [] es))
              ∙ ap (λ (k : List Pair). cost format k (batched k es)) was;
        }

    pub after_planted : AfterBatch format c c1 s s1 root at es
    after_planted = after_change format c c1 s s1 root at (λ m. batched m es) one fits
        (λ m st old. planted m st)

-- ---- what it lacks

module _ (format : Format) (c : Content) (root : Root) (zero_link : root.link ≡ 0)
    (es : List Edit) where
  pub lacks_room : (n : ℕ) → n < length (batched [] es) + node_count (tree format (batched [] es))
      → (m : List Pair) → Stands format c root m → n < cost format m (batched m es)
  lacks_room n less m st =
      let is = cost_of_all format (batched [] es) in
      subst (λ (k : List Pair). n < cost format k (batched k es))
      (sym (no_pairs format c root zero_link m st)) (omega (arith, less, is))

  pub lacks_pairs : (s : State) → 1 < length es → (why : BatchRefusal)
      → LacksPairs why (free_count s.lives) (batched [] es) → LacksBatch why format c s root es
  lacks_pairs s some (Memory refused) lacks = some
  lacks_pairs s some NoRoom lacks = lacks_room (free_count s.lives) (omega (arith, lacks))
