-- A plan that is carried out in place of the tree that stood: what was kept and what fell are all
-- its rows.
use Rattle.mst_batch.proofs.Names.{◌≡◌, ℕ, zero, suc, ◌+◌, ◌<◌, ◌≤◌, Bool, true, false, List, [], ◌∷◌, ◌++◌, refl, sym, ◌∙◌, ap, subst, arith, inl, inr, if◌then◌else◌, Contains, append-nil, Contains-append_left, Contains-append_right, Contains-append_cases, Format, contains-cases, contains-nothing, contains-first, contains-later, Tree, Content, State, In, times, Root, Placed, none, head, Chain, end, cell, used, chain_used, times-append, placed_nodes, chain_nodes, ToFell, Grown, Moves, all_in, kept_at, old_alive, in_either, moves_then, alive_out, old_stays, is_marked, fallen, chain_fallen, PlanTree, PlanEntries, kept, made, last, entry, rows_kept, entries_kept, EachKept, EachKeptBelow, IsMarkedNode, trees_kept, entries_trees, Keeps, Sown}
use Rattle.mst_arena.proofs.Stands.{placed_frame}
use Rattle.mst_path.proofs.lemmas.trees.Made.{made_stays}

-- ---- the rows of marked nodes

abbrev mutual
  spared : List Bool → Placed → List ℕ
  spared marks none = []
  spared marks (head at layer chain) = if is_marked marks at then at ∷ chain_used chain
      else chain_spared marks chain

  chain_spared : List Bool → Chain → List ℕ
  chain_spared marks (end child) = spared marks child
  chain_spared marks (cell at child key value rest) =
      spared marks child ++ chain_spared marks rest

both_parts : (b : Bool) (at x : ℕ) (us fs ss : List ℕ) → times x us ≡ times x fs + times x ss
    → times x (at ∷ us) ≡ times x (if b then [] else at ∷ fs) + times x
    (if b then at ∷ us else ss)
both_parts true at x us fs ss is = omega arith
both_parts false at x us fs ss is = omega (arith, is)

mutual
  parted : (marks : List Bool) (x : ℕ) (p : Placed) → times x (used p) ≡ times x (fallen marks p)
      + times x (spared marks p)
  parted marks x none = omega arith
  parted marks x (head at layer chain) =
      both_parts (is_marked marks at) at x (chain_used chain) (chain_fallen marks chain)
      (chain_spared marks chain) (chain_parted marks x chain)

  chain_parted : (marks : List Bool) (x : ℕ) (c : Chain) → times x (chain_used c) ≡ times x
      (chain_fallen marks c) + times x (chain_spared marks c)
  chain_parted marks x (end child) = parted marks x child
  chain_parted marks x (cell at child key value rest) =
      omega (
        arith,
        parted marks x child,
        chain_parted marks x rest,
        times-append x (used child) (chain_used rest),
        times-append x (fallen marks child) (chain_fallen marks rest),
        times-append x (spared marks child) (chain_spared marks rest),
      )

-- ---- a row of a marked node is kept by the plan

-- what holds of each marked node that has the row
abbrev FromMarked : (marks : List Bool) → List Placed → ℕ → Type 0 → Type 0
FromMarked marks nodes x P = (row layer : ℕ) (chain : Chain) → Contains nodes (head row layer chain)
    → is_marked marks row ≡ true → In x (used (head row layer chain)) → P

module _ (marks : List Bool) (x : ℕ) (P : Type 0) where
  at_head : (b : Bool) (at layer : ℕ) (chain : Chain) → is_marked marks at ≡ b
      → In x (if b then at ∷ chain_used chain else chain_spared marks chain)
      → FromMarked marks (head at layer chain ∷ chain_nodes chain) x P
      → (In x (chain_spared marks chain) → FromMarked marks (chain_nodes chain) x P → P) → P
  at_head true at layer chain is i leads below =
      leads at layer chain
      (contains-first (head at layer chain) (chain_nodes chain)
      (head at layer chain) refl) is i
  at_head false at layer chain is i leads below =
      below i (λ row l c has. leads row l c
      (contains-later (head at layer chain) (chain_nodes chain)
      (head row l c) has))

  mutual
    from_spared : (p : Placed) → In x (spared marks p) → FromMarked marks (placed_nodes p) x P → P
    from_spared none i leads = absurd (omega (arith, i))
    from_spared (head at layer chain) i leads =
        at_head (is_marked marks at) at layer chain refl i leads
        (λ j below. from_chain chain j below)

    from_chain : (c : Chain) → In x (chain_spared marks c) → FromMarked marks (chain_nodes c) x P
        → P
    from_chain (end child) i leads = from_spared child i leads
    from_chain (cell at child key value rest) i leads =
        elim (in_either x (spared marks child) (chain_spared marks rest) i) [
          | inl k ↦ from_spared child k (λ row l c has. leads row l c
              (Contains-append_left (placed_nodes child)
              (chain_nodes rest) (head row l c) has))
          | inr k ↦ from_chain rest k (λ row l c has. leads row l c
              (Contains-append_right (placed_nodes child)
              (chain_nodes rest) (head row l c) has))
        ]

-- a row of a tree that is kept is among the kept rows
mutual
  tree_in : (at : ℕ → Placed) (y : PlanTree) (q : Placed) (x : ℕ) → Contains (trees_kept at y) q
      → In x (used q) → In x (rows_kept at y)
  tree_in at (kept link) q x has i =
      elim (contains-cases (at link) [] q has) [
        | inl same ↦
            let rows : times x (used (at link)) ≡ times x (used q) =
            ap (λ (p : Placed). times x (used p)) same in omega (arith, rows, i)
        | inr more ↦ absurd (contains-nothing q more)
      ]
  tree_in at (made l es) q x has i = tree_below at es q x has i

  tree_below : (at : ℕ → Placed) (es : PlanEntries) (q : Placed) (x : ℕ)
      → Contains (entries_trees at es) q → In x (used q) → In x (entries_kept at es)
  tree_below at (last child) q x has i = tree_in at child q x has i
  tree_below at (entry child key value rest) q x has i =
      elim (Contains-append_cases (trees_kept at child) (entries_trees at rest) q has) [
        | inl k ↦ let j = tree_in at child q x k i in
            omega (arith, j, times-append x (rows_kept at child) (entries_kept at rest))
        | inr k ↦ let j = tree_below at rest q x k i in
            omega (arith, j, times-append x (rows_kept at child) (entries_kept at rest))
      ]

-- ---- a row that the plan keeps is of a marked node

-- a node with a mark has all its rows among the spared ones
more_in : (b : Bool) (at x : ℕ) (us ss : List ℕ) → In x us → In x ss
    → In x (if b then at ∷ us else ss)
more_in true at x us ss i j = omega (arith, i)
more_in false at x us ss i j = j

mutual
  node_inside : (p q : Placed) (x : ℕ) → Contains (placed_nodes p) q → In x (used q)
      → In x (used p)
  node_inside none q x has i = absurd (contains-nothing q has)
  node_inside (head at layer chain) q x has i =
      elim (contains-cases (head at layer chain) (chain_nodes chain) q has) [
        | inl same ↦ subst (λ (p : Placed). In x (used p)) (sym same) i
        | inr later ↦ let j = node_inside_chain chain q x later i in omega (arith, j)
      ]

  pub node_inside_chain : (c : Chain) (q : Placed) (x : ℕ) → Contains (chain_nodes c) q
      → In x (used q) → In x (chain_used c)
  node_inside_chain (end child) q x has i = node_inside child q x has i
  node_inside_chain (cell at child key value rest) q x has i =
      elim (Contains-append_cases (placed_nodes child) (chain_nodes rest) q has) [
        | inl k ↦ let j = node_inside child q x k i in
            omega (arith, j, times-append x (used child) (chain_used rest))
        | inr k ↦ let j = node_inside_chain rest q x k i in
            omega (arith, j, times-append x (used child) (chain_used rest))
      ]

module _ (marks : List Bool) (x row l : ℕ) (c : Chain) (marked : is_marked marks row ≡ true)
    (i : In x (used (head row l c))) where
  mutual
    into_spared : (p : Placed) → Contains (placed_nodes p) (head row l c) → In x (spared marks p)
    into_spared none has = absurd (contains-nothing (head row l c) has)
    into_spared (head at layer chain) has =
        elim (contains-cases (head at layer chain) (chain_nodes chain) (head row l c) has) [
          | inl same ↦
              subst (λ (p : Placed). In x (spared marks p)) (sym same)
              (subst (λ (b : Bool). In x (if b then row ∷ chain_used c else chain_spared marks c))
              (sym marked) i)
          | inr later ↦
              more_in (is_marked marks at) at x (chain_used chain) (chain_spared marks chain)
              (node_inside_chain chain (head row l c) x later i) (into_chain chain later)
        ]

    into_chain : (d : Chain) → Contains (chain_nodes d) (head row l c)
        → In x (chain_spared marks d)
    into_chain (end child) has = into_spared child has
    into_chain (cell at child key value rest) has =
        elim (Contains-append_cases (placed_nodes child) (chain_nodes rest) (head row l c) has) [
          | inl k ↦ let j = into_spared child k in
              omega (arith, j, times-append x (spared marks child) (chain_spared marks rest))
          | inr k ↦ let j = into_chain rest k in
              omega (arith, j, times-append x (spared marks child) (chain_spared marks rest))
        ]

marked_in : (marks : List Bool) (whole p : Placed) (x : ℕ) → IsMarkedNode marks whole p
    → In x (used p) → In x (spared marks whole)
marked_in marks whole none x is i = absurd (omega (arith, i))
marked_in marks whole (head at layer chain) x is i =
    into_spared marks x at layer chain is.1 i whole is.0

mutual
  kept_in : (at : ℕ → Placed) (marks : List Bool) (whole : Placed) (y : PlanTree) (x : ℕ)
      → EachKept (λ link. IsMarkedNode marks whole (at link)) y → In x (rows_kept at y)
      → In x (spared marks whole)
  kept_in at marks whole (kept link) x each i = marked_in marks whole (at link) x each i
  kept_in at marks whole (made l es) x each i = kept_below at marks whole es x each i

  kept_below : (at : ℕ → Placed) (marks : List Bool) (whole : Placed) (es : PlanEntries) (x : ℕ)
      → EachKeptBelow (λ link. IsMarkedNode marks whole (at link)) es → In x (entries_kept at es)
      → In x (spared marks whole)
  kept_below at marks whole (last child) x each i = kept_in at marks whole child x each i
  kept_below at marks whole (entry child key value rest) x each i =
      elim (in_either x (rows_kept at child) (entries_kept at rest) i) [
        | inl k ↦ kept_in at marks whole child x each.0 k
        | inr k ↦ kept_below at marks whole rest x each.1 k
      ]

-- ---- so what fell and what was kept are all rows

same_count : (a b : ℕ) → a ≤ 1 → b ≤ 1 → (0 < a → 0 < b) → (0 < b → 0 < a) → a ≡ b
same_count zero zero la lb to from = refl
same_count zero (suc b) la lb to from = absurd (let i = from (omega arith) in omega (arith, i))
same_count (suc a) zero la lb to from = absurd (let i = to (omega arith) in omega (arith, i))
same_count (suc a) (suc b) la lb to from = omega (arith, la, lb)

module _ (at : ℕ → Placed) (marks : List Bool) (whole : Placed) (y : PlanTree)
    (keeps : Keeps at marks whole y) (once : (x : ℕ) → times x (used whole) ≤ 1)
    (kept_once : (x : ℕ) → times x (rows_kept at y) ≤ 1) where
  pub all_rows : (x : ℕ) → times x (used whole) ≡ times x (fallen marks whole) + times x
      (rows_kept at y)
  all_rows x =
      let same = same_count (times x (spared marks whole)) (times x (rows_kept at y))
      (omega (arith, parted marks x whole, once x)) (kept_once x)
      (λ i. from_spared marks x (In x (rows_kept at y)) whole i
      (λ row layer chain has marked j. tree_in at y (head row layer chain) x
      (keeps.all row layer chain has marked) j))
      (λ i. kept_in at marks whole y x keeps.nodes i) in
      omega (arith, same, parted marks x whole)

-- ---- the tree that stood, after the plan is carried out

module _ (format : Format) (c c' : Content) (s s' : State) (link : ℕ) (t : Tree) (root : Root)
    (kept_rows : List ℕ) (count : ℕ) (old : ToFell c s link)
    (q : Sown format c c' s s' t root kept_rows count) where
  abbrev pub still : ToFell c' s' link
  still = record {
    format = old.format;
    placed = old.placed;
    at = old.at;
    rows = placed_frame old.format c c' old.placed
        (all_in (used old.placed)
        (λ x i. kept_at c c' q.taken x q.keeps
        (alive_out s s' q.taken [] q.moves x (old_alive s x (old.old x i)))))
        old.rows;
    old = λ x i. old_stays s s' q.taken [] q.moves x (old.old x i) refl;
    search = old.search;
    once = old.once;
  }

  module _ (at : ℕ → Placed) (marks : List Bool) (y : PlanTree)
      (kept_is : kept_rows ≡ rows_kept at y) (kept_once : (x : ℕ) → times x (rows_kept at y) ≤ 1)
      (keeps : Keeps at marks old.placed y) (s2 : State)
      (fell : Moves s' s2 [] (fallen marks old.placed)) where
    rows : (x : ℕ) → times x (used old.placed) ≡ times x (fallen marks old.placed) + times x
        kept_rows
    rows x = all_rows at marks old.placed y keeps old.once kept_once x ∙ omega
        (arith, ap (times x) kept_is)

    -- no row of the new tree dies
    spared_new : (x : ℕ) → In x (used q.placed) → times x (fallen marks old.placed) ≡ 0
    spared_new x i = go (times x (fallen marks old.placed)) refl
      where
        go : (n : ℕ) → times x (fallen marks old.placed) ≡ n → n ≡ 0
        go zero e = refl
        go (suc n) some =
            let stood : In x (used old.placed) = omega (arith, some, rows x) in
            let out = alive_out s s' q.taken [] q.moves x (old_alive s x (old.old x stood)) in
            absurd (omega (arith, i, out, some, q.rows x, rows x, old.once x))

    pub replaced : Grown format c c' s s2 t root (λ x. times x (used old.placed)) count
    replaced = record {
      placed = q.placed;
      is = q.is;
      root = q.root;
      piece = record {
        rows = q.piece.rows;
        made = made_stays s' s2 [] (fallen marks old.placed) fell q.placed spared_new q.piece.made;
      };
      taken = q.taken;
      killed = fallen marks old.placed;
      moves =
          subst (λ (l : List ℕ). Moves s s2 l (fallen marks old.placed)) (append-nil q.taken)
          (moves_then s s' s2 q.taken [] [] (fallen marks old.placed) q.moves fell);
      keeps = q.keeps;
      rows = λ x. omega (arith, q.rows x, rows x);
      counted = q.counted;
    }
