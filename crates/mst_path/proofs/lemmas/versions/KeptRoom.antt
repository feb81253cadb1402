-- The rows that kept versions of a history reach together are as many as these versions hold.
use Rattle.mst_path.proofs.Names.{◌≡◌, ℕ, zero, suc, ◌+◌, ◌<◌, ◌≤◌, inl, inr, eqb, nat_lt, Bool, true, false, ◌&&◌, ◌||◌, cond, List, [], ◌∷◌, ◌++◌, length, take, refl, sym, ◌∙◌, ap, subst, arith, true≢false, ◌↔◌, AllByRecursion, list_any, nat_tests, History, after, format_after, Format, subtrees, entries_subtrees, is_subtree, top_entries, tree_at, lasts, Tree, tree, State, version, reaches, free_count, In, times, bit, Placed, none, head, Chain, end, cell, tree_of, entries_of, used, chain_used, IsDistinct, Life, times-append, placed_nodes, chain_nodes, chain_own, top_rows, HasAge, TogetherReach, IsSettled, swept_by, and_parts, or_cases}
use Rattle.std.proofs.Common.{not}
use Rattle.std.specs.Prelude.{◌==◌}
use Rattle.std.proofs.lemmas.List.{length-take-le, take-take}
use Rattle.mst_node.specs.Stays.{is_kept, has_stayed, rows_first_at, held_below, held}
use Rattle.mst_node.proofs.Weights.{weigh, weigh_is, weigh-append}
use Rattle.mst_path.specs.Ages.{HasPlace}
use Rattle.mst_path.proofs.lemmas.versions.Changes.{distinct_times, times_distinct}
use Rattle.mst_path.proofs.lemmas.rows.FreeCounts.{count_swept, any_in}
use Rattle.mst_path.proofs.lemmas.versions.HeldRows as counting
use Rattle.mst_path.proofs.lemmas.versions.NodeSums.{own_length}
use Rattle.mst_path.proofs.lemmas.versions.Reached.{has_in}
use Rattle.std.proofs.lemmas.Bool.{and_from, or_left, or_right}

-- ---- the nodes of a tree have its rows

abbrev rows_of_all : List Placed → List ℕ
rows_of_all [] = []
rows_of_all (p ∷ ps) = top_rows p ++ rows_of_all ps

times_all : (x : ℕ) (ps qs : List Placed) → times x (rows_of_all (ps ++ qs)) ≡ times x
    (rows_of_all ps) + times x (rows_of_all qs)
times_all x [] qs = omega arith
times_all x (p ∷ ps) qs =
    omega (
      arith,
      times_all x ps qs,
      times-append x (top_rows p) (rows_of_all (ps ++ qs)),
      times-append x (top_rows p) (rows_of_all ps),
    )

mutual
  rows_of_nodes : (x : ℕ) (p : Placed) → times x (used p) ≡ times x (rows_of_all (placed_nodes p))
  rows_of_nodes x none = refl
  rows_of_nodes x (head at layer chain) =
      omega (
        arith,
        rows_of_chain x chain,
        times-append x (chain_own chain)
            (rows_of_all (chain_nodes chain)),
      )

  rows_of_chain : (x : ℕ) (chain : Chain) → times x (chain_used chain) ≡ times x (chain_own chain)
      + times x (rows_of_all (chain_nodes chain))
  rows_of_chain x (end child) = omega (arith, rows_of_nodes x child)
  rows_of_chain x (cell at child key value rest) =
      omega (
        arith,
        rows_of_nodes x child,
        rows_of_chain x rest,
        times-append x (used child)
            (chain_used rest),
        times_all x (placed_nodes child) (chain_nodes rest),
      )

-- ---- the nodes of a tree, weighed

top_length : (format : Format) (at layer : ℕ) (chain : Chain)
    → length (top_rows (head at layer chain)) ≡ top_entries (tree_of format (head at layer chain))
    + 1
top_length format at layer chain = omega (arith, own_length format chain)

module _ (format : Format) (test : Tree → Bool) where
  abbrev weigh_nodes : List Placed → ℕ
  weigh_nodes [] = 0
  weigh_nodes (p ∷ ps) = cond (test (tree_of format p)) (length (top_rows p)) 0 + weigh_nodes ps

  weigh_nodes-append : (ps qs : List Placed) → weigh_nodes (ps ++ qs) ≡ weigh_nodes ps + weigh_nodes
      qs
  weigh_nodes-append [] qs = omega arith
  weigh_nodes-append (p ∷ ps) qs = omega (arith, weigh_nodes-append ps qs)

  mutual
    weigh_tree : (p : Placed) → weigh_nodes (placed_nodes p) ≡ weigh test
        (subtrees (tree_of format p))
    weigh_tree none = refl
    weigh_tree (head at layer chain) =
        let here = ap (λ (n : ℕ). cond (test (tree_of format (head at layer chain))) n 0)
        (top_length format at layer chain) in
        omega (arith, here, weigh_chain chain)

    weigh_chain : (chain : Chain) → weigh_nodes (chain_nodes chain) ≡ weigh test
        (entries_subtrees (entries_of format chain))
    weigh_chain (end child) = weigh_tree child
    weigh_chain (cell at child key value rest) =
        omega (
          arith,
          weigh_tree child,
          weigh_chain rest,
          weigh_nodes-append (placed_nodes child)
              (chain_nodes rest),
          weigh-append test (subtrees (tree_of format child))
              (entries_subtrees (entries_of format rest)),
        )

-- ---- bools

same_bool : (a b : Bool) → (a ≡ true → b ≡ true) → (b ≡ true → a ≡ true) → a ≡ b
same_bool true true f g = refl
same_bool true false f g = sym (f refl)
same_bool false true f g = g refl
same_bool false false f g = refl

-- ---- the versions that are kept

kept_in : (live : List ℕ) (v : ℕ) → is_kept live v ≡ true → In v live
kept_in live v is =
    let found = any_in (λ u. u == v) live is in
    let e : (found.0 == v) ≡ true = found.2 in
    let same : found.0 ≡ v = grind (arith, nat_tests, e) in
    subst (λ (u : ℕ). In u live) same found.1

any_from : (p : ℕ → Bool) (live : List ℕ) (v : ℕ) → In v live → p v ≡ true → list_any p live ≡ true
any_from p [] v i is = absurd (omega (arith, i))
any_from p (u ∷ live) v i is = go (eqb v u) refl i (λ j. any_from p live v j is)
  where
    go : (b : Bool) → eqb v u ≡ b → 0 < bit b + times v live → (In v live → list_any p live ≡ true)
        → (p u || list_any p live) ≡ true
    go true e j more = let same : v ≡ u = grind (arith, nat_tests, e) in
        or_left (p u) (list_any p live) (ap p (sym same) ∙ is)
    go false e j more = or_right (p u) (list_any p live) (more (omega (arith, j)))

module _ (first : Format) (lives : List Life) (h : History) (live : List ℕ)
    (places : (v : ℕ) → In v live → (v ≤ length h) × HasPlace first lives h v) where
  abbrev kept : ℕ → Bool
  kept v = is_kept live v

  nodes_if : (v : ℕ) (b : Bool) → kept v ≡ b → List Placed
  nodes_if v true is = placed_nodes (places v (kept_in live v is)).1.placed
  nodes_if v false is = []

  nodes : ℕ → List Placed
  nodes v = nodes_if v (kept v) refl

  abbrev form : ℕ → Format
  form w = format_after first (take w h)

  -- the node is one of version w
  abbrev run : ℕ → ℕ → Placed → Bool
  run u w p = lasts first h u w (tree_of (form w) p)

  abbrev met : ℕ → ℕ → Placed → Bool
  met = counting.met_below Placed top_rows nodes run kept

  abbrev reach : ℕ → ℕ → Bool
  reach v x = reaches lives v x

  -- the nodes of a kept version are those of the tree that stands for it
  nodes_kept : (v : ℕ) → kept v ≡ true → (i : In v live)
      × (nodes v ≡ placed_nodes (places v i).1.placed)
  unfolding nodes_if nodes
  nodes_kept v is = go (kept v) refl is
    where
      go : (b : Bool) (e : kept v ≡ b) → b ≡ true → (i : In v live)
          × (nodes_if v b e ≡ placed_nodes (places v i).1.placed)
      go true e same = (kept_in live v e, refl)
      go false e same = absurd (true≢false (sym same))

  -- ---- what the counting asks for

  exact : (v x : ℕ) → kept v ≡ true → reach v x ≡ true ↔ 0 < times x (rows_of_all (nodes v))
  exact v x is =
      let k = nodes_kept v is in
      let p = (places v k.0).1 in
      let same : times x (rows_of_all (nodes v)) ≡ times x (used p.placed) =
      ap (λ (ps : List Placed). times x (rows_of_all ps)) k.1 ∙ sym (rows_of_nodes x p.placed)
      in (
        λ r. let i = (p.rows x).0 r in omega (arith, i, same),
        λ i. (p.rows x).1
            (omega (arith, i, same)),
      )

  once : (v x : ℕ) → kept v ≡ true → times x (rows_of_all (nodes v)) ≤ 1
  once v x is =
      let k = nodes_kept v is in
      let p = (places v k.0).1 in
      let same : times x (rows_of_all (nodes v)) ≡ times x (used p.placed) =
      ap (λ (ps : List Placed). times x (rows_of_all ps)) k.1 ∙ sym (rows_of_nodes x p.placed)
      in
      omega (arith, same, distinct_times (used p.placed) p.once x)

  lasts_front : (v w n : ℕ) (t : Tree) → w ≤ n → lasts first (take n h) v w t ≡ lasts first h v w t
  lasts_front v zero n t le =
      ap (λ (g : History). is_subtree t (tree (format_after first g) (after g)))
      (take-take zero n h le)
  lasts_front v (suc w) n t le =
      let here = take-take (suc w) n h le in
      let back = lasts_front v w n t (omega (arith, le)) in
      λ i. is_subtree t (tree (format_after first (here i)) (after (here i)))
      && (nat_lt w v || back i)

  aged_list : (w v : ℕ) → w ≤ length h → v < w → (ps : List Placed)
      → AllByRecursion (HasAge first lives (take w h)) ps → counting.Aged Placed top_rows nodes run
      kept reach w v ps
  aged_list w v le lt [] all = tt
  aged_list w v le lt (p ∷ ps) all =
      let long : length (take w h) ≡ w = length-take-le w h le in (
        λ x i. all.0 x v i (omega (arith, lt, long))
            ∙ ap (λ (n : ℕ). lasts first (take w h) v n (tree_of (form w) p)) long
            ∙ lasts_front v w w (tree_of (form w) p) (omega arith),
        aged_list w v le lt ps all.1,
      )

  aged : (w v : ℕ) → kept w ≡ true → v < w → counting.Aged Placed top_rows nodes run kept reach w v
      (nodes w)
  aged w v is lt =
      let k = nodes_kept w is in
      let p = places w k.0 in
      subst (counting.Aged Placed top_rows nodes run kept reach w v) (sym k.1)
      (aged_list w v p.0 lt (placed_nodes p.1.placed) p.1.ages)

  -- ---- what is counted is what is held

  met_in : (m w : ℕ) (p : Placed) → met m w p ≡ true → (u : ℕ) × (u < m) × (kept u ≡ true)
      × (run u w p ≡ true)
  met_in zero w p is = absurd (true≢false (sym is))
  met_in (suc m) w p is = elim (or_cases (kept m && run m w p) (met m w p) is) [
    | inl here ↦ let both = and_parts (kept m) (run m w p) here in (m, omega arith, both.0, both.1)
    | inr back ↦ let r = met_in m w p back in (r.0, (let l = r.1 in omega (arith, l)), r.2, r.3)
  ]

  in_met : (m w : ℕ) (p : Placed) (u : ℕ) → u < m → kept u ≡ true → run u w p ≡ true
      → met m w p ≡ true
  in_met zero w p u lt is long = absurd (omega (arith, lt))
  in_met (suc m) w p u lt is long = go (u == m) refl (λ l. in_met m w p u l is long)
    where
      go : (b : Bool) → (u == m) ≡ b → (u < m → met m w p ≡ true)
          → ((kept m && run m w p) || met m w p) ≡ true
      go true e back = let same : u ≡ m = grind (arith, nat_tests, e) in
          or_left (kept m && run m w p) (met m w p)
          (and_from (kept m) (run m w p) (ap kept (sym same) ∙ is)
          (ap (λ (n : ℕ). run n w p) (sym same) ∙ long))
      go false e back = let other : u ≡ m → ⊥ = grind (arith, nat_tests, e) in
          or_right (kept m && run m w p) (met m w p) (back (omega (arith, lt, other)))

  met_stayed : (w : ℕ) (p : Placed) → met w w p ≡ has_stayed first h live w (tree_of (form w) p)
  met_stayed w p = same_bool (met w w p) (has_stayed first h live w (tree_of (form w) p))
      (λ is. let m = met_in w w p is in let e : nat_lt m.0 w ≡ true =
      below m.0 m.1 in any_from (λ u. nat_lt u w && lasts first h u w (tree_of (form w) p)) live
      m.0 (kept_in live m.0 m.2) (and_from (nat_lt m.0 w) (run m.0 w p) e m.3))
      (λ is. let found = any_in (λ u. nat_lt u w && lasts first h u w (tree_of (form w) p)) live is
      in let both = and_parts (nat_lt found.0 w) (run found.0 w p) found.2 in
      in_met w w p found.0 (above found.0 both.0) (has_in found.0 live found.1) both.1)
    where
      below : (u : ℕ) → u < w → nat_lt u w ≡ true
      below u lt = grind (arith, nat_tests, lt)

      above : (u : ℕ) → nat_lt u w ≡ true → u < w
      above u e = grind (arith, nat_tests, e)

  firsts_weigh : (w : ℕ) (ps : List Placed) → counting.weigh Placed top_rows nodes run kept
      (counting.firsts Placed top_rows nodes run kept w ps) ≡ weigh_nodes (form w)
      (λ t. not (has_stayed first h live w t)) ps
  firsts_weigh w [] = refl
  firsts_weigh w (p ∷ ps) = go (met w w p) (has_stayed first h live w (tree_of (form w) p))
      (met_stayed w p) (firsts_weigh w ps)
    where
      go : (a b : Bool) → a ≡ b → counting.weigh Placed top_rows nodes run kept
          (counting.firsts Placed top_rows nodes run kept w ps) ≡ weigh_nodes (form w)
          (λ t. not (has_stayed first h live w t)) ps
          → counting.weigh Placed top_rows nodes run kept
          (counting.either_list Placed top_rows nodes run kept a
          (counting.firsts Placed top_rows nodes run kept w ps)
          (p ∷ counting.firsts Placed top_rows nodes run kept w ps)) ≡ cond (not b)
          (length (top_rows p)) 0 + weigh_nodes (form w)
          (λ t. not (has_stayed first h live w t)) ps
      go true true e rest = omega (arith, rest)
      go true false e rest = absurd (true≢false e)
      go false true e rest = absurd (true≢false (sym e))
      go false false e rest = omega (arith, rest)

  first_rows : (w : ℕ) (b : Bool) → kept w ≡ b → counting.weigh Placed top_rows nodes run kept
      (counting.pick Placed top_rows nodes run kept b
      (counting.firsts Placed top_rows nodes run kept w (nodes w))) ≡ cond b
      (rows_first_at first h live w) 0
  first_rows w false is = refl
  first_rows w true is =
      let k = nodes_kept w is in
      let p = (places w k.0).1 in
      let test : Tree → Bool = λ t. not (has_stayed first h live w t) in
      firsts_weigh w (nodes w)
      ∙ ap (weigh_nodes (form w) test) k.1
      ∙ weigh_tree (form w) test p.placed
      ∙ ap (λ (t : Tree). weigh test (subtrees t)) p.is
      ∙ sym (weigh_is test (subtrees (tree_at first h w)))

  held_is : (n : ℕ) → counting.held_below Placed top_rows nodes run kept n ≡ held_below first h live
      n
  held_is zero = refl
  held_is (suc n) = omega (arith, first_rows n (kept n) refl, held_is n)

  -- ---- together

  abbrev rows : List ℕ
  rows = counting.rows_below Placed top_rows nodes run kept (length h + 1)

  rows_together : TogetherReach lives live rows
  rows_together r = (
    λ some. (counting.together Placed top_rows nodes run kept reach exact once aged (length h + 1)
        r).0 (
          some.0,
          (let le = (places some.0 some.1).0 in omega (arith, le)),
          has_in some.0 live
              some.1,
          some.2,
        ),
    λ i. let t =
        (counting.together Placed top_rows nodes run kept reach exact once aged (length h + 1) r).1
        i in (t.0, kept_in live t.0 t.2, t.3),
  )

  rows_distinct : IsDistinct rows
  rows_distinct =
      times_distinct rows (λ r. counting.rows_once Placed top_rows nodes run kept reach exact once
      aged (length h + 1) r)

  rows_length : length rows ≡ held first h live
  rows_length = counting.counted Placed top_rows nodes run kept (length h + 1)
      ∙ held_is (length h + 1)

pub held_free : (first : Format) (s : State) (h : History) (live : List ℕ) → IsSettled s
    → In (version s) live → ((v : ℕ) → In v live → (v ≤ length h) × HasPlace first s.lives h v)
    → free_count (swept_by live s).lives + held first h live ≡ length s.lives
held_free first s h live settled now places =
    omega (
      arith,
      count_swept s live (rows first s.lives h live places) settled now
          (rows_distinct first s.lives h live places) (rows_together first s.lives h live places),
      rows_length first s.lives h live places,
    )
