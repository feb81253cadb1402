-- The ages of rows, from one version to the next, and over a sweep.
use Rattle.mst_path.proofs.Names.{◌≡◌, ℕ, zero, suc, ◌<◌, ◌≤◌, ◌⊎◌, inl, inr, nat_lt, Bool, true, false, ◌&&◌, ◌||◌, cond, List, [], ◌∷◌, ◌++◌, length, length-append, Option, Some, None, refl, sym, ◌∙◌, ap, arith, true≢false, Contains, slice_get, AllByRecursion, list_any, nat_tests, slice_get-map, History, after, format_after, Format, is_subtree, tree_at, lasts, Tree, tree, is_old, State, version, next, reaches, reached_at, swept_life, In, Life, Free, Born, Dead, Placed, tree_of, used, all_contained, top_inside, placed_nodes, top_rows, HasAge, HasAges, IsAged, IsNew, ReachesExactly, Changes, IsSettled, swept_by}
use Rattle.std.proofs.Common.{nat_le}
use Rattle.std.specs.Prelude.{◌==◌}
use Rattle.std.proofs.lemmas.List.{take_all, take-append-le}
use Rattle.mst_key.specs.declared.history.Event.{Event}
use Rattle.mst_key.proofs.Alls.{alls-weaker}
use Rattle.mst_key.proofs.SpanLaws.{contains-all}
use Rattle.mst_node.proofs.HeldLaws.{lasts_here, lasts_on, lasts_stands}
use Rattle.mst_path.proofs.lemmas.versions.NodeSums.{node_in}
use Rattle.mst_path.proofs.lemmas.versions.Reached.{older, newest, has_in, some_reach}

-- ---- one more event

module _ (first : Format) (h : History) (e : Event) where
  same_trees : (u : ℕ) → u ≤ length h → tree_at first (h ++ e ∷ []) u ≡ tree_at first h u
  same_trees u le = ap (λ (g : History). tree (format_after first g) (after g))
      (take-append-le u h (e ∷ []) le)

  same_lasts : (v w : ℕ) (t : Tree) → w ≤ length h → lasts first (h ++ e ∷ []) v w t ≡ lasts first h
      v w t
  same_lasts v zero t le = ap (is_subtree t) (same_trees zero le)
  same_lasts v (suc w) t le =
      let here = same_trees (suc w) le in
      let back = same_lasts v w t (omega (arith, le)) in
      λ i. is_subtree t (here i) && (nat_lt w v || back i)

  last_number : length (h ++ e ∷ []) ≡ suc (length h)
  last_number = omega (arith, length-append h (e ∷ []))

  last_tree : tree_at first (h ++ e ∷ []) (suc (length h)) ≡ tree (format_after first (h ++ e ∷ []))
      (after (h ++ e ∷ []))
  last_tree = ap (λ (g : History). tree (format_after first g) (after g))
      (take_all (suc (length h)) (h ++ e ∷ []) (omega (arith, last_number)))

  -- a tree that stands in the last version has stood there since it stood in the one before
  module _ (t : Tree)
      (stands : is_subtree t (tree (format_after first (h ++ e ∷ [])) (after (h ++ e ∷ []))) ≡ true)
    where
      stands_last : is_subtree t (tree_at first (h ++ e ∷ []) (suc (length h))) ≡ true
      stands_last = ap (is_subtree t) last_tree ∙ stands

      lasts_before : (v : ℕ) → v ≤ length h → lasts first (h ++ e ∷ []) v (length (h ++ e ∷ [])) t
          ≡ lasts first h v (length h) t
      lasts_before v le =
          ap (λ (n : ℕ). lasts first (h ++ e ∷ []) v n t) last_number
          ∙ lasts_on first (h ++ e ∷ []) v (length h) t le
          ∙ ap (λ (b : Bool). b && lasts first (h ++ e ∷ []) v (length h) t) stands_last
          ∙ same_lasts v (length h) t (omega arith)

      lasts_last : (v : ℕ) → v ≡ suc (length h) → lasts first (h ++ e ∷ []) v (length (h ++ e ∷ []))
          t
          ≡ true
      lasts_last v is =
          ap (λ (n : ℕ). lasts first (h ++ e ∷ []) n (length (h ++ e ∷ [])) t) is
          ∙ ap (λ (n : ℕ). lasts first (h ++ e ∷ []) (suc (length h)) n t) last_number
          ∙ lasts_here first (h ++ e ∷ []) (suc (length h)) t
          ∙ stands_last

-- a tree that does not stand in the last version has not lasted
not_lasted : (first : Format) (h : History) (t : Tree) (v : ℕ)
    → is_subtree t (tree (format_after first h) (after h)) ≡ false → lasts first h v (length h) t
    ≡ false
not_lasted first h t v not = go (lasts first h v (length h) t) refl
  where
    whole : tree_at first h (length h) ≡ tree (format_after first h) (after h)
    whole = ap (λ (g : History). tree (format_after first g) (after g))
        (take_all (length h) h (omega arith))

    go : (b : Bool) → lasts first h v (length h) t ≡ b → b ≡ false
    go false is = refl
    go true is =
        absurd (true≢false (sym (lasts_stands first h v (length h) t is) ∙ ap (is_subtree t) whole
        ∙ not))

up_to : (v n : ℕ) → v ≤ suc n → (v ≤ n) ⊎ (v ≡ suc n)
up_to v n le = go (v == suc n) refl
  where
    go : (b : Bool) → (v == suc n) ≡ b → (v ≤ n) ⊎ (v ≡ suc n)
    go true e = inr (grind (arith, nat_tests, e))
    go false e = let other : v ≡ suc n → ⊥ = grind (arith, nat_tests, e) in
        inl (omega (arith, le, other))

-- ---- a put or a remove

module _ (old new : State) (before after_rows : List ℕ) (change : Changes old new before after_rows)
  where
    -- the rows of the versions up to the current one keep their ages
    pub ages_stay : (first : Format) (h : History) (p : Placed) → length h ≤ version old
        → HasAges first old.lives h p → HasAges first new.lives h p
    ages_stay first h p le ages =
        alls-weaker (HasAge first old.lives h) (HasAge first new.lives h)
        (λ q was r v i below. older old new before after_rows change v r (omega (arith, le, below))
        ∙ was r v i below) (placed_nodes p) ages

module _ (old new : State) (o w : Placed) (first : Format) (h : History) (e : Event)
    (change : Changes old new (used o) (used w)) (settled : IsSettled old)
    (exact : ReachesExactly old.lives (version old) (used o)) (now : version old ≡ length h)
    (o_is : tree_of (format_after first h) o ≡ tree (format_after first h) (after h))
    (w_is : tree_of (format_after first (h ++ e ∷ [])) w ≡ tree (format_after first (h ++ e ∷ []))
    (after (h ++ e ∷ []))) (ages : HasAges first old.lives h o) where
  same_version : version new ≡ version old
  same_version = rw (change.versions.0, change.versions.1)

  module _ (q : Placed) (has : Contains (placed_nodes w) q) (r v : ℕ) (i : In r (top_rows q)) where
    stands_now : is_subtree (tree_of (format_after first (h ++ e ∷ [])) q)
        (tree (format_after first (h ++ e ∷ [])) (after (h ++ e ∷ []))) ≡ true
    stands_now = ap (is_subtree (tree_of (format_after first (h ++ e ∷ [])) q)) (sym w_is)
        ∙ is_old (tree_of (format_after first (h ++ e ∷ [])) q)
        (tree_of (format_after first (h ++ e ∷ [])) w)
        (node_in (format_after first (h ++ e ∷ [])) w q has)

    -- the version to come reaches each row
    reached_now : v ≡ suc (length h) → reaches new.lives v r ≡ true
    reached_now is =
        let number : v ≡ next old = omega (arith, is, now) in
        ap (λ (u : ℕ). reaches new.lives u r) number
        ∙ (newest old new (used o) (used w) change settled exact r).1 (top_inside w q has r i)

    -- no earlier one reaches a new row
    not_reached : IsNew new r → v ≤ length h → reaches new.lives v r ≡ false
    not_reached born le =
        let low : v < next new = omega (arith, le, now, same_version) in
        let not : nat_le (next new) v ≡ false = grind (arith, nat_tests, low) in
        ap (λ (l : Option Life). reached_at l v) born ∙ not

    ages_of : IsAged (format_after first h) (format_after first (h ++ e ∷ [])) new o q
        → v ≤ length (h ++ e ∷ []) → reaches new.lives v r ≡ lasts first (h ++ e ∷ []) v
        (length (h ++ e ∷ [])) (tree_of (format_after first (h ++ e ∷ [])) q)
    ages_of aged le = go (up_to v (length h) (omega (arith, le, last_number first h e))) aged
      where
        go : (v ≤ length h) ⊎ (v ≡ suc (length h)) → IsAged (format_after first h)
            (format_after first (h ++ e ∷ [])) new o q → reaches new.lives v r ≡ lasts first
            (h ++ e ∷ []) v (length (h ++ e ∷ [])) (tree_of (format_after first (h ++ e ∷ [])) q)
        go (inr is) any =
            reached_now is
            ∙ sym (lasts_last first h e (tree_of (format_after first (h ++ e ∷ [])) q) stands_now v
            is)
        go (inl below) (inl stood) =
            older old new (used o) (used w) change v r (omega (arith, below, now))
            ∙ contains-all (HasAge first old.lives h) (placed_nodes o) q ages stood.1 r v i below
            ∙ ap (λ (f : Format). lasts first h v (length h) (tree_of f q)) stood.0
            ∙ sym (lasts_before first h e (tree_of (format_after first (h ++ e ∷ [])) q) stands_now
            v below)
        go (inl below) (inr fresh) =
            not_reached (fresh.0 r i) below
            ∙ sym (not_lasted first h (tree_of (format_after first (h ++ e ∷ [])) q) v
            (ap (is_subtree (tree_of (format_after first (h ++ e ∷ [])) q)) (sym o_is)
            ∙ fresh.1))
            ∙ sym (lasts_before first h e (tree_of (format_after first (h ++ e ∷ [])) q) stands_now
            v below)

  pub ages_next : AllByRecursion
      (IsAged (format_after first h) (format_after first (h ++ e ∷ [])) new o) (placed_nodes w)
      → HasAges first new.lives (h ++ e ∷ []) w
  ages_next all = all_contained (HasAge first new.lives (h ++ e ∷ [])) (placed_nodes w)
      (λ q has r v i le. ages_of q has r v i
      (contains-all (IsAged (format_after first h) (format_after first (h ++ e ∷ [])) new o)
      (placed_nodes w) q all has) le)

-- ---- a sweep

-- what a live version reaches keeps its life
kept_life : (live : List ℕ) (o : Option Life) (v : ℕ) → list_any (λ w. w == v) live ≡ true
    → In v live → reached_at o v ≡ true → Rattle.std.specs.Prelude.option_map (swept_life live) o
    ≡ o
kept_life live None v has i is = refl
kept_life live (Some Free) v has i is = refl
kept_life live (Some (Born b)) v has i is = refl
kept_life live (Some (Dead b d)) v has i is = ap (λ (t : Bool). Some (cond t (Dead b d) Free))
    (some_reach (Dead b d) live v i is)

pub ages_swept : (first : Format) (s : State) (live : List ℕ) (h : History) (p : Placed)
    → In (length h) live → ReachesExactly s.lives (length h) (used p) → HasAges first s.lives h p
    → HasAges first (swept_by live s).lives h p
ages_swept first s live h p kept exact ages = all_contained (HasAge first (swept_by live s).lives h)
    (placed_nodes p) (λ q has r v i le.
    let same = slice_get-map (swept_life live) s.lives r ∙ kept_life live (slice_get s.lives r)
    (length h) (has_in (length h) live kept) kept ((exact r).1 (top_inside p q has r i)) in
    ap (λ (l : Option Life). reached_at l v) same ∙ contains-all (HasAge first s.lives h)
    (placed_nodes p) q ages has r v i le)
