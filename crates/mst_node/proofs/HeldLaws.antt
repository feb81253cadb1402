-- What kept versions hold: the last alone, the same versions in another list, and more versions.
use Rattle.mst_node.proofs.Names.{◌≡◌, ℕ, zero, suc, ◌+◌, ◌<◌, ◌≤◌, ◌==◌, nat_lt, Bool, true, false, not, cond, ◌&&◌, ◌||◌, inl, inr, List, [], ◌∷◌, length, take, filter, refl, sym, ap, subst, ◌∙◌, arith, true≢false, Contains, sum_by, nat_tests, take_all, Format, History, IsAscending, Tree, pairs, tree, subtrees, is_subtree, top_entries, held, and_parts, and_from, or_cases}
use Rattle.std.specs.Prelude.{◌↔◌}
use Rattle.mst_key.specs.History.{after, format_after}
use Rattle.mst_key.proofs.Ascending.{IsAscending-after}
use Rattle.mst_node.specs.Stays.{tree_at, lasts, is_kept, has_stayed, rows_first_at, held_below}
use Rattle.mst_node.proofs.UniqueTree.{pairs_tree, tree_mst}
use Rattle.mst_node.proofs.Distinct.{copies, once}
use Rattle.mst_node.proofs.VersionLists.{true_or, up_to, any_in, in_any, any_more, any_same, and_true_same, not_from, from_not}
use Rattle.mst_node.proofs.Weights.{weigh, weigh_is, all, weigh_all, weigh_none, weigh_weaker, weigh_split, weigh_common}

-- ---- the same versions

module _ (format : Format) (h : History) where
  module _ (one other : List ℕ) (same : (v : ℕ) → Contains one v ↔ Contains other v) where
    first_same : (w : ℕ) → rows_first_at format h one w ≡ rows_first_at format h other w
    first_same w =
        let stayed : (t : Tree) → has_stayed format h one w t ≡ has_stayed format h other w t =
        λ t. any_same (λ u. nat_lt u w && lasts format h u w t) one other same in
        λ i. sum_by (λ t. top_entries t + 1)
        (filter (λ t. not (stayed t i)) (subtrees (tree_at format h w)))

    pub held_same : (n : ℕ) → held_below format h one n ≡ held_below format h other n
    held_same zero = refl
    held_same (suc w) =
        let kept : is_kept one w ≡ is_kept other w = any_same (λ v. v == w) one other same in
        let first = first_same w in
        let before = held_same w in
        λ i. cond (kept i) (first i) 0 + before i

-- ---- the last version alone

module _ (format : Format) (h : History) where
  none_below : (n w : ℕ) → w ≤ n → held_below format h (n ∷ []) w ≡ 0
  none_below n zero below = refl
  none_below n (suc w) below =
      let other : (n == w) ≡ false = grind (arith, nat_tests, below) in
      let here : cond ((n == w) || false) (rows_first_at format h (n ∷ []) w) 0 ≡ 0 =
      ap (λ (b : Bool). cond (b || false) (rows_first_at format h (n ∷ []) w) 0) other in
      omega (arith, here, none_below n w (omega (arith, below)))

  first_alone : (n : ℕ) → rows_first_at format h (n ∷ []) n ≡ weigh all
      (subtrees (tree_at format h n))
  first_alone n =
      let not_before : nat_lt n n ≡ false = grind (arith, nat_tests) in
      (λ i. sum_by (λ t. top_entries t + 1)
      (filter (λ t. not ((not_before i && lasts format h n n t) || false))
      (subtrees (tree_at format h n)))) ∙ weigh_is all (subtrees (tree_at format h n))

  pub held_alone : held format h (length h ∷ []) ≡ length (after h) + length
      (subtrees (tree (format_after format h) (after h)))
  held_alone =
      let n = length h in
      let itself : (n == n) ≡ true = grind (arith, nat_tests) in
      let kept : (cond ((n == n) || false) (rows_first_at format h (n ∷ []) n) 0) ≡ rows_first_at
      format h (n ∷ []) n =
      ap (λ (b : Bool). cond (b || false) (rows_first_at format h (n ∷ []) n) 0) itself in
      let whole : tree_at format h n ≡ tree (format_after format h) (after h) =
      ap (λ (g : History). tree (format_after format g) (after g)) (take_all n h (omega arith))
      in
      let first = first_alone n ∙ weigh_all (tree_at format h n) in
      let below = none_below n n (omega arith) in
      let same : length (pairs (tree_at format h n)) + length (subtrees (tree_at format h n))
      ≡ length (after h) + length (subtrees (tree (format_after format h) (after h))) =
      ap (λ (t : Tree). length (pairs t) + length (subtrees t)) whole
      ∙ ap (λ (m : List _). length m + length
      (subtrees (tree (format_after format h) (after h))))
      (pairs_tree (format_after format h) (after h)) in
      let next_number : n + 1 ≡ suc n = omega arith in
      let next : held format h (n ∷ []) ≡ held_below format h (n ∷ []) (suc n) =
      ap (held_below format h (n ∷ [])) next_number in
      omega (arith, next, kept, first, below, same)

-- ---- more versions

module _ (format : Format) (h : History) where
  abbrev stands : ℕ → Tree → Bool
  stands w t = is_subtree t (tree_at format h w)

  abbrev stayed : List ℕ → ℕ → Tree → Bool
  stayed live w t = has_stayed format h live w t

  abbrev trees : ℕ → List Tree
  trees w = subtrees (tree_at format h w)

  pub lasts_here : (w : ℕ) (t : Tree) → lasts format h w w t ≡ stands w t
  lasts_here zero t = refl
  lasts_here (suc w) t =
      let next : nat_lt w (suc w) ≡ true = grind (arith, nat_tests) in
      ap (λ (b : Bool). stands (suc w) t && (b || lasts format h (suc w) w t)) next ∙ and_true_same
      (stands (suc w) t)

  pub lasts_on : (u w : ℕ) (t : Tree) → u ≤ w → lasts format h u (suc w) t
      ≡ (stands (suc w) t && lasts format h u w t)
  lasts_on u w t before =
      let other : nat_lt w u ≡ false = grind (arith, nat_tests, before) in
      ap (λ (b : Bool). stands (suc w) t && (b || lasts format h u w t)) other

  pub lasts_stands : (u w : ℕ) (t : Tree) → lasts format h u w t ≡ true → stands w t ≡ true
  lasts_stands u zero t is = is
  lasts_stands u (suc w) t is =
      (and_parts (stands (suc w) t) (nat_lt w u || lasts format h u w t) is).0

  -- what has stayed up to a version stood in the version before, which is kept, or it had stayed up
  -- to that one
  module _ (live : List ℕ) (w : ℕ) (t : Tree) where
    stayed_from : stayed live (suc w) t ≡ true → (stands w t ≡ true)
        × ((is_kept live w || stayed live w t) ≡ true) × (stands (suc w) t ≡ true)
    stayed_from is =
        let found = any_in (λ u. nat_lt u (suc w) && lasts format h u (suc w) t) live is in
        let u = found.0 in
        let both = and_parts (nat_lt u (suc w)) (lasts format h u (suc w) t) found.2 in
        let first : nat_lt u (suc w) ≡ true = both.0 in
        let before : u ≤ w = grind (arith, nat_tests, first) in
        let two = and_parts (stands (suc w) t) (lasts format h u w t)
        (sym (lasts_on u w t before) ∙ both.1) in (
          lasts_stands u w t two.1,
          true_or (is_kept live w) (stayed live w t) (elim (up_to u w before) [
            | inl same ↦ inl
                (in_any (λ v. v == w) live u found.1 (let e : (u == w) ≡ true =
                grind (arith, nat_tests, same) in e))
            | inr less ↦ inr
                (in_any (λ v. nat_lt v w && lasts format h v w t) live u found.1
                (and_from (nat_lt u w) (lasts format h u w t) (let e : nat_lt u w ≡ true =
                grind (arith, nat_tests, less) in e) two.1))
          ]),
          two.0,
        )

    stays_on : stands (suc w) t ≡ true → stands w t ≡ true → (is_kept live w || stayed live w t)
        ≡ true → stayed live (suc w) t ≡ true
    stays_on now was is = elim (or_cases (is_kept live w) (stayed live w t) is) [
      | inl kept ↦ let found = any_in (λ v. v == w) live kept in goes_on found.0 found.1
          (same_version found.0 found.2) (last_of found.0 found.2)
      | inr there ↦ let found = any_in (λ v. nat_lt v w && lasts format h v w t) live there in
          let both = and_parts (nat_lt found.0 w) (lasts format h found.0 w t) found.2 in
          goes_on found.0 found.1 (earlier found.0 both.0) both.1
    ]
      where
        same_version : (v : ℕ) → (v == w) ≡ true → v ≤ w
        same_version v e = grind (arith, nat_tests, e)

        earlier : (v : ℕ) → nat_lt v w ≡ true → v ≤ w
        earlier v e = grind (arith, nat_tests, e)

        last_of : (v : ℕ) → (v == w) ≡ true → lasts format h v w t ≡ true
        last_of v e = let same : v ≡ w = grind (arith, nat_tests, e) in
            ap (λ (u : ℕ). lasts format h u w t) same ∙ lasts_here w t ∙ was

        goes_on : (v : ℕ) → Contains live v → v ≤ w → lasts format h v w t ≡ true
            → stayed live (suc w) t ≡ true
        goes_on v has before long =
            let e : nat_lt v (suc w) ≡ true = grind (arith, nat_tests, before) in
            in_any (λ u. nat_lt u (suc w) && lasts format h u (suc w) t) live v has
            (and_from (nat_lt v (suc w)) (lasts format h v (suc w) t) e
            (lasts_on v w t before ∙ and_from (stands (suc w) t) (lasts format h v w t) now
            long))

  first_is : (live : List ℕ) (w : ℕ) → rows_first_at format h live w ≡ weigh
      (λ t. not (stayed live w t)) (trees w)
  first_is live w = weigh_is (λ t. not (stayed live w t)) (trees w)

  module _ (one more : List ℕ) (has : (v : ℕ) → Contains one v → Contains more v) where
    -- what has stayed by the longer list alone, up to a version and after it
    abbrev late : ℕ → Tree → Bool
    late w t = stayed more w t && not (stayed one w t)

    abbrev due : ℕ → Tree → Bool
    due w t = (is_kept more w || stayed more w t) && not (is_kept one w || stayed one w t)

    late_due : (w : ℕ) (t : Tree) → late (suc w) t ≡ true → (stands w t && due w t) ≡ true
    late_due w t is =
        let both = and_parts (stayed more (suc w) t) (not (stayed one (suc w) t)) is in
        let from = stayed_from more w t both.0 in
        and_from (stands w t) (due w t) from.0
        (and_from (is_kept more w || stayed more w t) (not (is_kept one w || stayed one w t)) from.1
        (not_from (is_kept one w || stayed one w t)
        (λ e. from_not (stayed one (suc w) t) both.1 (stays_on one w t from.2 from.0 e))))

    carried : (w : ℕ) → weigh (late (suc w)) (trees (suc w)) ≤ weigh (due w) (trees w)
    carried w =
        let few : (u : Tree) → copies u (trees (suc w)) ≤ 1 = λ u. let there =
        format_after format (take (suc w) h) in once there (tree_at format h (suc w)) u
        (tree_mst there (after (take (suc w) h)))
        (subst IsAscending (sym (pairs_tree there (after (take (suc w) h))))
        (IsAscending-after (take (suc w) h))) in
        omega (
          arith,
          weigh_weaker (late (suc w)) (λ t. stands w t && due w t) (late_due w)
              (trees (suc w)),
          weigh_common (due w) (trees (suc w)) (trees w) few,
        )

    none_late : weigh (late zero) (trees zero) ≡ 0
    none_late =
        let none : (t : Tree) → late zero t ≡ true → false ≡ true = λ t is. let found =
        any_in (λ u. nat_lt u zero && lasts format h u zero t) more
        (and_parts (stayed more zero t) (not (stayed one zero t)) is).0 in let low =
        (and_parts (nat_lt found.0 zero) (lasts format h found.0 zero t) found.2).0 in
        absurd (not_below found.0 low) in
        omega (
          arith,
          weigh_weaker (late zero) (λ t. false) none (trees zero),
          weigh_none
              (trees zero),
        )
      where
        not_below : (u : ℕ) → nat_lt u zero ≡ true → ⊥
        not_below u e = let l : u < zero = grind (arith, nat_tests, e) in omega (arith, l)

    step : (w : ℕ) → held_below format h one w + weigh (late w) (trees w) ≤ held_below format h more
        w → held_below format h one (suc w) + weigh (due w) (trees w) ≤ held_below format h more
        (suc w)
    step w below = go (is_kept one w) (is_kept more w) (any_more (λ v. v == w) one more has)
      where
        split : weigh (λ t. not (stayed one w t)) (trees w) ≤ weigh (λ t. not (stayed more w t))
            (trees w) + weigh (late w) (trees w)
        split = weigh_split (stayed one w) (stayed more w) (trees w)

        go : (a b : Bool) → (a ≡ true → b ≡ true) → cond a (rows_first_at format h one w) 0
            + held_below format h one w + weigh
            (λ t. (b || stayed more w t) && not (a || stayed one w t)) (trees w) ≤ cond b
            (rows_first_at format h more w) 0 + held_below format h more w
        go true true is =
            omega (arith, below, split, first_is one w, first_is more w, weigh_none (trees w))
        go true false is = absurd (true≢false (sym (is refl)))
        go false true is = omega (arith, below, split, first_is one w, first_is more w)
        go false false is = omega (arith, below)

    held_late : (n : ℕ) → held_below format h one n + weigh (late n) (trees n) ≤ held_below format h
        more n
    held_late zero = omega (arith, none_late)
    held_late (suc w) = omega (arith, step w (held_late w), carried w)

    pub held_more : (n : ℕ) → held_below format h one n ≤ held_below format h more n
    held_more n = omega (arith, held_late n)
