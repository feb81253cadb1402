-- Rows of small maps: a version holds at most two rows for each pair, and so few versions hold at
-- most that many times their number.
use Rattle.mst_load.proofs.Names.{◌≡◌, ℕ, zero, suc, ◌+◌, ◌*◌, ◌≤◌, ◌==◌, Bool, true, false, cond, List, [], ◌∷◌, length, take, refl, ap, arith, nat_tests, Format, History, after, format_after}
use Rattle.std.proofs.Common.{not, ◌||◌}
use Rattle.mst_node.specs.Cost.{subtrees}
use Rattle.mst_node.specs.Stays.{tree_at, is_kept, has_stayed, rows_first_at, held_below, held}
use Rattle.mst_node.proofs.Weights.{weigh_is}
use Rattle.mst_versions.proofs.FewRows.{weigh_map}

-- ---- versions of a list

-- how many numbers below n are those of live versions
abbrev kept_below : List ℕ → ℕ → ℕ
kept_below live zero = 0
kept_below live (suc w) = cond (is_kept live w) 1 0 + kept_below live w

-- how many numbers below n are this one
abbrev found_below : ℕ → ℕ → ℕ
found_below u zero = 0
found_below u (suc w) = cond (u == w) 1 0 + found_below u w

not_yet : (u n : ℕ) → n ≤ u → found_below u n ≡ 0
not_yet u zero low = refl
not_yet u (suc n) low =
    let other : (u == n) ≡ false = grind (arith, nat_tests, low) in
    let one : ℕ = 1 in let zero_is : ℕ = 0 in
    let here : cond (u == n) one zero_is ≡ zero_is =
    ap (λ (b : Bool). cond b one zero_is) other in
    let before = not_yet u n (omega (arith, low)) in
    omega (arith, here, before)

found_once : (u n : ℕ) → found_below u n ≤ 1
found_once u zero = omega arith
found_once u (suc n) = go (u == n) refl (found_once u n)
  where
    go : (b : Bool) → (u == n) ≡ b → found_below u n ≤ 1 → cond b 1 0 + found_below u n ≤ 1
    go true is before = let here : u ≡ n = grind (arith, nat_tests, is) in
        let none = not_yet u n (omega (arith, here)) in
        omega (arith, none)
    go false is before = omega (arith, before)

kept_one : (u : ℕ) (live : List ℕ) (n : ℕ)
    → kept_below (u ∷ live) n ≤ found_below u n + kept_below live n
kept_one u live zero = omega arith
kept_one u live (suc n) = go (u == n) (is_kept live n) (kept_one u live n)
  where
    go : (a b : Bool) → kept_below (u ∷ live) n ≤ found_below u n + kept_below live n
        → cond (a || b) 1 0 + kept_below (u ∷ live) n
        ≤ (cond a 1 0 + found_below u n) + (cond b 1 0 + kept_below live n)
    go true true before = omega (arith, before)
    go true false before = omega (arith, before)
    go false true before = omega (arith, before)
    go false false before = omega (arith, before)

kept_few : (live : List ℕ) (n : ℕ) → kept_below live n ≤ length live
kept_few [] n = none n
  where
    none : (n : ℕ) → kept_below [] n ≤ 0
    none zero = omega arith
    none (suc n) = let before = none n in omega (arith, before)
kept_few (u ∷ live) n =
    let one = kept_one u live n in let once = found_once u n in let more = kept_few live n in
    omega (arith, one, once, more)

-- ---- what the live versions hold

-- no version of a history has more than 288 pairs
abbrev pub AreSmall : History → Type 0
AreSmall h = (v : ℕ) → length (after (take v h)) ≤ 288

first_few : (format : Format) (h : History) (live : List ℕ) (w : ℕ) → AreSmall h
    → rows_first_at format h live w ≤ 576
first_few format h live w small =
    let is = weigh_is (λ t. not (has_stayed format h live w t)) (subtrees (tree_at format h w)) in
    let few = weigh_map (λ t. not (has_stayed format h live w t))
    (format_after format (take w h)) (after (take w h)) in
    let pairs = small w in
    omega (arith, is, few, pairs)

below_few : (format : Format) (h : History) (live : List ℕ) (n : ℕ) → AreSmall h
    → held_below format h live n ≤ 576 * kept_below live n
below_few format h live zero small = omega arith
below_few format h live (suc w) small = go (is_kept live w)
    (first_few format h live w small) (below_few format h live w small)
  where
    go : (b : Bool) → rows_first_at format h live w ≤ 576
        → held_below format h live w ≤ 576 * kept_below live w
        → cond b (rows_first_at format h live w) 0 + held_below format h live w
        ≤ 576 * (cond b 1 0 + kept_below live w)
    go true first before = omega (arith, first, before)
    go false first before = omega (arith, before)

pub held_few : (format : Format) (h : History) (live : List ℕ) → AreSmall h
    → held format h live ≤ 576 * length live
held_few format h live small =
    let few = below_few format h live (length h + 1) small in
    let kept = kept_few live (length h + 1) in
    omega (arith, few, kept)
