-- How many rows are free, if a list has each of the other rows once, and at most, beside rows that
-- are alive.
use Rattle.mst_path.proofs.Names.{◌≡◌, ℕ, zero, suc, ◌+◌, ◌<◌, ◌≤◌, Bool, true, false, cond, eqb, List, [], ◌∷◌, length, map, filter, Option, Some, None, refl, sym, ◌∙◌, ap, arith, ◌↔◌, slice_get, option_map, list_any, nat_tests, slice_get-map, State, version, reached_at, reaches, reaches_life, free_count, swept_life, In, times, bit, Format, Pair, Content, IsDistinct, Stands, tree_of, used, numbers, Root, Life, Free, Born, Dead, ReachesExactly, TogetherReach, Changes, IsPast, IsSettled, swept_by, one_row, AreOld, IsAlive}
use Rattle.mst_arena.specs.Lists.{is_at, Lists}
use Rattle.mst_arena.proofs.ListLemmas.{suc_test, there}
use Rattle.mst_arena.proofs.DeskLemmas.{length_mapped}
use Rattle.mst_path.proofs.lemmas.rows.Taking.{frees, frees_is}
use Rattle.mst_path.proofs.lemmas.versions.Changes.{distinct_times}
use Rattle.mst_path.proofs.lemmas.versions.Reached.{some_reach, by_place}
use Rattle.mst_path.proofs.lemmas.rows.RowCounts.{as_many}
use Rattle.mst_path.proofs.lemmas.cost.Sizes.{size, size_used}
use Rattle.mst_path.proofs.lemmas.rows.CopyRows.{old_alive}

-- ---- sums over the numbers below one

abbrev sum_to : (ℕ → ℕ) → ℕ → ℕ
sum_to f zero = 0
sum_to f (suc n) = f 0 + sum_to (λ i. f (suc i)) n

same_sum : (f g : ℕ → ℕ) → ((i : ℕ) → f i ≡ g i) → (n : ℕ) → sum_to f n ≡ sum_to g n
same_sum f g same zero = refl
same_sum f g same (suc n) =
    omega (arith, same 0, same_sum (λ i. f (suc i)) (λ i. g (suc i)) (λ i. same (suc i)) n)

sum_none : (n : ℕ) → sum_to (λ i. 0) n ≡ 0
sum_none zero = refl
sum_none (suc n) = omega (arith, sum_none n)

sum_both : (f g : ℕ → ℕ) (n : ℕ) → sum_to (λ i. f i + g i) n ≡ sum_to f n + sum_to g n
sum_both f g zero = omega arith
sum_both f g (suc n) = omega (arith, sum_both (λ i. f (suc i)) (λ i. g (suc i)) n)

same_test : (x : ℕ) → eqb x x ≡ true
same_test x = grind (arith, nat_tests)

not_zero : (x : ℕ) → eqb (suc x) 0 ≡ false
not_zero x = grind (arith, nat_tests)

zero_not : (x : ℕ) → eqb 0 (suc x) ≡ false
zero_not x = grind (arith, nat_tests)

sum_one : (x n : ℕ) → x < n → sum_to (λ i. bit (eqb i x)) n ≡ 1
sum_one x zero lt = absurd (omega (arith, lt))
sum_one zero (suc n) lt =
    omega (
      arith,
      ap bit (same_test 0),
      same_sum (λ i. bit (eqb (suc i) 0)) (λ i. 0)
          (λ i. ap bit (not_zero i)) n,
      sum_none n,
    )
sum_one (suc x) (suc n) lt =
    omega (
      arith,
      ap bit (zero_not x),
      same_sum (λ i. bit (eqb (suc i) (suc x)))
          (λ i. bit (eqb i x)) (λ i. ap bit (suc_test i x)) n,
      sum_one x n (omega (arith, lt)),
    )

sum_times : (rows : List ℕ) (n : ℕ) → ((r : ℕ) → In r rows → r < n) → sum_to (λ i. times i rows) n
    ≡ length rows
sum_times [] n below = sum_none n
sum_times (x ∷ xs) n below =
    omega (
      arith,
      sum_both (λ i. bit (eqb i x)) (λ i. times i xs) n,
      sum_one x n
          (below x (omega (arith, ap bit (same_test x)))),
      sum_times xs n
          (λ r i. below r (omega (arith, i))),
    )

-- ---- rows that are in use

abbrev is_used : Life → Bool
is_used Free = false
is_used (Born b) = true
is_used (Dead b d) = true

sum_used : (lives : List Life) → frees lives + sum_to (λ r. bit (is_at is_used (slice_get lives r)))
    (length lives) ≡ length lives
unfolding frees
sum_used [] = omega arith
sum_used (Free ∷ ls) = omega (arith, sum_used ls)
sum_used (Born b ∷ ls) = omega (arith, sum_used ls)
sum_used (Dead b d ∷ ls) = omega (arith, sum_used ls)

count_used : (lives : List Life) (rows : List ℕ) → Lists is_used lives rows → free_count lives
    + length rows ≡ length lives
count_used lives rows lists = omega (
  arith,
  frees_is lives,
  sum_used lives,
  same_sum (λ r. times r rows) (λ r. bit (is_at is_used (slice_get lives r))) lists (length lives),
  sum_times rows (length lives) (λ r i. there is_used lives r (omega (arith, i, lists r))),
)

sum_least : (f g : ℕ → ℕ) → ((i : ℕ) → f i ≤ g i) → (n : ℕ) → sum_to f n ≤ sum_to g n
sum_least f g least zero = omega arith
sum_least f g least (suc n) =
    omega (arith, least 0, sum_least (λ i. f (suc i)) (λ i. g (suc i)) (λ i. least (suc i)) n)

-- rows that are alive, none of them twice, are no more than those that are not free
few_used : (s : State) (rows : List ℕ) → ((r : ℕ) → times r rows ≤ 1)
    → ((r : ℕ) → In r rows → IsAlive s r) → free_count s.lives + length rows ≤ length s.lives
few_used s rows once alive = omega (
  arith,
  frees_is s.lives,
  sum_used s.lives,
  sum_least (λ r. times r rows) (λ r. bit (is_at is_used (slice_get s.lives r))) each
      (length s.lives),
  sum_times rows (length s.lives) (λ r i. there is_used s.lives r (omega (arith, i, each r))),
)
  where
    each : (r : ℕ) → times r rows ≤ bit (is_at is_used (slice_get s.lives r))
    each r = go (times r rows) refl
      where
        go : (n : ℕ) → times r rows ≡ n → times r rows ≤ bit (is_at is_used (slice_get s.lives r))
        go zero e = omega (arith, e)
        go (suc n) e =
            let a = alive r (omega (arith, e)) in
            let one : bit (is_at is_used (slice_get s.lives r)) ≡ 1 =
            ap (λ o. bit (is_at is_used o)) a.1 in
            omega (arith, once r, one)

-- a tree that stands has no more rows than are not free
pub rows_beside_free : (format : Format) (c : Content) (s : State) (root : Root) (m : List Pair)
    (stands : Stands format c root m) → AreOld s (numbers stands)
    → free_count s.lives + size (tree_of format stands.tree.placed) ≤ length s.lives
rows_beside_free format c s root m stands old =
    let all =
    few_used s (used stands.tree.placed)
    (distinct_times (used stands.tree.placed) stands.tree.once) (λ r i. old_alive s r (old r i))
    in
    omega (arith, all, size_used format stands.tree.placed)

-- ---- after a sweep

pub any_in : (P : ℕ → Bool) (live : List ℕ) → list_any P live ≡ true → (v : ℕ) × In v live
    × (P v ≡ true)
any_in P [] is = cc
any_in P (w ∷ ws) is = go (P w) refl (any_in P ws)
  where
    go : (t : Bool) → P w ≡ t → (list_any P ws ≡ true → (v : ℕ) × In v ws × (P v ≡ true)) → (v : ℕ)
        × In v (w ∷ ws) × (P v ≡ true)
    go true e more = (w, omega (arith, ap bit (same_test w)), e)
    go false e more = let rest : list_any P ws ≡ true = grind (arith, nat_tests) in let m =
        more rest in (m.0, omega (arith, m.1), m.2)

none_of : (n : ℕ) → (0 < n → ⊥) → n ≡ 0
none_of zero not = refl
none_of (suc n) not = absurd (not (omega arith))

-- a row has one place in the list if its life after the sweep is in use, and otherwise none
used_swept : (live : List ℕ) (now : ℕ) (o : Option Life) (n : ℕ) → In now live → IsPast now o
    → n ≤ 1 → ((v : ℕ) × In v live × (reached_at o v ≡ true)) ↔ 0 < n
    → n ≡ bit (is_at is_used (option_map (swept_life live) o))
used_swept live now None n i past once both = none_of n (λ lt. let is = (both.1 lt).2 in cc)
used_swept live now (Some Free) n i past once both = none_of n (λ lt. let is = (both.1 lt).2 in cc)
used_swept live now (Some (Born b)) n i past once both =
    let is : reaches_life (Born b) now ≡ true = grind (arith, nat_tests) in
    omega (arith, once, both.0 (now, i, is))
used_swept live now (Some (Dead b d)) n i past once both =
    go (list_any (reaches_life (Dead b d)) live) refl
  where
    go : (t : Bool) → list_any (reaches_life (Dead b d)) live ≡ t
        → n ≡ bit (is_used (cond t (Dead b d) Free))
    go true e = omega (arith, once, both.0 (any_in (reaches_life (Dead b d)) live e))
    go false e =
        none_of n (λ lt. let some = both.1 lt in let is =
        some_reach (Dead b d) live some.0 some.1 some.2 in cc)

pub count_swept : (s : State) (live rows : List ℕ) → IsSettled s → In (version s) live
    → IsDistinct rows → TogetherReach s.lives live rows → free_count (swept_by live s).lives
    + length rows ≡ length s.lives
count_swept s live rows settled i once together =
    let lists : Lists is_used (map (swept_life live) s.lives) rows = λ r.
    used_swept live (version s) (slice_get s.lives r) (times r rows) i (settled r)
    (distinct_times rows once r) (together r)
    ∙ ap (λ o. bit (is_at is_used o)) (sym (slice_get-map (swept_life live) s.lives r)) in
    omega (
      arith,
      count_used (map (swept_life live) s.lives) rows lists,
      length_mapped
          (swept_life live) s.lives,
    )

-- one version alone
pub alone : (lives : List Life) (v : ℕ) (rows : List ℕ) → ReachesExactly lives v rows
    → TogetherReach lives (v ∷ []) rows
alone lives v rows exact r = (
  λ some. let same : v ≡ some.0 = sym (one_row some.0 v some.1) in
      (exact r).0 (ap (λ (w : ℕ). reaches lives w r) same ∙ some.2),
  λ i. (v, omega (arith, ap bit (same_test v)), (exact r).1 i),
)

-- ---- a put or a remove

times-filter : (p : ℕ → Bool) (r : ℕ) (xs : List ℕ) → times r (filter p xs) ≡ cond (p r)
    (times r xs) 0
times-filter p r [] = go (p r)
  where
    go : (b : Bool) → times r [] ≡ cond b (times r []) 0
    go true = refl
    go false = refl
times-filter p r (x ∷ xs) = go (p x) (p r) refl refl (times-filter p r xs)
  where
    other : (p r ≡ p x → ⊥) → bit (eqb r x) ≡ 0
    other not = case (eqb r x) refl
      where
        case : (b : Bool) → eqb r x ≡ b → bit b ≡ 0
        case true e = let same : r ≡ x = grind (arith, nat_tests, e) in absurd (not (ap p same))
        case false e = refl

    go : (b c : Bool) → p x ≡ b → p r ≡ c → times r (filter p xs) ≡ cond c (times r xs) 0
        → times r (cond b (x ∷ filter p xs) (filter p xs)) ≡ cond c (bit (eqb r x) + times r xs) 0
    go true true d e rest = omega (arith, rest)
    go true false d e rest =
        omega (arith, rest, other (λ same. let both : false ≡ true = sym e ∙ same ∙ d in cc))
    go false true d e rest =
        omega (arith, rest, other (λ same. let both : true ≡ false = sym e ∙ same ∙ d in cc))
    go false false d e rest = rest

-- the rows after a change that did not stand before it are those that it took
pub count_change : (old new : State) (before after : List ℕ) → Changes old new before after
    → ((r : ℕ) → times r after ≤ 1) → free_count new.lives + length
    (filter (λ r. eqb (times r before) 0) after) ≡ free_count old.lives
count_change old new before after change once =
    let n = length new.lives in
    let rows = filter (λ r. eqb (times r before) 0) after in
    let sums = same_sum (λ r. bit (is_at is_used (slice_get new.lives r)))
    (λ r. bit (is_at is_used (slice_get old.lives r)) + times r rows) each n in
    let both = sum_both (λ r. bit (is_at is_used (slice_get old.lives r))) (λ r. times r rows) n in
    let taken = sum_times rows n (λ r i. there is_used new.lives r (omega (arith, i, each r))) in
    let as_before : sum_to (λ r. bit (is_at is_used (slice_get old.lives r))) n ≡ sum_to
    (λ r. bit (is_at is_used (slice_get old.lives r))) (length old.lives) =
    ap (sum_to (λ r. bit (is_at is_used (slice_get old.lives r))))
    (as_many old new before after change) in
    omega (
      arith,
      frees_is new.lives,
      frees_is old.lives,
      sum_used new.lives,
      sum_used old.lives,
      sums,
      both,
      taken,
      as_before,
      as_many old new before after change,
    )
  where
    used_as : (o p : Option Life) → o ≡ p → bit (is_at is_used o) ≡ bit (is_at is_used p)
    used_as o p e = ap (λ (q : Option Life). bit (is_at is_used q)) e

    some_new : (r : ℕ) → times r before ≡ 0 → cond (eqb (times r before) 0) (times r after) 0
        ≡ times r after
    some_new r none = let e : eqb (times r before) 0 ≡ true = grind (arith, nat_tests, none) in
        ap (λ (b : Bool). cond b (times r after) 0) e

    no_new : (r : ℕ) → (times r before ≡ 0 → times r after ≡ 0) → cond (eqb (times r before) 0)
        (times r after) 0 ≡ 0
    no_new r none = case (eqb (times r before) 0) refl
      where
        case : (b : Bool) → eqb (times r before) 0 ≡ b → cond b (times r after) 0 ≡ 0
        case true e = none (grind (arith, nat_tests, e))
        case false e = refl

    each : (r : ℕ) → bit (is_at is_used (slice_get new.lives r)) ≡ bit
        (is_at is_used (slice_get old.lives r)) + times r
        (filter (λ r. eqb (times r before) 0) after)
    each r =
        let kept = times-filter (λ r. eqb (times r before) 0) r after in
        by_place old new before after change r _
        (λ only. let t = (change.taken r).1 only in
        omega (
          arith,
          kept,
          some_new r only.1,
          only.0,
          once r,
          used_as _ _ t.0,
          used_as _ _ t.1,
        ))
        (λ only. let k = (change.killed r).1 only in
        omega (arith, kept, no_new r (λ e. only.1), used_as _ _ k.1, used_as _ _ k.3))
        (λ stays. omega (
          arith,
          kept,
          no_new r
              (λ e. none_of (times r after) (λ i. let back = stays.1 i in omega (arith, back, e))),
          used_as _ _ (change.others r stays),
        ))
