-- Rows that are taken and killed, one step after another.
use Rattle.mst_path.proofs.Names.{◌≡◌, ℕ, zero, suc, ◌+◌, ◌≤◌, Bool, true, false, cond, eqb, List, [], ◌∷◌, ◌++◌, Some, refl, sym, ◌∙◌, ap, subst, arith, inl, inr, length-append, slice_get, slice_set, nat_tests, State, version, next, is_free, free_count, with_life, ended_life, In, times, bit, Life, Free, Born, Dead, times-append, in_either, one_row, Takes, IsOut, IsAlive, IsOld, IsKilled, Moves, length-set}
use Rattle.mst_arena.proofs.ListLemmas.{get-set}
use Rattle.mst_path.proofs.lemmas.rows.Taking.{frees, frees_is, frees_drop, still_free}

-- ---- numbers in lists

-- out of a list, by recursion and by counting
pub out_of_times : (r : ℕ) (xs : List ℕ) → times r xs ≡ 0 → IsOut r xs
out_of_times r [] e = tt
out_of_times r (x ∷ xs) e = (
  λ same. let one : eqb r x ≡ true = grind (arith, nat_tests) in
      absurd (omega (arith, ap bit one)),
  out_of_times r xs (omega arith),
)

pub times_of_out : (r : ℕ) (xs : List ℕ) → IsOut r xs → times r xs ≡ 0
times_of_out r [] out = refl
times_of_out r (x ∷ xs) out = let none : eqb r x ≡ false = grind (arith, nat_tests) in
    omega (arith, ap bit none, times_of_out r xs out.1)

-- ---- one step

module _ (s : State) where
  pub moves_none : Moves s s [] []
  moves_none = record {
    current = refl;
    versions = refl;
    rows = refl;
    once = λ r. omega arith;
    free = λ r is. absurd (omega arith);
    born = λ r is. absurd (omega arith);
    killed_once = λ r. omega arith;
    dies = λ r is. absurd (omega arith);
    others = λ r a b. refl;
    room = omega arith;
  }

one_time : (k r : ℕ) → times k (r ∷ []) ≤ 1
one_time k r = go (eqb k r)
  where
    go : (t : Bool) → bit t + 0 ≤ 1
    go true = omega arith
    go false = omega arith

same_time : (r : ℕ) → eqb r r ≡ true
same_time r = grind (arith, nat_tests)

set_here : (lives : List Life) (r : ℕ) (x y : Life) → slice_get lives r ≡ Some x
    → slice_get (slice_set lives r y) r ≡ Some y
set_here lives r x y at = let e = get-set lives r r x y at in let one = same_time r in rw one at e

set_there : (lives : List Life) (r k : ℕ) (x y : Life) → slice_get lives r ≡ Some x
    → times k (r ∷ []) ≡ 0 → slice_get (slice_set lives r y) k ≡ slice_get lives k
set_there lives r k x y at none = go (eqb k r) refl none (get-set lives r k x y at)
  where
    go : (t : Bool) → eqb k r ≡ t → bit t + 0 ≡ 0 → slice_get (slice_set lives r y) k ≡ cond t
        (Some y) (slice_get lives k) → slice_get (slice_set lives r y) k ≡ slice_get lives k
    go true e none is = absurd (omega arith)
    go false e none is = is

frees_same : (lives : List Life) (r : ℕ) (x y : Life) → slice_get lives r ≡ Some x
    → is_free y ≡ is_free x → frees (slice_set lives r y) ≡ frees lives
unfolding frees
frees_same [] r x y at same = cc
frees_same (l ∷ lives) zero x y at same = let e : l ≡ x =
    cc in ap (λ (b : Bool). cond b (1 + frees lives) (frees lives)) (same ∙ ap is_free (sym e))
frees_same (l ∷ lives) (suc r) x y at same = ap (λ (n : ℕ). cond (is_free l) (1 + n) n)
    (frees_same lives r x y at same)

same_frees : (lives : List Life) (r : ℕ) (x y : Life) → slice_get lives r ≡ Some x
    → is_free y ≡ is_free x → free_count (slice_set lives r y) ≡ free_count lives
same_frees lives r x y at same = sym (frees_is (slice_set lives r y)) ∙ frees_same lives r x y at
    same ∙ frees_is lives

less_free : (lives : List Life) (r v : ℕ) → slice_get lives r ≡ Some Free
    → free_count (slice_set lives r (Born v)) + 1 ≡ free_count lives
less_free lives r v at =
    omega (arith, frees_drop v lives r at, frees_is lives, frees_is (slice_set lives r (Born v)))

pub moves_take : (s : State) (r : ℕ) → slice_get s.lives r ≡ Some Free
    → Moves s (with_life s r (Born (next s))) (r ∷ []) []
moves_take s r at = record {
  current = refl;
  versions = refl;
  rows = length-set s.lives r (Born (next s));
  once = λ k. one_time k r;
  free = λ k is. subst (λ (j : ℕ). slice_get s.lives j ≡ Some Free) (sym (one_row k r is)) at;
  born =
      λ k is. subst (λ (j : ℕ). slice_get (slice_set s.lives r (Born (next s))) j ≡ Some
      (Born (next s))) (sym (one_row k r is)) (set_here s.lives r Free (Born (next s)) at);
  killed_once = λ k. omega arith;
  dies = λ k is. absurd (omega arith);
  others = λ k out none. set_there s.lives r k Free (Born (next s)) at out;
  room = omega (arith, less_free s.lives r (next s) at);
}

pub moves_kill : (s : State) (r b : ℕ) → slice_get s.lives r ≡ Some (Born b) → b ≤ version s
    → Moves s (with_life s r (ended_life (next s) (slice_get s.lives r))) [] (r ∷ [])
moves_kill s r b at le =
    let dead : ended_life (next s) (slice_get s.lives r) ≡ Dead b (next s) =
    ap (ended_life (next s)) at in
    subst (λ (l : Life). Moves s (with_life s r l) [] (r ∷ [])) (sym dead) record {
      current = refl;
      versions = refl;
      rows = length-set s.lives r (Dead b (next s));
      once = λ k. omega arith;
      free = λ k is. absurd (omega arith);
      born = λ k is. absurd (omega arith);
      killed_once = λ k. one_time k r;
      dies = λ k is. subst (IsKilled s (with_life s r (Dead b (next s)))) (sym (one_row k r is))
          (b, at, le, set_here s.lives r (Born b) (Dead b (next s)) at);
      others = λ k none out. set_there s.lives r k (Born b) (Dead b (next s)) at out;
      room = omega (arith, same_frees s.lives r (Born b) (Dead b (next s)) at refl);
    }

-- ---- one after another

pub not_in : (r : ℕ) (xs : List ℕ) → (In r xs → ⊥) → times r xs ≡ 0
not_in r xs out = go (times r xs) refl
  where
    go : (n : ℕ) → times r xs ≡ n → n ≡ 0
    go zero e = refl
    go (suc n) e = absurd (out (omega (arith, e)))

pub once_each : (r : ℕ) (xs ys : List ℕ) → times r xs ≤ 1 → times r ys ≤ 1 → (In r xs → In r ys → ⊥)
    → times r (xs ++ ys) ≤ 1
once_each r xs ys a b apart = go (times r xs) refl
  where
    go : (n : ℕ) → times r xs ≡ n → times r (xs ++ ys) ≤ 1
    go zero e = omega (arith, times-append r xs ys, b, e)
    go (suc n) e = omega (arith, times-append r xs ys, a, e, not_in r ys (apart (omega (arith, e))))

module _ (a b c : State) (t k u l : List ℕ) (one : Moves a b t k) (two : Moves b c u l) where
  same_version : version b ≡ version a
  same_version = rw (one.current, one.versions)

  same_next : next b ≡ next a
  same_next = ap (λ (v : ℕ). v + 1) same_version

  -- a row that was taken first is neither taken nor killed again
  taken_once : (r : ℕ) → In r t → In r u → ⊥
  taken_once r x y = let e = one.born r x in let f = two.free r y in cc

  taken_lives : (r : ℕ) → In r t → In r l → ⊥
  taken_lives r x y =
      let e = one.born r x in
      let f = two.dies r y in
      let same : f.0 ≡ next a = cc in
      absurd (omega (arith, same, f.2, same_version))

  -- a row that was killed first is neither taken nor killed again
  killed_first : (r : ℕ) → In r k → In r u → ⊥
  killed_first r x y = let e = (one.dies r x).3 in let f = two.free r y in cc

  killed_once : (r : ℕ) → In r k → In r l → ⊥
  killed_once r x y = let e = (one.dies r x).3 in let f = (two.dies r y).1 in cc

  -- a row that was free, or killed, later was so before
  before : (r : ℕ) → times r t ≡ 0 → times r k ≡ 0 → slice_get a.lives r ≡ slice_get b.lives r
  before r x y = sym (one.others r x y)

  pub moves_then : Moves a c (t ++ u) (k ++ l)
  moves_then = record {
    current = two.current ∙ one.current;
    versions = two.versions ∙ one.versions;
    rows = two.rows ∙ one.rows;
    once = λ r. once_each r t u (one.once r) (two.once r) (taken_once r);
    free = λ r is. elim (in_either r t u is) [
      | inl x ↦ one.free r x
      | inr y ↦ before r (not_in r t (λ x. taken_once r x y)) (not_in r k (λ x. killed_first r x y))
          ∙ two.free r y
    ];
    born = λ r is. elim (in_either r t u is) [
      | inl x ↦ two.others r (not_in r u (taken_once r x)) (not_in r l (taken_lives r x))
          ∙ one.born r x
      | inr y ↦ two.born r y ∙ ap (λ (v : ℕ). Some (Born v)) same_next
    ];
    killed_once = λ r. once_each r k l (one.killed_once r) (two.killed_once r) (killed_once r);
    dies = λ r is. elim (in_either r k l is) [
      | inl x ↦ let d =
          one.dies r x in (
            d.0,
            d.1,
            d.2,
            two.others r (not_in r u (killed_first r x))
                (not_in r l (killed_once r x)) ∙ d.3,
          )
      | inr y ↦ let d =
          two.dies r y in (
            d.0,
            before r (not_in r t (λ x. taken_lives r x y)) (not_in r k (λ x. killed_once r x y))
                ∙ d.1,
            omega (arith, d.2, same_version),
            d.3 ∙ ap (λ (v : ℕ). Some (Dead d.0 v))
                same_next,
          )
    ];
    others = λ r x y. two.others r (omega (arith, x, times-append r t u))
        (omega (arith, y, times-append r k l)) ∙ one.others r (omega (arith, x, times-append r t u))
        (omega (arith, y, times-append r k l));
    room = omega (arith, one.room, two.room, length-append t u);
  }

-- ---- rows that were taken alone

pub moves_takes : (a b : State) (rows : List ℕ) → Takes a b rows → Moves a b rows []
moves_takes a b [] takes = subst (λ (s : State). Moves a s [] []) (sym takes.born) (moves_none a)
moves_takes a b (r ∷ rows) takes =
    let mid = with_life a r (Born (next a)) in
    let rest : Takes mid b rows =
    record {
      free = still_free (next a) a.lives r rows takes.once.0 takes.free.1;
      once =
          takes.once.1;
      born = takes.born;
    } in
    moves_then a mid b (r ∷ []) [] rows [] (moves_take a r takes.free.0)
    (moves_takes mid b rows rest)

-- ---- what a step leaves alone

module _ (a b : State) (t k : List ℕ) (m : Moves a b t k) where
  -- a row that is alive and is not killed
  pub alive_stays : (r : ℕ) → IsAlive a r → times r k ≡ 0 → IsAlive b r
  alive_stays r is out =
      (is.0, m.others r (not_in r t (λ x. let e = m.free r x in let f = is.1 in cc)) out ∙ is.1)

  pub old_stays : (r : ℕ) → IsOld a r → times r k ≡ 0 → IsOld b r
  old_stays r is out =
      let v : version b ≡ version a = rw (m.current, m.versions) in (
        is.0,
        m.others r (not_in r t (λ x. let e = m.free r x in let f = is.1 in cc)) out ∙ is.1,
        omega (arith, is.2, v),
      )

  -- a row that is alive was not taken
  pub alive_out : (r : ℕ) → IsAlive a r → times r t ≡ 0
  alive_out r is = not_in r t (λ x. let e = m.free r x in let f = is.1 in cc)
