-- What was done for the version to come, taken back row by row.
use Rattle.mst_arena.proofs.Names.{◌≡◌, ◌≢◌, ℕ, zero, suc, ◌+◌, ◌<◌, ◌≤◌, Bool, true, false, cond, eqb, List, [], ◌∷◌, ◌++◌, length, map, Option, Some, refl, sym, ◌∙◌, ap, subst, arith, slice_get, slice_set, option_map, nat_lt, nat_le, ◌&&◌, nat_tests, map-set, slice_get-map, length-set, Life, Free, Born, Dead, State, version, next, reaches, reaches_life, is_free, undone_life, is_at, is_dead, times, Lists, IsDesk}
use Rattle.std.specs.Prelude.{if◌then◌else◌}
use Rattle.mst_arena.specs.Lives.{IsPast}
use Rattle.mst_arena.specs.Lists.{bit}
use Rattle.mst_arena.proofs.ListLemmas.{get-set, times-append, count_one, there}

-- ---- one life

born_twice : (n b : ℕ) (t : Bool) → nat_lt b n ≡ t → undone_life n (cond t (Born b) Free) ≡ cond t
    (Born b) Free
born_twice n b true e = ap (λ (t : Bool). cond t (Born b) Free) e
born_twice n b false e = refl

dead_twice : (n b d : ℕ) (t : Bool) → nat_lt d n ≡ t → undone_life n
    (cond t (Dead b d) (cond (nat_lt b n) (Born b) Free)) ≡ cond t (Dead b d)
    (cond (nat_lt b n) (Born b) Free)
dead_twice n b d true e = ap (λ (t : Bool). cond t (Dead b d) (cond (nat_lt b n) (Born b) Free)) e
dead_twice n b d false e = born_twice n b (nat_lt b n) refl

pub undone_twice : (n : ℕ) (x : Life) → undone_life n (undone_life n x) ≡ undone_life n x
undone_twice n Free = refl
undone_twice n (Born b) = born_twice n b (nat_lt b n) refl
undone_twice n (Dead b d) = dead_twice n b d (nat_lt d n) refl

-- a free row stays free
pub stays_free : (n : ℕ) (x : Life) → is_free x ≡ true → is_free (undone_life n x) ≡ true
stays_free n Free free = refl
stays_free n (Born b) free = cc
stays_free n (Dead b d) free = cc

-- ---- which versions reach it

born_before : (n b v : ℕ) → v < n → (t : Bool) → nat_lt b n ≡ t → reaches_life
    (cond t (Born b) Free) v ≡ nat_le b v
born_before n b v lt true e = refl
born_before n b v lt false e = grind (arith, nat_tests)

dead_before : (n b d v : ℕ) → v < n → (t : Bool) → nat_lt d n ≡ t → reaches_life
    (cond t (Dead b d) (cond (nat_lt b n) (Born b) Free)) v ≡ (nat_le b v && nat_lt v d)
dead_before n b d v lt true e = refl
dead_before n b d v lt false e =
    born_before n b v lt (nat_lt b n) refl ∙ go (nat_le b v) (nat_lt v d) refl
  where
    go : (s t : Bool) → nat_lt v d ≡ t → s ≡ (s && t)
    go true true f = refl
    go true false f = grind (arith, nat_tests)
    go false t f = refl

pub undone_reach : (n : ℕ) (x : Life) (v : ℕ) → v < n → reaches_life (undone_life n x) v
    ≡ reaches_life x v
undone_reach n Free v lt = refl
undone_reach n (Born b) v lt = born_before n b v lt (nat_lt b n) refl
undone_reach n (Dead b d) v lt = dead_before n b d v lt (nat_lt d n) refl

-- earlier versions reach the same rows
pub same_undone : (n : ℕ) (lives : List Life) (v k : ℕ) → v < n
    → reaches (map (undone_life n) lives) v k ≡ reaches lives v k
same_undone n [] v k lt = refl
same_undone n (l ∷ ls) v zero lt = undone_reach n l v lt
same_undone n (l ∷ ls) v (suc k) lt = same_undone n ls v k lt

-- ---- nothing is left of the version to come

born_past : (v b : ℕ) (t : Bool) → nat_lt b (v + 1) ≡ t → IsPast v (Some (cond t (Born b) Free))
born_past v b true e = grind (arith, nat_tests)
born_past v b false e = tt

dead_past : (v b d : ℕ) (t : Bool) → nat_lt d (v + 1) ≡ t → IsPast v
    (Some (cond t (Dead b d) (cond (nat_lt b (v + 1)) (Born b) Free)))
dead_past v b d true e = grind (arith, nat_tests)
dead_past v b d false e = born_past v b (nat_lt b (v + 1)) refl

past_life : (v : ℕ) (x : Life) → IsPast v (Some (undone_life (v + 1) x))
past_life v Free = tt
past_life v (Born b) = born_past v b (nat_lt b (v + 1)) refl
past_life v (Dead b d) = dead_past v b d (nat_lt d (v + 1)) refl

pub undone_past : (v : ℕ) (lives : List Life) (r : ℕ)
    → IsPast v (slice_get (map (undone_life (v + 1)) lives) r)
undone_past v [] r = tt
undone_past v (l ∷ ls) zero = past_life v l
undone_past v (l ∷ ls) (suc r) = undone_past v ls r

-- ---- row by row

-- of the rows the first are done
pub record Undoing (n k : ℕ) (start lives : List Life) (free : List Bool) (dead : List ℕ) : Type 0
  where
    pub same : map (undone_life n) lives ≡ map (undone_life n) start
    pub fixed : (r : ℕ) (x : Life) → r < k → slice_get lives r ≡ Some x → undone_life n x ≡ x
    pub free_is : free ≡ map is_free lives
    pub below : (r : ℕ) → r < k → times r dead ≡ bit (is_at is_dead (slice_get lives r))
    pub above : (r : ℕ) → k ≤ r → times r dead ≡ 0

pub undoing : (n : ℕ) (lives : List Life) (free : List Bool) (dead : List ℕ)
    → free ≡ map is_free lives → dead ≡ [] → Undoing n 0 lives lives free dead
undoing n lives free dead is none = record {
  same = refl;
  fixed = λ r x lt at. absurd (omega (arith, lt));
  free_is = is;
  below = λ r lt. absurd (omega (arith, lt));
  above = λ r le. ap (times r) none;
}

-- a row can be done first
done_first : (n : ℕ) (lives : List Life) (r : ℕ) (x : Life) → slice_get lives r ≡ Some x → map
    (undone_life n) (slice_set lives r (undone_life n x)) ≡ map (undone_life n) lives
done_first n [] r x at = cc
done_first n (l ∷ ls) zero x at =
    let e : l ≡ x = cc in
    ap (λ z. z ∷ map (undone_life n) ls) (undone_twice n x ∙ ap (undone_life n) (sym e))
done_first n (l ∷ ls) (suc r) x at = ap (λ zs. undone_life n l ∷ zs) (done_first n ls r x at)

-- what is added to the list of dead rows
abbrev pub added : Life → ℕ → List ℕ
added y k = if is_dead y then k ∷ [] else []

times_added : (y : Life) (k r : ℕ) → times r (added y k) ≡ cond {A = ℕ} (eqb r k) (bit (is_dead y))
    0
times_added y k r = go (is_dead y)
  where
    one : (t : Bool) → cond {A = ℕ} t 1 0 ≡ cond {A = ℕ} t (bit true) 0
    one true = refl
    one false = refl

    nil : (t : Bool) → 0 ≡ cond {A = ℕ} t (bit false) 0
    nil true = refl
    nil false = refl

    go : (b : Bool) → times r (if b then k ∷ [] else []) ≡ cond {A = ℕ} (eqb r k) (bit b) 0
    go true = count_one r k ∙ one (eqb r k)
    go false = nil (eqb r k)

module _ (n k : ℕ) (start lives : List Life) (free : List Bool) (dead : List ℕ)
    (u : Undoing n k start lives free dead) (x : Life) (at : slice_get lives k ≡ Some x) where
  abbrev y : Life
  y = undone_life n x

  pub was_free : slice_get free k ≡ Some (is_free x)
  was_free = ap (λ (f : List Bool). slice_get f k) u.free_is ∙ slice_get-map is_free lives k
      ∙ ap (option_map is_free) at

  times_now : (r : ℕ) → times r (dead ++ added y k) ≡ times r dead + cond {A = ℕ} (eqb r k)
      (bit (is_dead y)) 0
  times_now r = times-append r dead (added y k) ∙ ap (λ (c : ℕ). times r dead + c)
      (times_added y k r)

  fixed_now : (r : ℕ) (z : Life) → r < k + 1 → slice_get (slice_set lives k y) r ≡ Some z
      → undone_life n z ≡ z
  fixed_now r z lt got = go (eqb r k) refl (get-set lives k r x y at)
    where
      go : (t : Bool) → eqb r k ≡ t → slice_get (slice_set lives k y) r ≡ cond t (Some y)
          (slice_get lives r) → undone_life n z ≡ z
      go true e set =
          let is : y ≡ z = cc in
          subst (λ (w : Life). undone_life n w ≡ w) is (undone_twice n x)
      go false e set =
          let less : r < k = grind (arith, nat_tests) in
          u.fixed r z less (sym set ∙ got)

  below_now : (r : ℕ) → r < k + 1 → times r (dead ++ added y k) ≡ bit
      (is_at is_dead (slice_get (slice_set lives k y) r))
  below_now r lt = go (eqb r k) refl (times_now r) (get-set lives k r x y at)
    where
      go : (t : Bool) → eqb r k ≡ t → times r (dead ++ added y k) ≡ times r dead
          + cond {A = ℕ} t (bit (is_dead y)) 0
          → slice_get (slice_set lives k y) r ≡ cond t (Some y) (slice_get lives r)
          → times r (dead ++ added y k) ≡ bit
          (is_at is_dead (slice_get (slice_set lives k y) r))
      go true e all set =
          let same_row : r ≡ k = grind (arith, nat_tests) in
          let none : times r dead ≡ 0 = u.above r (omega (arith, same_row)) in
          let now : times r (dead ++ added y k) ≡ bit (is_dead y) = omega (arith, all, none) in
          now ∙ sym (ap (λ o. bit (is_at is_dead o)) set)
      go false e all set =
          let less : r < k = grind (arith, nat_tests) in
          let now : times r (dead ++ added y k) ≡ times r dead = omega (arith, all) in
          now ∙ u.below r less ∙ sym (ap (λ o. bit (is_at is_dead o)) set)

  above_now : (r : ℕ) → k + 1 ≤ r → times r (dead ++ added y k) ≡ 0
  above_now r le = go (eqb r k) refl (times_now r)
    where
      go : (t : Bool) → eqb r k ≡ t → times r (dead ++ added y k) ≡ times r dead
          + cond {A = ℕ} t (bit (is_dead y)) 0 → times r (dead ++ added y k) ≡ 0
      go true e all = absurd (grind (arith, nat_tests))
      go false e all =
          let none : times r dead ≡ 0 = u.above r (omega (arith, le)) in
          omega (arith, all, none)

  pub undo_step : Undoing n (k + 1) start (slice_set lives k y) (slice_set free k (is_free y))
      (dead ++ added y k)
  undo_step = record {
    same = done_first n lives k x at ∙ u.same;
    fixed = fixed_now;
    free_is = ap (λ (f : List Bool). slice_set f k (is_free y)) u.free_is
        ∙ sym (map-set is_free lives k y);
    below = below_now;
    above = above_now;
  }

all_fixed : (n : ℕ) (lives : List Life)
    → ((r : ℕ) (x : Life) → slice_get lives r ≡ Some x → undone_life n x ≡ x)
    → map (undone_life n) lives ≡ lives
all_fixed n [] fixed = refl
all_fixed n (l ∷ ls) fixed =
    let here : undone_life n l ≡ l = fixed 0 l refl in
    let rest : map (undone_life n) ls ≡ ls = all_fixed n ls (λ r x at. fixed (suc r) x at) in
    cc

within : (lives : List Life) (r : ℕ) (x : Life) → slice_get lives r ≡ Some x → r < length lives
within [] r x at = cc
within (l ∷ ls) zero x at = omega arith
within (l ∷ ls) (suc r) x at = omega (arith, within ls r x at)

beyond : (lives : List Life) (r : ℕ) → length lives ≤ r
    → bit (is_at is_dead (slice_get lives r)) ≡ 0
beyond [] r le = refl
beyond (l ∷ ls) zero le = absurd (omega (arith, le))
beyond (l ∷ ls) (suc r) le = beyond ls r (omega (arith, le))

-- all rows are done
module _ (n k : ℕ) (start lives : List Life) (free : List Bool) (dead : List ℕ)
    (u : Undoing n k start lives free dead) (all : length lives ≤ k) where
  pub undo_end : lives ≡ map (undone_life n) start
  undo_end = sym (all_fixed n lives
      (λ r x at. let lt = within lives r x at in u.fixed r x (omega (arith, lt, all)) at)) ∙ u.same

  pub undo_lists : Lists is_dead lives dead
  undo_lists r = go (nat_lt r k) refl
    where
      go : (t : Bool) → nat_lt r k ≡ t → times r dead ≡ bit (is_at is_dead (slice_get lives r))
      go true e = u.below r (grind (arith, nat_tests))
      go false e =
          let le : k ≤ r = grind (arith, nat_tests) in
          u.above r le ∙ sym (beyond lives r (omega (arith, le, all)))

-- ---- the whole desk

length_mapped : (f : Life → Life) (lives : List Life) → length (map f lives) ≡ length lives
length_mapped f [] = refl
length_mapped f (l ∷ ls) = ap suc (length_mapped f ls)

pub desk_undone : (current : ℕ) (versions : List ℕ) (lives : List Life) (free : List Bool)
    (dead held last : List ℕ) (vc lc dc hc mc : ℕ)
    → IsDesk current versions lives free dead held last vc lc dc hc mc
    → (n : ℕ) (new : List Life) (free' : List Bool) (dead' held' : List ℕ) (dc' hc' : ℕ)
    → new ≡ map (undone_life n) lives → free' ≡ map is_free new → Lists is_dead new dead'
    → held' ≡ [] → dc' ≡ dc → hc' ≡ hc → IsDesk current versions new free' dead' held' last vc lc
    dc' hc' mc
desk_undone current versions lives free dead held last vc lc dc hc mc desk n new free' dead' held'
    dc' hc' is f lists e d h =
    let len : length new ≡ length lives = ap (λ (ls : List Life). length ls) is
    ∙ length_mapped (undone_life n) lives in
    record {
      there = desk.there;
      small = desk.small;
      few = omega (arith, len, desk.few);
      free_rows = f;
      dead_rows = λ r. ap (λ (rows : List ℕ). times r (dead' ++ rows)) e ∙ nil r ∙ lists r;
      reached = λ r x at some. absurd (omega (arith, ap (times r) e, some));
      versions_room = desk.versions_room;
      lives_room = omega (arith, len, desk.lives_room);
      dead_room = omega (arith, len, d, desk.dead_room);
      held_room = omega (arith, len, h, desk.held_room);
      last_room = desk.last_room;
    }
  where
    nil : (r : ℕ) → times r (dead' ++ []) ≡ times r dead'
    nil r = omega (arith, times-append r dead' [])
