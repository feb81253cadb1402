-- Which rows a version reaches after a put or a remove, the advance after it, and a sweep.
use Rattle.mst_path.proofs.Names.{◌≡◌, ℕ, zero, suc, ◌+◌, ◌<◌, ◌≤◌, Bool, true, false, cond, eqb, List, [], ◌∷◌, length, map, Option, Some, None, refl, sym, ◌∙◌, ap, subst, arith, ◌↔◌, slice_get, option_map, list_any, nat_tests, slice_get-map, State, version, next, reaches, reached_at, reaches_life, swept_life, Content, In, times, bit, Life, Free, Born, Dead, Takes, KeepsBut, IsKilled, Moves, AreOld, IsTaken, OnlyFreeWritten, ReachesExactly, Changes, advanced, swept_by, IsPast, IsSettled}
use Rattle.std.specs.Prelude.{◌==◌}
use Rattle.std.proofs.lemmas.List.{get_or-set_same}
use Rattle.std.proofs.lemmas.Option.{slice_get-get_or}
use Rattle.mst_arena.specs.Lives.{SameReach}
use Rattle.mst_arena.proofs.Reach.{born_later, dies_later, died, same_sweep}
use Rattle.mst_path.specs.Changing.{IsOnlyIn}
use Rattle.mst_path.proofs.lemmas.rows.Moving.{moves_takes, not_in, out_of_times}

-- ---- a life that is past

-- the next version reaches what the last one reached
pub same_next : (v : ℕ) (o : Option Life) → IsPast v o → reached_at o (v + 1) ≡ reached_at o v
same_next v None past = refl
same_next v (Some Free) past = refl
same_next v (Some (Born b)) past = grind (arith, nat_tests)
same_next v (Some (Dead b d)) past = died b d (v + 1) (omega (arith, past)) ∙ sym (died b d v past)

later_past : (v w : ℕ) (o : Option Life) → v ≤ w → IsPast v o → IsPast w o
later_past v w None le past = tt
later_past v w (Some Free) le past = tt
later_past v w (Some (Born b)) le past = omega (arith, le, past)
later_past v w (Some (Dead b d)) le past = omega (arith, le, past)

-- what the current version reaches is alive
alive_now : (v : ℕ) (o : Option Life) → IsPast v o → reached_at o v ≡ true → (b : ℕ)
    × (o ≡ Some (Born b)) × (b ≤ v)
alive_now v None past is = cc
alive_now v (Some Free) past is = cc
alive_now v (Some (Born b)) past is = (b, refl, past)
alive_now v (Some (Dead b d)) past is = let not = died b d v past in cc

pub reached_old : (s : State) (rows : List ℕ) → IsSettled s → ReachesExactly s.lives (version s)
    rows → AreOld s rows
reached_old s rows settled exact r i = alive_now (version s) (slice_get s.lives r) (settled r)
    ((exact r).1 i)

-- ---- a change

pub by_in : {A : Type 0} (r : ℕ) (rows : List ℕ) → (times r rows ≡ 0 → A) → (In r rows → A) → A
by_in {A} r rows out is = go (times r rows) refl
  where
    go : (n : ℕ) → times r rows ≡ n → A
    go zero e = out e
    go (suc n) e = is (omega (arith, e))

module _ (old new : State) (before after : List ℕ) (change : Changes old new before after) where
  same_version : version new ≡ version old
  same_version = rw (change.versions.0, change.versions.1)

  -- a row stands after the change alone, before it alone, or both or neither
  pub by_place : (r : ℕ) (A : Type 0) → (IsOnlyIn r after before → A)
      → (IsOnlyIn r before after → A) → ((In r before ↔ In r after) → A) → A
  by_place r A new_one left both = go (times r before) (times r after) refl refl
    where
      go : (n m : ℕ) → times r before ≡ n → times r after ≡ m → A
      go zero zero e f = both (λ i. absurd (omega (arith, i, e)), λ i. absurd (omega (arith, i, f)))
      go zero (suc m) e f = new_one (omega (arith, f), e)
      go (suc n) zero e f = left (omega (arith, e), f)
      go (suc n) (suc m) e f = both (λ i. omega (arith, f), λ i. omega (arith, e))

  pub older : SameReach (λ v. v ≤ version old) old.lives new.lives
  older v r le = by_place r _
      (λ only. let t = (change.taken r).1 only in
      ap (λ o. reached_at o v) t.1 ∙ born_later (next old) v (omega (arith, le))
      ∙ sym (ap (λ o. reached_at o v) t.0))
      (λ only. let k = (change.killed r).1 only in
      ap (λ o. reached_at o v) k.3 ∙ dies_later k.0 (next old) v (omega (arith, le))
      ∙ sym (ap (λ o. reached_at o v) k.1))
      (λ both. ap (λ o. reached_at o v) (change.others r both))

  pub newest : IsSettled old → ReachesExactly old.lives (version old) before
      → ReachesExactly new.lives (next old) after
  newest settled exact r = by_place r _
      (λ only. let t = (change.taken r).1 only in
      (λ is. only.0, λ i. ap (λ o. reached_at o (next old)) t.1 ∙ self (next old)))
      (λ only. let k = (change.killed r).1 only in
      let not = ap (λ o. reached_at o (next old)) k.3 ∙ died k.0 (next old) (next old) (omega arith)
      in
      (λ is. cc, λ i. absurd (omega (arith, i, only.1))))
      (λ both. let same : reaches new.lives (next old) r ≡ reaches old.lives (version old) r =
      ap (λ o. reached_at o (next old)) (change.others r both) ∙ same_next (version old)
      (slice_get old.lives r) (settled r) in
      (λ is. both.0 ((exact r).0 (sym same ∙ is)), λ i. same ∙ (exact r).1 (both.1 i)))
    where
      self : (b : ℕ) → reaches_life (Born b) b ≡ true
      self b = grind (arith, nat_tests)

  past_after : IsSettled old → (r : ℕ) → IsPast (next old) (slice_get new.lives r)
  past_after settled r = by_place r _
      (λ only. let t = (change.taken r).1 only in subst (IsPast (next old)) (sym t.1) (omega arith))
      (λ only. let k = (change.killed r).1 only in subst (IsPast (next old)) (sym k.3)
      (omega arith))
      (λ both. subst (IsPast (next old)) (sym (change.others r both))
      (later_past (version old) (next old) (slice_get old.lives r) (omega arith) (settled r)))

  pub version_after : (into : ℕ) → into < length old.versions → version (advanced into new) ≡ next
      old
  version_after into lt = get_or-set_same new.versions into (next new) 0 (rw (change.versions.1) lt)
      ∙ ap (λ (v : ℕ). v + 1) same_version

  pub settled_after : (into : ℕ) → into < length old.versions → IsSettled old
      → IsSettled (advanced into new)
  settled_after into lt settled r = subst (λ (v : ℕ). IsPast v (slice_get new.lives r))
      (sym (version_after into lt)) (past_after settled r)

-- a tree that is planted is a change from no rows
module _ (old new : State) (rows : List ℕ) (takes : Takes old new rows) where
  moves : Moves old new rows []
  moves = moves_takes old new rows takes

  was_taken : (r : ℕ) → IsTaken old new r → In r rows
  was_taken r is =
      by_in r rows
      (λ out. absurd (let same = moves.others r out (omega arith) in let free = is.0 in let born =
      is.1 in cc)) (λ i. i)

  none_killed : (r : ℕ) → IsKilled old new r → ⊥
  none_killed r is = by_in r rows (λ out. let same = moves.others r out (omega arith) in let born =
      is.1 in let dead = is.3 in cc) (λ i. let free = moves.free r i in let born = is.1 in cc)

  pub planted : Changes old new [] rows
  planted = record {
    taken =
        λ r. (
          λ is. (was_taken r is, omega arith),
          λ only. (moves.free r only.0, moves.born r only.0),
        );
    killed = λ r. (λ is. absurd (none_killed r is), λ only. absurd (omega (arith, only.0)));
    others = λ r both. moves.others r (not_in r rows (λ i. absurd (omega (arith, both.1 i))))
        (omega arith);
    versions = (moves.current, moves.versions);
  }

  pub planted_written : (c c' : Content) → KeepsBut rows c c' → OnlyFreeWritten old c c'
  planted_written c c' keeps r other =
      keeps r (out_of_times r rows (not_in r rows (λ i. other (moves.free r i))))

-- ---- a sweep

pub has_in : (v : ℕ) (live : List ℕ) → In v live → list_any (λ w. w == v) live ≡ true
has_in v [] i = absurd (omega (arith, i))
has_in v (w ∷ ws) i = go (eqb v w) refl i (has_in v ws)
  where
    go : (t : Bool) → eqb v w ≡ t → 0 < bit t + times v ws
        → (In v ws → list_any (λ u. u == v) ws ≡ true) → list_any (λ u. u == v) (w ∷ ws) ≡ true
    go true e i more = let same : (w == v) ≡ true = grind (arith, nat_tests) in rw same
    go false e i more = let rest : list_any (λ u. u == v) ws ≡ true = more (omega (arith, i)) in
        grind (arith, nat_tests)

pub same_swept : (s : State) (live : List ℕ) → SameReach (λ v. In v live) s.lives
    (swept_by live s).lives
same_swept s live v r i = same_sweep live s.lives v r (has_in v live i)

past_swept : (live : List ℕ) (v : ℕ) (o : Option Life) → IsPast v o
    → IsPast v (option_map (swept_life live) o)
past_swept live v None past = tt
past_swept live v (Some Free) past = tt
past_swept live v (Some (Born b)) past = past
past_swept live v (Some (Dead b d)) past = go (list_any (reaches_life (Dead b d)) live)
  where
    go : (t : Bool) → IsPast v (Some (cond t (Dead b d) Free))
    go true = past
    go false = tt

pub settled_swept : (s : State) (live : List ℕ) → IsSettled s → IsSettled (swept_by live s)
settled_swept s live settled r =
    subst (IsPast (version s)) (sym (slice_get-map (swept_life live) s.lives r))
    (past_swept live (version s) (slice_get s.lives r) (settled r))

none_reach : (x : Life) (live : List ℕ) → ((v : ℕ) → In v live → reaches_life x v ≡ false)
    → list_any (reaches_life x) live ≡ false
none_reach x [] none = refl
none_reach x (w ∷ ws) none =
    let one : eqb w w ≡ true = grind (arith, nat_tests) in
    let here : reaches_life x w ≡ false = none w (omega (arith, ap bit one)) in
    rw here (none_reach x ws (λ v i. none v (omega (arith, i))))

pub some_reach : (x : Life) (live : List ℕ) (v : ℕ) → In v live → reaches_life x v ≡ true
    → list_any (reaches_life x) live ≡ true
some_reach x [] v i is = absurd (omega (arith, i))
some_reach x (w ∷ ws) v i is = go (eqb v w) refl i (some_reach x ws v)
  where
    go : (t : Bool) → eqb v w ≡ t → 0 < bit t + times v ws
        → (In v ws → reaches_life x v ≡ true → list_any (reaches_life x) ws ≡ true)
        → list_any (reaches_life x) (w ∷ ws) ≡ true
    go true e i more = let same : w ≡ v = grind (arith, nat_tests) in let here : reaches_life x w
        ≡ true = ap (reaches_life x) same ∙ is in rw here
    go false e i more = let rest : list_any (reaches_life x) ws ≡ true =
        more (omega (arith, i)) is in grind (arith, nat_tests)

-- a life after a sweep by versions of which the current one is one
free_life : (live : List ℕ) (now : ℕ) (x : Life) → In now live → IsPast now (Some x)
    → swept_life live x ≡ Free ↔ ((v : ℕ) → In v live → reaches_life x v ≡ false)
free_life live now Free i past = (λ is v j. refl, λ none. refl)
free_life live now (Born b) i past = (
  λ is. cc,
  λ none. let not = none now i in let is : reaches_life (Born b) now ≡ true =
      grind (arith, nat_tests) in cc,
)
free_life live now (Dead b d) i past = go (list_any (reaches_life (Dead b d)) live) refl
  where
    go : (t : Bool) → list_any (reaches_life (Dead b d)) live ≡ t → cond t (Dead b d) Free ≡ Free
        ↔ ((v : ℕ) → In v live → reaches_life (Dead b d) v ≡ false)
    go true e = (λ is. cc, λ none. let f = none_reach (Dead b d) live none in cc)
    go false e = (
      λ is v j. by_bool (reaches_life (Dead b d) v)
          (λ t. let f = some_reach (Dead b d) live v j t in cc),
      λ none. refl,
    )
      where
        by_bool : (t : Bool) → (t ≡ true → ⊥) → t ≡ false
        by_bool true not = absurd (not refl)
        by_bool false not = refl

pub free_swept : (s : State) (live : List ℕ) (r : ℕ) → IsSettled s → In (version s) live
    → r < length s.lives → slice_get (swept_by live s).lives r ≡ Some Free
    ↔ ((v : ℕ) → In v live → reaches s.lives v r ≡ false)
free_swept s live r settled i lt = go (slice_get s.lives r) refl (settled r)
  where
    go : (o : Option Life) → slice_get s.lives r ≡ o → IsPast (version s) o
        → slice_get (map (swept_life live) s.lives) r ≡ Some Free
        ↔ ((v : ℕ) → In v live → reached_at (slice_get s.lives r) v ≡ false)
    go None e past = absurd (let some = slice_get-get_or s.lives r Free lt in cc)
    go (Some x) e past =
        let is = slice_get-map (swept_life live) s.lives r ∙ ap (option_map (swept_life live)) e in
        let f = free_life live (version s) x i past in (
          λ free v j. ap (λ o. reached_at o v) e
              ∙ f.0 (let same : Some (swept_life live x) ≡ Some Free = sym is ∙ free in cc) v j,
          λ none. is ∙ ap Some (f.1 (λ v j. sym (ap (λ o. reached_at o v) e) ∙ none v j)),
        )
