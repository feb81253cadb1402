-- A sweep along the list of dead rows.
use Rattle.mst_arena.proofs.Names.{◌≡◌, ◌≢◌, ℕ, zero, suc, ◌+◌, ◌<◌, ◌≤◌, Bool, true, false, cond, eqb, List, [], ◌∷◌, ◌++◌, length, map, Some, refl, sym, ◌∙◌, ap, subst, arith, slice_get, slice_set, option_map, list_any, nat_tests, map-set, slice_get-map, Life, Free, Born, Dead, swept_life, is_free, reaches_life, is_at, is_dead, times, Lists, StayBut, AllReached}
use Rattle.mst_arena.specs.Lists.{bit}
use Rattle.mst_arena.proofs.ListLemmas.{get-set, times-append, lists_leave, lists_turn, lists_room, swept_twice, swept_after, there, count_one}

pub record Sweeping (live : List ℕ) (start lives : List Life) (free : List Bool)
    (dead held : List ℕ) : Type 0 where
  pub same : map (swept_life live) lives ≡ map (swept_life live) start
  pub free_is : free ≡ map is_free lives
  pub dead_is : Lists is_dead lives (dead ++ held)
  pub done : StayBut live lives dead

all_stay : (live : List ℕ) (lives : List Life)
    → ((r : ℕ) (x : Life) → slice_get lives r ≡ Some x → swept_life live x ≡ x)
    → map (swept_life live) lives ≡ lives
all_stay live [] stays = refl
all_stay live (l ∷ ls) stays =
    let here : swept_life live l ≡ l = stays 0 l refl in
    let rest : map (swept_life live) ls ≡ ls = all_stay live ls (λ r x at. stays (suc r) x at) in
    cc

pub sweep_end : (live : List ℕ) (start lives : List Life) (free : List Bool) (held : List ℕ)
    → Sweeping live start lives free [] held → lives ≡ map (swept_life live) start
sweep_end live start lives free held s = sym (all_stay live lives (λ r x at. s.done r x at refl))
    ∙ s.same

once_at : (r : ℕ) (xs ys : List ℕ) → 0 < times r ((xs ++ r ∷ []) ++ ys)
once_at r xs ys =
    let e : eqb r r ≡ true = grind (arith, nat_tests) in
    let one : bit (eqb r r) ≡ 1 = ap bit e in
    omega (arith, times-append r (xs ++ r ∷ []) ys, times-append r xs (r ∷ []))

pub dead_there : (live : List ℕ) (start lives : List Life) (free : List Bool) (dead held : List ℕ)
    (r : ℕ) → Sweeping live start lives free (dead ++ r ∷ []) held → r < length lives
dead_there live start lives free dead held r s =
    there is_dead lives r (omega (arith, s.dead_is r, once_at r dead held))

pub is_dead_there : (live : List ℕ) (start lives : List Life) (free : List Bool)
    (dead held : List ℕ) (r : ℕ) (x : Life) → Sweeping live start lives free (dead ++ r ∷ []) held
    → slice_get lives r ≡ Some x → is_dead x ≡ true
is_dead_there live start lives free dead held r x s at = go (is_dead x) refl
  where
    go : (t : Bool) → is_dead x ≡ t → t ≡ true
    go true e = refl
    go false e =
        let b : bit (is_at is_dead (slice_get lives r)) ≡ 0 = ap (λ o. bit (is_at is_dead o)) at
        ∙ ap bit e in
        absurd (omega (arith, b, s.dead_is r, once_at r dead held))

done_after : (live : List ℕ) (start lives : List Life) (free : List Bool) (dead held : List ℕ)
    (r : ℕ) (x y : Life) → Sweeping live start lives free (dead ++ r ∷ []) held → slice_get lives r
    ≡ Some x → swept_life live x ≡ y → StayBut live (slice_set lives r y) dead
done_after live start lives free dead held r x y s at is k z got none =
    go (eqb k r) refl (get-set lives r k x y at)
  where
    go : (t : Bool) → eqb k r ≡ t → slice_get (slice_set lives r y) k ≡ cond t (Some y)
        (slice_get lives k) → swept_life live z ≡ z
    go true e set =
        let z_is : y ≡ z = cc in
        subst (λ (w : Life). swept_life live w ≡ w) z_is
        (subst (λ (w : Life). swept_life live w ≡ w) is (swept_twice live x))
    go false e set =
        let one : times k (r ∷ []) ≡ 0 = count_one k r ∙ ap (λ t. cond {A = ℕ} t 1 0) e in
        s.done k z (sym set ∙ got) (omega (arith, times-append k dead (r ∷ []), one))

free_not_dead : (x : Life) → is_dead x ≡ true → is_free x ≡ false
free_not_dead Free e = cc
free_not_dead (Born b) e = refl
free_not_dead (Dead b d) e = refl

-- a row in the list is not yet free
pub not_free : (live : List ℕ) (start lives : List Life) (free : List Bool) (dead held : List ℕ)
    (r : ℕ) (x : Life) → Sweeping live start lives free (dead ++ r ∷ []) held → slice_get lives r
    ≡ Some x → slice_get free r ≡ Some false
not_free live start lives free dead held r x s at =
    ap (λ (f : List Bool). slice_get f r) s.free_is ∙ slice_get-map is_free lives r
    ∙ ap (option_map is_free) at
    ∙ ap Some (free_not_dead x (is_dead_there live start lives free dead held r x s at))

pub sweep_free : (live : List ℕ) (start lives : List Life) (free : List Bool) (dead held : List ℕ)
    (r : ℕ) (x : Life) → Sweeping live start lives free (dead ++ r ∷ []) held → slice_get lives r
    ≡ Some x → swept_life live x ≡ Free → Sweeping live start (slice_set lives r Free)
    (slice_set free r true) dead held
sweep_free live start lives free dead held r x s at is =
    let was = is_dead_there live start lives free dead held r x s at in
    record {
      same = swept_after live lives r x Free at is ∙ s.same;
      free_is = ap (λ (f : List Bool). slice_set f r true) s.free_is
          ∙ sym (map-set is_free lives r Free);
      dead_is = lists_leave is_dead lives r x Free dead held at was refl s.dead_is;
      done = done_after live start lives free dead held r x Free s at is;
    }

swept_cases : (live : List ℕ) (x y : Life) → is_dead x ≡ true → swept_life live x ≡ y → y ≢ Free
    → y ≡ x
swept_cases live Free y was is other = cc
swept_cases live (Born b) y was is other = cc
swept_cases live (Dead b d) y was is other = go _ is
  where
    go : (t : Bool) → cond t (Dead b d) Free ≡ y → y ≡ Dead b d
    go true e = sym e
    go false e = absurd (other (sym e))

same_write : (lives : List Life) (r : ℕ) (x : Life) → slice_get lives r ≡ Some x
    → slice_set lives r x ≡ lives
same_write [] r x at = cc
same_write (l ∷ ls) zero x at = let e : l ≡ x = cc in ap (λ (z : Life). z ∷ ls) (sym e)
same_write (l ∷ ls) (suc r) x at = ap (λ (zs : List Life). l ∷ zs) (same_write ls r x at)

pub sweep_keep : (live : List ℕ) (start lives : List Life) (free : List Bool) (dead held : List ℕ)
    (r : ℕ) (x y : Life) → Sweeping live start lives free (dead ++ r ∷ []) held → slice_get lives r
    ≡ Some x → swept_life live x ≡ y → y ≢ Free → Sweeping live start (slice_set lives r y) free
    dead (held ++ r ∷ [])
sweep_keep live start lives free dead held r x y s at is other =
    let was = is_dead_there live start lives free dead held r x s at in
    let stays : y ≡ x = swept_cases live x y was is other in
    let same : slice_set lives r y ≡ lives = ap (slice_set lives r) stays ∙ same_write lives r x at
    in
    record {
      same = swept_after live lives r x y at is ∙ s.same;
      free_is = s.free_is ∙ ap (λ (ls : List Life). map is_free ls) (sym same);
      dead_is = subst (λ (ls : List Life). Lists is_dead ls (dead ++ (held ++ r ∷ []))) (sym same)
          (lists_turn is_dead lives r dead held s.dead_is);
      done = done_after live start lives free dead held r x y s at is;
    }

pub held_room : (live : List ℕ) (start lives : List Life) (free : List Bool) (dead held : List ℕ)
    (r : ℕ) → Sweeping live start lives free (dead ++ r ∷ []) held → length held < length lives
held_room live start lives free dead held r s =
    omega (
      arith,
      lists_room is_dead lives ((dead ++ r ∷ []) ++ held) s.dead_is,
      length_more
          (dead ++ r ∷ []) held,
      length_more dead (r ∷ []),
    )
  where
    length_more : (xs ys : List ℕ) → length (xs ++ ys) ≡ length xs + length ys
    length_more [] ys = omega arith
    length_more (x ∷ xs) ys = omega (arith, length_more xs ys)

pub length_nil : (xs : List ℕ) → length xs ≡ 0 → xs ≡ []
length_nil [] e = refl
length_nil (x ∷ xs) e = absurd (omega arith)

-- ---- what older versions reach among the held rows

bit_small : (b : Bool) → bit b ≤ 1
bit_small true = omega arith
bit_small false = omega arith

-- a row that is looked at is not held
not_held : (live : List ℕ) (start lives : List Life) (free : List Bool) (dead held : List ℕ) (r : ℕ)
    → Sweeping live start lives free (dead ++ r ∷ []) held → times r held ≡ 0
not_held live start lives free dead held r s =
    omega (
      arith,
      s.dead_is r,
      bit_small (is_at is_dead (slice_get lives r)),
      once_at r dead [],
      times-append r (dead ++ r ∷ []) [],
      times-append r (dead ++ r ∷ []) held,
    )

reached_beside : (front : List ℕ) (lives : List Life) (held : List ℕ) (r : ℕ) (x y : Life)
    → slice_get lives r ≡ Some x → times r held ≡ 0 → AllReached front lives held → AllReached front
    (slice_set lives r y) held
reached_beside front lives held r x y at none reached k z got some =
    go (eqb k r) refl (get-set lives r k x y at)
  where
    go : (t : Bool) → eqb k r ≡ t → slice_get (slice_set lives r y) k ≡ cond t (Some y)
        (slice_get lives k) → list_any (reaches_life z) front ≡ true
    go true e set =
        let same : k ≡ r = grind (arith, nat_tests) in
        let gone : times k held ≡ 0 = ap (λ (j : ℕ). times j held) same ∙ none in
        absurd (omega (arith, some))
    go false e set = reached k z (sym set ∙ got) some

pub older_free : (live front : List ℕ) (start lives : List Life) (free : List Bool)
    (dead held : List ℕ) (r : ℕ) (x : Life) → Sweeping live start lives free (dead ++ r ∷ []) held
    → slice_get lives r ≡ Some x → AllReached front lives held → AllReached front
    (slice_set lives r Free) held
older_free live front start lives free dead held r x s at =
    reached_beside front lives held r x Free at (not_held live start lives free dead held r s)

pub older_keep : (live front : List ℕ) (start lives : List Life) (free : List Bool)
    (dead held : List ℕ) (r : ℕ) (x y : Life) → Sweeping live start lives free (dead ++ r ∷ []) held
    → slice_get lives r ≡ Some x → list_any (reaches_life y) front ≡ true → AllReached front lives
    held → AllReached front (slice_set lives r y) (held ++ r ∷ [])
older_keep live front start lives free dead held r x y s at has reached k z got some =
    go (eqb k r) refl (get-set lives r k x y at)
  where
    go : (t : Bool) → eqb k r ≡ t → slice_get (slice_set lives r y) k ≡ cond t (Some y)
        (slice_get lives k) → list_any (reaches_life z) front ≡ true
    go true e set =
        let z_is : y ≡ z = cc in
        subst (λ (w : Life). list_any (reaches_life w) front ≡ true) z_is has
    go false e set =
        let one : times k (r ∷ []) ≡ 0 = count_one k r ∙ ap (λ t. cond {A = ℕ} t 1 0) e in
        reached k z (sym set ∙ got) (omega (arith, some, times-append k held (r ∷ []), one))

-- what stays dead is what it was
pub stays_dead : (live : List ℕ) (start lives : List Life) (free : List Bool) (dead held : List ℕ)
    (r : ℕ) (x y : Life) → Sweeping live start lives free (dead ++ r ∷ []) held → slice_get lives r
    ≡ Some x → swept_life live x ≡ y → y ≢ Free → is_dead y ≡ true
stays_dead live start lives free dead held r x y s at is other =
    let was = is_dead_there live start lives free dead held r x s at in
    ap is_dead (swept_cases live x y was is other) ∙ was
