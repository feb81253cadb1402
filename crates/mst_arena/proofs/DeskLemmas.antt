-- What a desk keeps follows the changes of its rows.
use Rattle.mst_arena.proofs.Names.{◌≡◌, ◌≢◌, ℕ, zero, suc, ◌+◌, ◌<◌, ◌≤◌, ◌^◌, Bool, true, false, cond, List, [], ◌∷◌, ◌++◌, length, map, Option, Some, None, refl, sym, ◌∙◌, ap, arith, inl, inr, ◌⊎◌, get_or, slice_get, slice_set, slice_index, option_map, ◌==◌, ◌&&◌, list_any, length-set, cases_eq, and_parts, and_from, nat_tests, append-nil, map-set, slice_get-map, slice_get-get_or, Life, Free, Born, Dead, is_free, reaches_life, swept_life, is_at, is_dead, times, Lists, AllReached, AllOlder, is_older, StayBut, IsDesk}
use Rattle.std.specs.Prelude.{replicate}
use Rattle.std.specs.List.{list_all}
use Rattle.std.proofs.lemmas.Option.{get_or_from_slice_get}
use Rattle.mst_arena.specs.Lists.{bit}
use Rattle.mst_arena.proofs.SetLemmas.{get_set_other}
use Rattle.mst_arena.proofs.ListLemmas.{times-append, lists_come, lists_stay, lists_room, swept_twice}

-- a row that is in neither list of dead rows, or was in none before its life changed
out_of_held : (lives : List Life) (dead held : List ℕ) (r : ℕ) (x : Life) → Lists is_dead lives
    (dead ++ held) → slice_get lives r ≡ Some x → is_dead x ≡ false → times r held ≡ 0
out_of_held lives dead held r x lists at alive =
    let none : bit (is_at is_dead (slice_get lives r)) ≡ 0 = ap (λ o. bit (is_at is_dead o)) at
    ∙ ap bit alive in
    omega (arith, lists r, times-append r dead held)

pub reached_after : (last : List ℕ) (lives : List Life) (held : List ℕ) (r : ℕ) (y : Life)
    → AllReached last lives held → times r held ≡ 0 → AllReached last (slice_set lives r y) held
reached_after last lives held r y reached none k z at some = go (cases_eq k r)
  where
    go : (k ≡ r) ⊎ (k ≢ r) → list_any (reaches_life z) last ≡ true
    go (inl e) =
        let zero_times : times k held ≡ 0 = ap (λ (j : ℕ). times j held) e ∙ none in
        absurd (omega arith)
    go (inr e) = reached k z (sym (get_set_other lives r k y e) ∙ at) some

length_more : (xs ys : List ℕ) → length (xs ++ ys) ≡ length xs + length ys
length_more [] ys = omega arith
length_more (x ∷ xs) ys = omega (arith, length_more xs ys)

same_flag : (lives : List Life) (r : ℕ) (x y : Life) → slice_get lives r ≡ Some x
    → is_free y ≡ is_free x → map is_free (slice_set lives r y) ≡ map is_free lives
same_flag [] r x y at same = cc
same_flag (l ∷ ls) zero x y at same = let e : l ≡ x = cc in ap (λ (b : Bool). b ∷ map is_free ls)
    (same ∙ ap is_free (sym e))
same_flag (l ∷ ls) (suc r) x y at same =
    ap (λ (bs : List Bool). is_free l ∷ bs) (same_flag ls r x y at same)

module _ (current : ℕ) (versions : List ℕ) (lives : List Life) (free : List Bool)
    (dead held last : List ℕ) (vc lc dc hc mc : ℕ)
    (desk : IsDesk current versions lives free dead held last vc lc dc hc mc) where
  -- a row that is not dead gets another life that is not dead
  pub desk_life : (r : ℕ) (x y : Life) (b : Bool) → slice_get lives r ≡ Some x → is_dead x ≡ false
      → is_dead y ≡ false → is_free y ≡ b → IsDesk current versions (slice_set lives r y)
      (slice_set free r b) dead held last vc lc dc hc mc
  desk_life r x y b at was now is =
      let len : length (slice_set lives r y) ≡ length lives = length-set lives r y in
      record {
        there = desk.there;
        small = desk.small;
        few = omega (arith, len, desk.few);
        free_rows = ap (λ (f : List Bool). slice_set f r b) desk.free_rows
            ∙ ap (slice_set (map is_free lives) r) (sym is) ∙ sym (map-set is_free lives r y);
        dead_rows = lists_stay is_dead lives r x y (dead ++ held) at (was ∙ sym now) desk.dead_rows;
        reached = reached_after last lives held r y desk.reached
            (out_of_held lives dead held r x desk.dead_rows at was);
        versions_room = desk.versions_room;
        lives_room = omega (arith, len, desk.lives_room);
        dead_room = omega (arith, len, desk.dead_room);
        held_room = omega (arith, len, desk.held_room);
        last_room = desk.last_room;
      }

  -- what is free by the set of free rows
  pub free_life : (r : ℕ) → slice_get free r ≡ Some true → slice_get lives r ≡ Some Free
  free_life r at =
      go (slice_get lives r) refl
      (sym (slice_get-map is_free lives r) ∙ ap (λ (f : List Bool). slice_get f r)
      (sym desk.free_rows) ∙ at)
    where
      go : (o : Option Life) → slice_get lives r ≡ o → option_map is_free o ≡ Some true
          → o ≡ Some Free
      go None e is = cc
      go (Some Free) e is = refl
      go (Some (Born b)) e is = cc
      go (Some (Dead b d)) e is = cc

  -- what is free is in the set of free rows
  pub free_flag : (r : ℕ) → slice_get lives r ≡ Some Free → slice_get free r ≡ Some true
  free_flag r at = ap (λ (f : List Bool). slice_get f r) desk.free_rows
      ∙ slice_get-map is_free lives r ∙ ap (option_map is_free) at

  -- the row that dies is added to the list
  pub desk_kill : (r b d : ℕ) → slice_get lives r ≡ Some (Born b) → IsDesk current versions
      (slice_set lives r (Dead b d)) free (dead ++ r ∷ []) held last vc lc dc hc mc
  desk_kill r b d at =
      let len : length (slice_set lives r (Dead b d)) ≡ length lives =
      length-set lives r (Dead b d) in
      let come : Lists is_dead (slice_set lives r (Dead b d)) ((dead ++ held) ++ r ∷ []) =
      lists_come is_dead lives r (Born b) (Dead b d) (dead ++ held) at refl refl desk.dead_rows
      in
      record {
        there = desk.there;
        small = desk.small;
        few = omega (arith, len, desk.few);
        free_rows = desk.free_rows ∙ sym (same_flag lives r (Born b) (Dead b d) at refl);
        dead_rows =
            λ k. omega (
              arith,
              come k,
              times-append k (dead ++ held) (r ∷ []),
              times-append k dead
                  held,
              times-append k (dead ++ r ∷ []) held,
              times-append k dead (r ∷ []),
            );
        reached = reached_after last lives held r (Dead b d) desk.reached
            (out_of_held lives dead held r (Born b) desk.dead_rows at refl);
        versions_room = desk.versions_room;
        lives_room = omega (arith, len, desk.lives_room);
        dead_room = omega (arith, len, desk.dead_room);
        held_room = omega (arith, len, desk.held_room);
        last_room = desk.last_room;
      }

  pub kill_room : (r b d : ℕ) → slice_get lives r ≡ Some (Born b) → length dead < dc
  kill_room r b d at =
      let after = desk_kill r b d at in
      omega (
        arith,
        lists_room is_dead (slice_set lives r (Dead b d)) ((dead ++ r ∷ []) ++ held)
            after.dead_rows,
        length_more (dead ++ r ∷ []) held,
        length_more dead (r ∷ []),
        after.dead_room,
      )

  pub move_room : length held + length dead ≤ dc
  move_room =
      omega (
        arith,
        lists_room is_dead lives (dead ++ held) desk.dead_rows,
        length_more dead held,
        desk.dead_room,
      )

-- ---- what a sweep leaves

any_member : (P : ℕ → Bool) (live : List ℕ) (v : ℕ) → list_any (λ w. w == v) live ≡ true
    → P v ≡ true → list_any P live ≡ true
any_member P [] v has is = cc
any_member P (w ∷ ws) v has is = go (w == v) (P w) refl refl (any_member P ws v)
  where
    go : (s t : Bool) → (w == v) ≡ s → P w ≡ t
        → (list_any (λ u. u == v) ws ≡ true → P v ≡ true → list_any P ws ≡ true)
        → list_any P (w ∷ ws) ≡ true
    go s true e f more = grind (arith, nat_tests)
    go true false e f more = grind (arith, nat_tests)
    go false false e f more = grind (arith, nat_tests)

-- what a version reached that is still live, and not the newest, is reached by a live version that
-- is not
any_older : (P : ℕ → Bool) (live last : List ℕ)
    → list_all (λ v. list_any (λ w. w == v) live && is_older live v) last ≡ true → list_any P last
    ≡ true → list_any (λ v. P v && is_older live v) live ≡ true
any_older P live [] all some = cc
any_older P live (v ∷ vs) all some = go (P v) refl (any_older P live vs)
  where
    here : (list_any (λ w. w == v) live && is_older live v) ≡ true
    here = (and_parts _ _ all).0

    go : (t : Bool) → P v ≡ t
        → (list_all (λ u. list_any (λ w. w == u) live && is_older live u) vs ≡ true → list_any P vs
        ≡ true → list_any (λ u. P u && is_older live u) live ≡ true)
        → list_any (λ u. P u && is_older live u) live ≡ true
    go true f more = any_member (λ u. P u && is_older live u) live v (and_parts _ _ here).0
        (and_from _ _ f (and_parts _ _ here).1)
    go false f more = more (and_parts _ _ all).1 (grind (arith, nat_tests))

any_weaker : (P Q : ℕ → Bool) (live : List ℕ) → list_any (λ v. P v && Q v) live ≡ true
    → list_any P live ≡ true
any_weaker P Q [] some = cc
any_weaker P Q (v ∷ vs) some = go (P v) (Q v) refl refl (any_weaker P Q vs)
  where
    go : (s t : Bool) → P v ≡ s → Q v ≡ t
        → (list_any (λ u. P u && Q u) vs ≡ true → list_any P vs ≡ true) → list_any P (v ∷ vs) ≡ true
    go true t e f more = grind (arith, nat_tests)
    go false t e f more = grind (arith, nat_tests)

swept_dead : (live : List ℕ) (b d : ℕ) → list_any (reaches_life (Dead b d)) live ≡ true
    → swept_life live (Dead b d) ≡ Dead b d
swept_dead live b d e = ap (λ (t : Bool). cond t (Dead b d) Free) e

dead_swept : (live : List ℕ) (x : Life) → swept_life live x ≡ x → is_dead x ≡ true
    → list_any (reaches_life x) live ≡ true
dead_swept live Free is was = cc
dead_swept live (Born b) is was = cc
dead_swept live (Dead b d) is was = go (list_any (reaches_life (Dead b d)) live) refl is
  where
    go : (t : Bool) → list_any (reaches_life (Dead b d)) live ≡ t → cond t (Dead b d) Free ≡ Dead b
        d → t ≡ true
    go true e same = refl
    go false e same = cc

kind_of : (lives : List Life) (rows : List ℕ) (r : ℕ) (x : Life) → Lists is_dead lives rows
    → slice_get lives r ≡ Some x → 0 < times r rows → is_dead x ≡ true
kind_of lives rows r x lists at some = go (is_dead x) refl
  where
    go : (t : Bool) → is_dead x ≡ t → t ≡ true
    go true e = refl
    go false e =
        let none : bit (is_at is_dead (slice_get lives r)) ≡ 0 = ap (λ o. bit (is_at is_dead o)) at
        ∙ ap bit e in
        absurd (omega (arith, lists r))

pub length_mapped : (f : Life → Life) (lives : List Life) → length (map f lives) ≡ length lives
length_mapped f [] = refl
length_mapped f (l ∷ ls) = ap suc (length_mapped f ls)

from_map : (f : Life → Life) (lives : List Life) (r : ℕ) (x : Life) → slice_get (map f lives) r
    ≡ Some x → (y : Life) × (x ≡ f y)
from_map f [] r x at = cc
from_map f (l ∷ ls) zero x at = (l, cc)
from_map f (l ∷ ls) (suc r) x at = from_map f ls r x at

-- a dead row that a sweep leaves is reached by a live version
pub kept_reached : (live : List ℕ) (lives new : List Life) (held : List ℕ)
    → new ≡ map (swept_life live) lives → Lists is_dead new held → AllReached live new held
kept_reached live lives new held is lists r x at some =
    let y =
    from_map (swept_life live) lives r x (ap (λ (ls : List Life). slice_get ls r) (sym is) ∙ at)
    in
    let stays : swept_life live x ≡ x = ap (swept_life live) y.1 ∙ swept_twice live y.0 ∙ sym y.1 in
    dead_swept live x stays (kind_of new held r x lists at some)

module _ (current : ℕ) (versions : List ℕ) (lives : List Life) (free : List Bool)
    (dead held last : List ℕ) (vc lc dc hc mc : ℕ)
    (desk : IsDesk current versions lives free dead held last vc lc dc hc mc) where
  -- a sweep leaves alone each row that it does not look at
  pub stay_but : (live dead' held' : List ℕ)
      → ((r : ℕ) → times r (dead' ++ held') ≡ times r (dead ++ held))
      → ((held' ≡ [])
      ⊎ ((held' ≡ held)
      × (list_all (λ v. list_any (λ w. w == v) live && is_older live v) last ≡ true)))
      → StayBut live lives dead'
  stay_but live dead' held' same either r Free at none = refl
  stay_but live dead' held' same either r (Born b) at none = refl
  stay_but live dead' held' same either r (Dead b d) at none = go either
    where
      once : times r held' ≡ 1
      once =
          let one : bit (is_at is_dead (slice_get lives r)) ≡ 1 =
          ap (λ o. bit (is_at is_dead o)) at in
          omega (arith, same r, desk.dead_rows r, times-append r dead' held')

      go : ((held' ≡ [])
          ⊎ ((held' ≡ held)
          × (list_all (λ v. list_any (λ w. w == v) live && is_older live v) last ≡ true)))
          → swept_life live (Dead b d) ≡ Dead b d
      go (inl e) = let zero_times : times r held' ≡ 0 = ap (times r) e in
          absurd (omega (arith, once))
      go (inr e) =
          let in_held : times r held ≡ 1 = ap (times r) (sym e.0) ∙ once in
          swept_dead live b d
          (any_weaker (reaches_life (Dead b d)) (is_older live) live
          (any_older (reaches_life (Dead b d)) live last e.1
          (desk.reached r (Dead b d) at (omega arith))))

  -- what it does not look at is reached by a live version that is not the newest
  pub held_older : (live held' : List ℕ)
      → ((held' ≡ [])
      ⊎ ((held' ≡ held)
      × (list_all (λ v. list_any (λ w. w == v) live && is_older live v) last ≡ true)))
      → AllOlder live lives held'
  held_older live held' (inl e) r x at some = let none : times r held' ≡ 0 = ap (times r) e in
      absurd (omega (arith, some))
  held_older live held' (inr e) r x at some =
      let same : times r held' ≡ times r held = ap (times r) e.0 in
      any_older (reaches_life x) live last e.1 (desk.reached r x at (omega (arith, some)))

  -- after a sweep, with live versions remembered that reach what is held
  pub desk_swept : (live : List ℕ) (new : List Life) (free' : List Bool)
      (dead' held' last' : List ℕ) (dc' hc' mc' : ℕ) → new ≡ map (swept_life live) lives
      → free' ≡ map is_free new → Lists is_dead new held' → dead' ≡ [] → AllReached last' new held'
      → dc' ≡ dc → hc' ≡ hc → mc' ≡ mc → IsDesk current versions new free' dead' held' last' vc lc
      dc' hc' mc'
  desk_swept live new free' dead' held' last' dc' hc' mc' is f lists e l d h m =
      let len : length new ≡ length lives = ap (λ (ls : List Life). length ls) is ∙ length_mapped
      (swept_life live) lives in
      record {
        there = desk.there;
        small = desk.small;
        few = omega (arith, len, desk.few);
        free_rows = f;
        dead_rows = λ r. ap (λ (rows : List ℕ). times r (rows ++ held')) e ∙ lists r;
        reached = l;
        versions_room = desk.versions_room;
        lives_room = omega (arith, len, desk.lives_room);
        dead_room = omega (arith, len, desk.dead_room);
        held_room = omega (arith, len, desk.held_room);
        last_room = omega (arith, m, desk.last_room);
      }

  -- after a sweep, with all rows to be looked at again
  pub desk_forgot : (live : List ℕ) (new : List Life) (free' : List Bool)
      (dead' held' last' : List ℕ) (dc' hc' mc' : ℕ) → new ≡ map (swept_life live) lives
      → free' ≡ map is_free new → Lists is_dead new dead' → held' ≡ [] → dc' ≡ hc → hc' ≡ dc
      → mc' ≡ mc → IsDesk current versions new free' dead' held' last' vc lc dc' hc' mc'
  desk_forgot live new free' dead' held' last' dc' hc' mc' is f lists e d h m =
      let len : length new ≡ length lives = ap (λ (ls : List Life). length ls) is ∙ length_mapped
      (swept_life live) lives in
      record {
        there = desk.there;
        small = desk.small;
        few = omega (arith, len, desk.few);
        free_rows = f;
        dead_rows = λ r. ap (λ (rows : List ℕ). times r (dead' ++ rows)) e
            ∙ ap (times r) (append-nil dead') ∙ lists r;
        reached = λ r x at some. absurd (omega (arith, ap (times r) e));
        versions_room = desk.versions_room;
        lives_room = omega (arith, len, desk.lives_room);
        dead_room = omega (arith, len, desk.held_room);
        held_room = omega (arith, len, desk.dead_room);
        last_room = omega (arith, m, desk.last_room);
      }

-- ---- a new desk

flags_free : (n : ℕ) → replicate n true ≡ map is_free (replicate n Free)
flags_free zero = refl
flags_free (suc n) = ap (λ (bs : List Bool). true ∷ bs) (flags_free n)

none_dead : (n k : ℕ) → 0 ≡ bit (is_at is_dead (slice_get (replicate n Free) k))
none_dead zero k = refl
none_dead (suc n) zero = refl
none_dead (suc n) (suc k) = none_dead n k

length_copies : {X : Type 0} (n : ℕ) (x : X) → length (replicate n x) ≡ n
length_copies zero x = refl
length_copies (suc n) x = omega (arith, length_copies n x)

first_of : (n v : ℕ) → 0 < n → slice_index (replicate n v) 0 ≡ v
first_of zero v lt = absurd (omega arith)
first_of (suc n) v lt = refl

pub desk_new : (versions : List ℕ) (lives : List Life) (free : List Bool) (dead held last : List ℕ)
    (vc lc dc hc mc rows records first : ℕ) → rows ≤ 65535 → 0 < records → first < 2 ^ 63
    → versions ≡ replicate records first → lives ≡ replicate rows Free → free ≡ replicate rows true
    → dead ≡ [] → held ≡ [] → vc ≡ records → lc ≡ rows → dc ≡ rows → hc ≡ rows → mc ≡ records
    → IsDesk 0 versions lives free dead held last vc lc dc hc mc
desk_new versions lives free dead held last vc lc dc hc mc rows records first few some small vs ls
    fs ds hs v l d h m =
    let len : length lives ≡ rows = ap (λ (l : List Life). length l) ls ∙ length_copies rows Free in
    let many : length versions ≡ records = ap (λ (l : List ℕ). length l) vs ∙ length_copies records
    first in
    record {
      there = omega (arith, many);
      small = omega (arith, ap (λ (l : List ℕ). slice_index l 0) vs, first_of records first some);
      few = omega (arith, len);
      free_rows = fs ∙ flags_free rows ∙ ap (map is_free) (sym ls);
      dead_rows = λ r. ap (λ (l : List ℕ). times r (l ++ held)) ds ∙ ap (times r) hs
          ∙ none_dead rows r ∙ ap (λ (l : List Life). bit (is_at is_dead (slice_get l r))) (sym ls);
      reached = λ r x at much. absurd (omega (arith, ap (times r) hs));
      versions_room = omega (arith, many);
      lives_room = omega (arith, len);
      dead_room = omega (arith, len);
      held_room = omega (arith, len);
      last_room = omega (arith, many);
    }

-- what is read at an index
pub read_is : {X : Type 0} (xs : List X) (i : ℕ) (x y : X) → y ≡ get_or xs i y → slice_get xs i
    ≡ Some x → y ≡ x
read_is xs i x y e at = e ∙ get_or_from_slice_get xs i x y at

pub read_index : (xs : List ℕ) (i y : ℕ) → i < length xs → y ≡ get_or xs i y → y ≡ get_or xs i 0
read_index xs i y lt e =
    e ∙ sym (get_or_from_slice_get xs i (get_or xs i y) 0 (slice_get-get_or xs i y lt))
