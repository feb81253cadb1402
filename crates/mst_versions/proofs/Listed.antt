-- From the records that were asked to the list of the versions that were found pinned.
use Rattle.mst_versions.proofs.Names.{◌≡◌, ℕ, ◌+◌, ◌<◌, ◌≤◌, Bool, true, false, cond, ◌||◌, List, [], ◌∷◌, ◌++◌, length, length-append, get_or, slice_index, Option, Some, None, refl, sym, ap, ◌∙◌, subst, ⊎_elim, arith, dite, ℕ_discrete, list_any, take_all, History, events_of, State, version, In, in_either, View, Seated, IsSameSeat, IsGiving, Takes, NotesCurrent, AsksCurrent, found_now, stored, state_of, desk_state, in_later, within, Asked, HasAsked, AsksOnly, AsksEach, known, AtSeat, added, IsListing, SeatState, StoodAtAsk, TakesDesk}
use Rattle.std.proofs.Common.{nat_eq, take, drop}
use Rattle.std.specs.Cmp.{nat_eq_equiv}
use Rattle.std.specs.List.{IsDistinct}
use Rattle.std.specs.List.Sorted.{IsPermutation, IsNonDecreasing}
use Rattle.std.proofs.lemmas.Bool.Decides.{Decides-eqb}
use Rattle.std.proofs.lemmas.List.Folds.{list_any-append, list_any_more}
use Rattle.std.proofs.lemmas.List.Sorted.{IsPermutation-sym, Contains-permutation, length_permutation}
use Rattle.std.proofs.lemmas.Map.Keys.{IsDistinct-push, IsDistinct-IsPermutation, IsStrictlyIncreasing-from_distinct}
use Rattle.std.proofs.lemmas.Map.Steps.{list_any_congr}
use Rattle.std.proofs.lemmas.Map.Views.{Contains-from_any, list_any-from_Contains}
use Rattle.mst_words.specs.Steps.{IsFree}
use Rattle.mst_versions.specs.Listing.{AsksAll, FindsPinned}
use Rattle.mst_versions.specs.Writes.{KeepsPass}
use Rattle.mst_versions.proofs.Asking.{none_drained, none_blocked, all_asked}
use Rattle.mst_versions.proofs.Counted.{at_most_one, it_is, asked_both}
use Rattle.mst_versions.proofs.Shown.{at_seat}
use Rattle.mst_versions.proofs.Slots.{desk_there}

-- ---- no version that was found pinned is above the last one

stood_below : (desk : State) (m : SeatState) (r v : ℕ) → m.0.desk.versions ≡ desk.versions
    → v ≡ slice_index desk.versions r → StoodAtAsk r m.0 → v ≤ length m.0.seen
stood_below desk m r v same is stood =
    let s = stood.2 in
    let number : v ≡ length stood.0 =
    is ∙ ap (λ (l : List ℕ). slice_index l r) (sym same) ∙ s.filed in
    let long : length m.0.seen ≡ length (stood.0 ++ s.begins.0) =
    ap (λ (h : History). length h) s.begins.1 in
    omega (arith, number, long, length-append stood.0 s.begins.0)

live_below : (n : ℕ) (desk : State) (a : Asked) (m : SeatState) → HasAsked n desk a m
    → version desk ≡ length m.0.seen → (v : ℕ) → In v a.live.items → v ≤ length m.0.seen
live_below n desk a m h last v i =
    ⊎_elim (λ (e : v ≡ version desk). omega (arith, e, last))
    (λ (t : (r : ℕ) × (r < n) × (In r m.0.drained → ⊥) × (v ≡ slice_index desk.versions r)).
    dite (ℕ_discrete t.0 desk.current)
    (λ same. (let e : v ≡ version desk =
    t.3 ∙ ap (λ (r : ℕ). slice_index desk.versions r) same in omega (arith, e, last)))
    (λ other. stood_below desk m t.0 v h.knows.versions t.3
    (h.stood t.0 (h.found t.0 t.1 other t.2))))
    (h.only v i)

-- ---- from the desk as it was taken to the turn given back

module _ (before : SeatState) (desk : State) (m : SeatState) (out : TakesDesk before desk m) where
  abbrev p : Takes (stored before.0.format) before out.0
  p = out.1

  same_desk : desk ≡ state_of p.desk
  same_desk = desk_there before out.0 p desk out.2

  -- the view of the holder of the turn, once it has asked
  abbrev asked_view : List ℕ → List ℕ → Option ℕ → List ℕ → ℕ → View
  asked_view drained blocked noted found asked =
      record before.0 {
        seen = p.log;
        known_words = p.words;
        turn = true;
        desk = p.desk;
        due =
            None;
        mask = 0;
        drained = drained;
        blocked = blocked;
        noted = noted;
        found = found;
        asked =
            asked;
      }

  has_out : m ≡ (asked_view [] [] None [] (before.0.asked + 1), (0, None) ∷ [])
  has_out = out.3 ∙ ap (λ (z : SeatState). (z.0, (0, None) ∷ [])) p.is

  -- the desk says which version is the last one
  version_now : version desk ≡ length m.0.seen
  version_now = ap version same_desk ∙ p.stands.filed
      ∙ ap (λ (z : SeatState). length z.0.seen) (sym has_out)

  -- the turn may be given back with the desk as it was
  giving : (drained blocked : List ℕ) (noted : Option ℕ) (found : List ℕ) (asked : ℕ)
      → IsGiving (stored before.0.format) (Some desk) (desk_state desk)
      (asked_view drained blocked noted found asked, (0, Some desk) ∷ [])
  giving drained blocked noted found asked =
      subst (λ (s : State). IsGiving (stored before.0.format) (Some s) (desk_state s)
      (asked_view drained blocked noted found asked, (0, Some s) ∷ [])) (sym same_desk)
      record {
        on = refl;
        settled = refl;
        slot = refl;
        is_desk = record {
          there = refl;
          rows_is = p.is_desk.rows_is;
          records = p.is_desk.records;
          settled = p.is_desk.settled;
          earlier = p.is_desk.earlier;
        };
        current = refl;
        agrees = λ r _ _. record {
          version = refl;
          reached = λ x h. h;
          exactly = λ x h. h;
          ages = λ x v _ _. ((λ is. is), (λ is. is));
        };
      }

  module _ (a : Asked) (m1 m2 m3 : SeatState) (passes noted done : ℕ) (size : passes ≡ m.0.passes)
      (kept : AsksOnly m m1) (h : HasAsked (passes + 2) desk a m1) (n : NotesCurrent m1 noted m2)
      (k : AsksCurrent m2 done m3) where
    -- the versions that were found pinned
    abbrev all_found : List ℕ
    all_found = m1.0.found ++ found_now (Some noted) done (length m1.0.seen)

    -- after all loads
    asked_is : m3
        ≡ (
          record m.0 {
            drained = m1.0.drained;
            blocked = m1.0.blocked;
            noted = Some noted;
            found =
                all_found;
            asked = m1.0.asked + 1 + 1;
          },
          m.1,
        )
    asked_is =
        asked_both m1 m2 m3 noted done n k ∙ ap (λ (z : SeatState). (
          record z.0 { noted = Some noted; found = all_found; asked = m1.0.asked + 1 + 1 },
          z.1,
        )) kept

    pub out_still : m3.1 ≡ (0, None) ∷ []
    out_still = ap (λ (z : SeatState). z.1) asked_is ∙ ap (λ (z : SeatState). z.1) has_out

    pub gives : IsGiving (stored m3.0.format) (Some desk) (desk_state desk)
        (m3.0, (0, Some desk) ∷ [])
    gives =
        let view_is : m3.0
        ≡ asked_view m1.0.drained m1.0.blocked (Some noted) all_found (m1.0.asked + 1 + 1) =
        ap (λ (z : SeatState). z.0) asked_is ∙ ap (λ (z : SeatState).
        record z.0 {
          drained = m1.0.drained;
          blocked = m1.0.blocked;
          noted = Some noted;
          found =
              all_found;
          asked = m1.0.asked + 1 + 1;
        }) has_out in
        subst (λ (v : View). IsGiving (stored v.format) (Some desk) (desk_state desk)
        (v, (0, Some desk) ∷ [])) (sym view_is)
        (giving m1.0.drained m1.0.blocked (Some noted) all_found (m1.0.asked + 1 + 1))

    seen_kept : m1.0.seen ≡ m.0.seen
    seen_kept = ap (λ (z : SeatState). z.0.seen) kept

    version_kept : version desk ≡ length m1.0.seen
    version_kept = version_now ∙ ap (λ (l : History). length l) (sym seen_kept)

    -- the others that were found pinned stand behind the current version in the list
    others : length m1.0.found < m.0.passes
    others =
        let live : length a.live.items ≡ length (version desk ∷ m1.0.found) =
        ap (λ (l : List ℕ). length l) h.live in
        let one : length (version desk ∷ m1.0.found) ≡ length m1.0.found + 1 = omega arith in
        let room = h.room in
        let fewer = h.fewer in
        let same : m1.0.passes ≡ m.0.passes = ap (λ (z : SeatState). z.0.passes) kept in
        omega (arith, live, one, room, fewer, same)

    module _ (m4 : SeatState) (gave : m4 ≡ (record m3.0 { turn = false }, [])) where
      gave_is : m4
          ≡ (
            record m.0 {
              turn = false;
              drained = m1.0.drained;
              blocked = m1.0.blocked;
              noted =
                  Some noted;
              found = all_found;
              asked = m1.0.asked + 1 + 1;
            },
            [],
          )
      gave_is = gave ∙ ap (λ (z : SeatState). (record z.0 { turn = false }, [])) asked_is

      found_is : m4.0.found ≡ all_found
      found_is = ap (λ (z : SeatState). z.0.found) gave_is

      -- what is returned is what the seat has found
      pub told : (items : List ℕ) (v : ℕ) → v ≡ version desk
          → items ≡ drop 1 a.live.items ++ found_now (Some noted) done v → items ≡ m4.0.found
      told items v is all =
          all ∙ ap (λ (l : List ℕ). drop 1 l ++ found_now (Some noted) done v) h.live
          ∙ ap (λ (n : ℕ). m1.0.found ++ found_now (Some noted) done n) (is ∙ version_kept)
          ∙ sym found_is

      below : (v : ℕ) → In v m4.0.found → v ≤ length m.0.seen
      below v i = subst (λ (l : History). v ≤ length l) seen_kept
          (⊎_elim (λ (first : In v m1.0.found). live_below (passes + 2) desk a m1 h version_kept v
          (subst (λ (l : List ℕ). In v l) (sym h.live)
          (in_later v (version desk) m1.0.found first)))
          (λ (last : In v (found_now (Some noted) done (length m1.0.seen))).
          it_is noted done (length m1.0.seen) v last)
          (in_either v m1.0.found (found_now (Some noted) done (length m1.0.seen))
          (subst (λ (l : List ℕ). In v l) found_is i)))

      pub asks_all : AsksEach m m1 → AsksAll m m4
      asks_all each = record {
        few = (let long = ap (λ (l : List ℕ). length l) found_is in
            let parts = length-append m1.0.found (found_now (Some noted) done (length m1.0.seen)) in
            let last = at_most_one noted done (length m1.0.seen) in
            omega (arith, long, parts, last, others));
        below = below;
        asked = (let now : m4.0.asked ≡ m1.0.asked + 1 + 1 =
            ap (λ (z : SeatState). z.0.asked) gave_is in
            let each_once = all_asked desk a m m1 passes size
            (none_drained before desk m out) (none_blocked before desk m out) kept each h in
            omega (arith, now, each_once, size));
        rest = gave_is ∙ sym (ap (λ (z : SeatState). (
          record m.0 {
            turn = false;
            drained = z.0.drained;
            blocked = z.0.blocked;
            noted =
                z.0.noted;
            found = z.0.found;
            asked = z.0.asked;
          },
          [],
        )) gave_is);
      }

-- ---- what the pass then knows

module _ (s z : Seated) (desk : State) (m1 : SeatState) (out : TakesDesk s.me desk m1)
    (a : AsksAll m1 z.me) where
  abbrev taken : Takes (stored s.me.0.format) s.me out.0
  taken = out.1

  abbrev left : SeatState
  left = (
    record s.me.0 {
      seen = taken.log;
      known_words = taken.words;
      turn = false;
      desk = taken.desk;
      due = None;
      mask = 0;
      drained = z.me.0.drained;
      blocked = z.me.0.blocked;
      noted = z.me.0.noted;
      found = z.me.0.found;
      asked = z.me.0.asked;
    },
    [],
  )

  taken_is : m1 ≡ (asked_view s.me desk m1 out [] [] None [] (s.me.0.asked + 1), (0, None) ∷ [])
  taken_is = has_out s.me desk m1 out

  back : z.me ≡ left
  back =
      a.rest ∙ ap (λ (x : SeatState). (
        record x.0 {
          turn = false;
          drained = z.me.0.drained;
          blocked = z.me.0.blocked;
          noted =
              z.me.0.noted;
          found = z.me.0.found;
          asked = z.me.0.asked;
        },
        [],
      )) taken_is

  pub keeps_pass : KeepsPass s.me z.me
  keeps_pass = (
    ap (λ (x : SeatState). x.0.number) back,
    ap (λ (x : SeatState). x.0.rows) back,
    ap (λ (x : SeatState). x.0.passes) back,
    ap (λ (x : SeatState). x.0.format) back,
    ap (λ (x : SeatState). x.0.told) back,
  )

  pub is_free : (number : ℕ) → IsFree number s.me → IsFree number z.me
  is_free number free = (
    ap (λ (x : SeatState). x.1) back,
    ap (λ (x : SeatState). x.0.turn) back,
    ap (λ (x : SeatState). x.0.pin) back ∙ free.2,
    ap (λ (x : SeatState). x.0.number) back ∙ free.3,
    free.4,
  )

  pub finds_pinned : (number : ℕ) → s.me.0.number ≡ number → IsSameSeat s z → (versions : List ℕ)
      → IsListing z.me.0.found versions → AtSeat (FindsPinned versions) number s z
  finds_pinned number mine same versions listing made =
      let passes : m1.0.passes ≡ s.me.0.passes = ap (λ (x : SeatState). x.0.passes) taken_is in
      let seen : m1.0.seen ≡ taken.log = ap (λ (x : SeatState). x.0.seen) taken_is in
      let first : m1.0.asked ≡ s.me.0.asked + 1 = ap (λ (x : SeatState). x.0.asked) taken_is in
      let few = a.few in
      let asked = a.asked in
      subst (λ (x : Seated). FindsPinned versions (known number made s) (known number made x))
      (sym (at_seat s z left same back))
      record {
        looks = record {
          same = (refl, refl);
          later = taken.later;
          mine = refl;
          own = ap (λ (n : ℕ). events_of n taken.log) (sym mine) ∙ taken.own;
          alone = taken.alone;
          missed = refl;
          made = refl;
        };
        listing = listing;
        are = record {
          few = omega (arith, few, passes);
          below = λ v has. subst (λ (l : History). v ≤ length l) seen
              (a.below v (within v z.me.0.found has));
        };
        asked = omega (arith, asked, passes, first);
      }

-- ---- the ascending list

or_false : (b : Bool) → (b || false) ≡ b
or_false true = refl
or_false false = refl

or_true : (b : Bool) → (b || true) ≡ true
or_true true = refl
or_true false = refl

-- the versions that stand at the first places, each once
pub record ListsFirst (found : List ℕ) (i : ℕ) (versions : List ℕ) : Type 0 where
  pub once : IsDistinct nat_eq versions
  pub same : (q : ℕ) → list_any (nat_eq q) versions ≡ list_any (nat_eq q) (take i found)
  pub few : length versions ≤ i

nothing_first : (found : List ℕ) → ListsFirst found 0 []
unfolding IsDistinct
nothing_first found = record { once = tt; same = λ q. refl; few = omega arith }

pub lists_none : (found versions : List ℕ) → versions ≡ [] → ListsFirst found 0 versions
lists_none found versions is =
    subst (λ (l : List ℕ). ListsFirst found 0 l) (sym is) (nothing_first found)

one_listed : (found versions : List ℕ) (i x : ℕ)
    → ((q : ℕ) → list_any (nat_eq q) (take (i + 1) found)
    ≡ (list_any (nat_eq q) versions || nat_eq q x))
    → ListsFirst found i versions → ListsFirst found (i + 1) (added versions x)
one_listed found versions i x more h = go (list_any (nat_eq x) versions) refl
  where
    among : list_any (nat_eq x) versions ≡ true → (q : ℕ) (b : Bool) → nat_eq q x ≡ b
        → list_any (nat_eq q) versions ≡ (list_any (nat_eq q) versions || b)
    among e q true is = list_any_congr nat_eq_equiv q x versions is ∙ e
        ∙ sym (or_true (list_any (nat_eq q) versions))
    among e q false other = sym (or_false (list_any (nat_eq q) versions))

    go : (b : Bool) → list_any (nat_eq x) versions ≡ b
        → ListsFirst found (i + 1) (cond b versions (versions ++ x ∷ []))
    go true e = record {
      once = h.once;
      same = λ q. among e q (nat_eq q x) refl ∙ sym (more q);
      few = (let few = h.few in omega (arith, few));
    }
    go false e = record {
      once = IsDistinct-push nat_eq_equiv versions x h.once e;
      same = λ q. list_any-append (nat_eq q) versions (x ∷ [])
          ∙ ap (λ (b : Bool). list_any (nat_eq q) versions || b) (or_false (nat_eq q x))
          ∙ sym (more q);
      few = (let few = h.few in omega (arith, few, length-append versions (x ∷ [])));
    }

pub lists_more : (found versions : List ℕ) (i d : ℕ) → i < length found
    → ListsFirst found i versions → ListsFirst found (i + 1) (added versions (get_or found i d))
lists_more found versions i d low h =
    one_listed found versions i (get_or found i d)
    (λ q. list_any_more (nat_eq q) found i d low
    ∙ ap (λ (b : Bool). b || nat_eq q (get_or found i d)) (sym (h.same q))) h

same_number : (x y : ℕ) → nat_eq x y ≡ true → x ≡ y
same_number x y is = (Decides-eqb x y).0 is

pub lists_all : (found versions sorted : List ℕ) (n : ℕ) → length found ≤ n → n ≤ length found
    → ListsFirst found n versions → IsPermutation versions sorted → IsNonDecreasing sorted
    → IsListing found sorted
lists_all found versions sorted n all none h moved rising =
    let same : (v : ℕ) → list_any (nat_eq v) versions ≡ list_any (nat_eq v) found =
    λ v. h.same v ∙ ap (λ (l : List ℕ). list_any (nat_eq v) l) (take_all n found all) in
    record {
      ascending = IsStrictlyIncreasing-from_distinct sorted rising
          (IsDistinct-IsPermutation nat_eq nat_eq_equiv.symm versions sorted moved h.once);
      exact = λ v. (
        (λ has. Contains-from_any same_number v found (sym (same v)
            ∙ list_any-from_Contains nat_eq_equiv v versions
            (Contains-permutation sorted versions v (IsPermutation-sym versions sorted moved)
            has))),
        (λ has. Contains-permutation versions sorted v moved
            (Contains-from_any same_number v versions
            (same v ∙ list_any-from_Contains nat_eq_equiv v found has))),
      );
      few = (let few = h.few in let long = length_permutation versions sorted moved in
          omega (arith, few, long, none));
    }
