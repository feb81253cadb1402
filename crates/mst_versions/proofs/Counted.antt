-- From the turn that was begun to how many rows the map takes, and how many are free.
use Rattle.mst_versions.proofs.Names.{◌≡◌, ℕ, ◌+◌, ◌-◌, ◌*◌, ◌<◌, ◌≤◌, eqb, if◌then◌else◌, List, [], ◌∷◌, ◌++◌, length, length-append, is_some, Option, Some, None, Bool, true, false, refl, sym, ap, ◌∙◌, subst, ⊎_elim, arith, eq-eqb, nat_tests, Format, after, format_after, free_count, In, in_either, one_row, View, Seated, IsSameSeat, NotesCurrent, AsksCurrent, found_now, in_nothing, within, Turn, SeatState, HoldsDesk, HasTurn, Begun, known, AtSeat, rows_of}
use Rattle.std.proofs.Common.{◌%◌, IfSome}
use Rattle.std.proofs.lemmas.Nat.{mod-mul-add}
use Rattle.mst_pin.specs.WordParts.{masks}
use Rattle.mst_words.proofs.Members.{contained}
use Rattle.mst_versions.specs.Counting.{Counts, CountsFree}
use Rattle.mst_versions.proofs.Shown.{at_seat}
use Rattle.mst_versions.proofs.Written.{room_left, room_alone_left, are_found, gave, looks, looks_back, given_back}

-- what the holder of the turn has at hand does not depend on what it noted and found of pins
still : {A : Type 0} (t : Turn A) (m : SeatState) (noted : Option ℕ) (found : List ℕ) (asked : ℕ)
    → HoldsDesk t m → HoldsDesk t (record m.0 { noted = noted; found = found; asked = asked }, m.1)
still t m noted found asked k =
    record {
      holder = k.holder;
      slot = k.slot;
      known = k.known;
      few = k.few;
      short =
          k.short;
      current = k.current;
      rows_is = k.rows_is;
      records = k.records;
      version_is =
          k.version_is;
      earlier = k.earlier;
      agrees = k.agrees;
      into_drained = k.into_drained;
      into_in =
          k.into_in;
      into_other = k.into_other;
    }

-- ---- lists with no members

no_members : (xs : List ℕ) → length xs < 1 → xs ≡ []
no_members [] few = refl
no_members (x ∷ xs) few = absurd (omega (arith, few))

some_of : (o : Option ℕ) → is_some o ≡ true → (k : ℕ) × (o ≡ Some k)
some_of None is = absurd (let c : false ≡ true = is in cc)
some_of (Some k) is = (k, refl)

-- ---- whether the current version was found pinned

module _ (noted done version : ℕ) where
  unpinned : noted % masks ≡ done → found_now (Some noted) done version ≡ []
  unpinned same = ap (λ (b : Bool). if b then [] else version ∷ [])
      (eq-eqb (noted % masks) done same)

  is_unpinned : length (found_now (Some noted) done version) ≡ 0 → noted % masks ≡ done
  is_unpinned none = go (eqb (noted % masks) done) refl none
    where
      go : (b : Bool) → eqb (noted % masks) done ≡ b → length (if b then [] else version ∷ []) ≡ 0
          → noted % masks ≡ done
      go true e is = grind (arith, nat_tests)
      go false e is = absurd (omega (arith, is))

  pub at_most_one : length (found_now (Some noted) done version) ≤ 1
  at_most_one = go (eqb (noted % masks) done)
    where
      go : (b : Bool) → length (if b then [] else version ∷ []) ≤ 1
      go true = omega arith
      go false = omega arith

  pub it_is : (v : ℕ) → In v (found_now (Some noted) done version) → v ≤ version
  it_is v = go (eqb (noted % masks) done)
    where
      go : (b : Bool) → In v (if b then [] else version ∷ []) → v ≤ version
      go true i = absurd (in_nothing v i)
      go false i = let e = one_row v version i in omega (arith, e)

module _ (m1 m2 m3 : SeatState) (noted done : ℕ) (n : NotesCurrent m1 noted m2)
    (a : AsksCurrent m2 done m3) where
  -- after both loads
  pub asked_both : m3
      ≡ (
        record m1.0 {
          noted = Some noted;
          found =
              m1.0.found ++ found_now (Some noted) done (length m1.0.seen);
          asked =
              m1.0.asked + 1 + 1;
        },
        m1.1,
      )
  asked_both =
      a.is ∙ ap (λ (z : SeatState). (
        record z.0 {
          found = z.0.found ++ found_now z.0.noted done (length z.0.seen);
          asked =
              z.0.asked + 1;
        },
        z.1,
      )) n.is

module _ {A : Type 0} (t : Turn A) (m1 m2 m3 : SeatState) (noted done : ℕ)
    (n : NotesCurrent m1 noted m2)
    (a : AsksCurrent m2 done m3) where
  -- the versions that were found pinned
  abbrev all_found : List ℕ
  all_found = m1.0.found ++ found_now (Some noted) done (length m1.0.seen)

  both : m3
      ≡ (record m1.0 { noted = Some noted; found = all_found; asked = m1.0.asked + 1 + 1 }, m1.1)
  both = asked_both m1 m2 m3 noted done n a

  pub still_holds : HasTurn t m1 → HoldsDesk t m3
  still_holds h =
      subst (HoldsDesk t) (sym both)
      (still t m1 (Some noted) all_found (m1.0.asked + 1 + 1) h.holds)

  -- in a store of one pass the mask that was noted is what the record's word says
  same_mask : m1.0.passes ≡ 1 → noted % masks ≡ done
  same_mask one =
      let word : m2.0.noted ≡ Some (m2.0.desk.current * masks + n.mask) =
      ap (λ (z : SeatState). z.0.noted) n.is ∙ ap Some n.found
      ∙ ap (λ (z : SeatState). Some (z.0.desk.current * masks + n.mask)) (sym n.is) in
      ap (λ (z : ℕ). z % masks) n.found ∙ mod-mul-add m1.0.desk.current masks n.mask n.small
      ∙ sym (a.alone (ap (λ (z : SeatState). z.0.passes) n.is ∙ one) n.mask n.small word)

  pub counted : (s z : Seated) (b : Begun s.me t m1) (number : ℕ) → s.me.0.number ≡ number
      → IsSameSeat s z → z.me ≡ (record m3.0 { turn = false }, [])
      → (found : Option ℕ) (used : ℕ) → used + free_count t.desk.lives ≡ s.me.0.rows
      → (t.live ≡ 1 → noted % masks ≡ done → found ≡ Some used)
      → IfSome found (λ k. (k ≡ used) × (t.live ≡ 1) × (noted % masks ≡ done))
      → AtSeat (Counts found) number s z
  counted s z b number mine same back found used all lone only made =
      let m = s.me in
      let w = gave s m1 t b number mine (Some noted) all_found (m1.0.asked + 1 + 1) in
      let z_is : z ≡ w = at_seat s z w.me same
      (back ∙ ap (λ (x : SeatState). (record x.0 { turn = false }, [])) both) in
      let as_many = b.has.leaves.as_many in
      let lengths = length-append m1.0.found (found_now (Some noted) done (length m1.0.seen)) in
      subst (λ (x : Seated). Counts found (known number made s) (known number made x)) (sym z_is)
      record {
        looks = looks s m1 t b number mine (Some noted) all_found (m1.0.asked + 1 + 1) made;
        number =
            λ k is. (let o =
            subst (λ (z : Option ℕ). IfSome z
            (λ i. (i ≡ used) × (t.live ≡ 1) × (noted % masks ≡ done))) is only in let f =
            b.has.number in let r = ap (λ (v : View). v.rows) b.rest in
            let map_is = room_alone_left t m1 b.has (omega (arith, f, o.1)) in
            let here : k ≡ rows_of t.format (after m1.0.seen) =
            omega (arith, all, o.0, map_is, r) in
            here ∙ ap (λ (f : Format). rows_of f (after m1.0.seen)) b.has.format);
        alone =
            λ one. (let is_one : s.me.0.passes ≡ 1 = one in
            let p = ap (λ (v : View). v.passes) b.rest in let f = b.has.fewer in let k =
            b.has.number in ap is_some (lone (omega (arith, f, k, p, is_one))
            (same_mask (p ∙ is_one))));
        exact = (
          (λ is. let some = some_of found is in let o =
              subst (λ (z : Option ℕ). IfSome z
              (λ i. (i ≡ used) × (t.live ≡ 1) × (noted % masks ≡ done))) some.1 only in let kept =
              o.1 in
              ap (λ (z : List ℕ). z ++ found_now (Some noted) done (length m1.0.seen))
              (no_members m1.0.found (omega (arith, as_many, kept))) ∙ unpinned noted done
              (length m1.0.seen) o.2),
          (λ none. let no_length : length all_found ≡ 0 = ap (λ (z : List ℕ). length z) none in
              ap is_some (lone (omega (arith, as_many, lengths, no_length))
              (is_unpinned noted done (length m1.0.seen) (omega (arith, lengths, no_length))))),
        );
        are = record {
          few =
              (let first = (are_found m m1 t b).few in let last =
              at_most_one noted done (length m1.0.seen) in omega (arith, first, last, lengths));
          below =
              λ v has. ⊎_elim (λ first. (are_found m m1 t b).below v (contained v m1.0.found first))
              (λ last. it_is noted done (length m1.0.seen) v last)
              (in_either v m1.0.found (found_now (Some noted) done (length m1.0.seen))
              (within v all_found has));
        };
        asked = (let k = b.asked in omega (arith, k));
      }

-- the rows that are not free, and those that are, are all rows
pub all_rows : {A : Type 0} (m m1 : SeatState) (t : Turn A) → Begun m t m1 → (all free : ℕ)
    → all ≡ m.0.rows → free ≡ free_count t.desk.lives → all - free + free_count t.desk.lives
    ≡ m.0.rows
all_rows m m1 t b all free is counted = let l = room_left t m1 b.has in let r =
    ap (λ (v : View). v.rows) b.rest in omega (arith, l, r, is, counted)

module _ {A : Type 0} (s : Seated) (m1 : SeatState) (t : Turn A) (b : Begun s.me t m1) (number : ℕ)
    (mine : s.me.0.number ≡ number) (free : ℕ) (is : free ≡ free_count t.desk.lives) where
  -- if no version was found pinned, the map alone holds rows
  all_mapped : m1.0.found ≡ []
      → free + rows_of (format_after m1.0.format m1.0.seen) (after m1.0.seen) ≡ m1.0.rows
  all_mapped none = subst (λ (f : Format). free + rows_of f (after m1.0.seen) ≡ m1.0.rows)
      b.has.format
      (let as_many = b.has.leaves.as_many in let number = b.has.number in
      let no_length : length m1.0.found ≡ 0 = ap (λ (z : List ℕ). length z) none in
      let map_is = room_alone_left t m1 b.has (omega (arith, as_many, number, no_length)) in
      omega (arith, map_is, is))

  -- the rows that are free, and those that the live versions hold, are all rows
  pub counted_free : (z : Seated) → IsSameSeat s z → z.me ≡ (record m1.0 { turn = false }, [])
      → AtSeat (CountsFree free) number s z
  counted_free z same back =
      given_back s m1 t b number mine m1 z same refl back (CountsFree free)
      (λ made. record {
        looks = looks_back s m1 t b number mine made;
        are = are_found s.me m1 t b;
        left = (let left = b.has.leaves.left in omega (arith, left, is));
        alone = all_mapped;
        asked = b.asked;
      })
