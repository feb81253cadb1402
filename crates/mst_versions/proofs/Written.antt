-- From the turn that was begun to what the pass knows after its write.
use Rattle.mst_versions.proofs.Names.{◌≡◌, ℕ, ◌+◌, ◌<◌, ◌≤◌, Bool, cond, List, [], ◌∷◌, ◌++◌, length, map, slice_index, Option, Some, true, false, refl, sym, ap, ◌∙◌, subst, arith, eq-eqb, dite, ℕ_discrete, Format, Change, Event, History, after, format_after, Reply, events_of, version, reaches, free_count, swept_life, last_version, numbers, Life, Free, Born, Dead, Root, In, one_row, View, Seated, IsSameSeat, content_of, in_nothing, within, Turn, NoRoom, SeatState, IsLiveVersion, AreLiveVersions, LeavesFree, HasTurn, Begun, Added, known, AtSeat, made_at_seat, rows_of, rows_taken, Made, LacksRows, Refuses}
use Rattle.std.proofs.lemmas.List.Elements.{All-append, All-cons}
use Rattle.mst_key.specs.History.{reply_of}
use Rattle.mst_key.proofs.HistoryLaws.{events_of-append}
use Rattle.mst_path.specs.Versions.{HasMap}
use Rattle.mst_path.proofs.lemmas.rows.Taking.{frees, frees_is}
use Rattle.mst_path.proofs.lemmas.versions.Versions.{room_alone, rows_of_map}
use Rattle.mst_words.specs.Notes.{IsOfPasses}
use Rattle.mst_versions.specs.Known.{Known, Looks}
use Rattle.mst_versions.specs.Writes.{AreFound, FindsRoom, LacksRoomBeside, WroteAtSeat}
use Rattle.mst_versions.proofs.Asked.{in_last}
use Rattle.mst_versions.proofs.Shown.{at_seat, store_at, store_is}

dead_more : (b d : ℕ) (life : Life) (old new : List Life) → frees old ≤ frees new
    → frees (Dead b d ∷ old) ≤ frees (life ∷ new)
unfolding frees
dead_more b d Free old new more = omega (arith, more)
dead_more b d (Born c) old new more = omega (arith, more)
dead_more b d (Dead c e) old new more = omega (arith, more)

-- a sweep leaves at least the rows free that were so
free_more : (live : List ℕ) (lives : List Life) → frees lives ≤ frees (map (swept_life live) lives)
unfolding frees
free_more live [] = omega arith
free_more live (Free ∷ lives) = omega (arith, free_more live lives)
free_more live (Born b ∷ lives) = omega (arith, free_more live lives)
free_more live (Dead b d ∷ lives) = dead_more b d (swept_life live (Dead b d)) lives
    (map (swept_life live) lives) (free_more live lives)

-- the free rows and those of the map are at most all rows
pub room_left : {A : Type 0} (t : Turn A) (m : SeatState) → HasTurn t m → free_count t.desk.lives
    + rows_of t.format (after m.0.seen) ≤ m.0.rows
room_left t m h =
    let has : HasMap t.format (content_of m.0) t.desk.lives (version t.desk) t.root
    (after m.0.seen) = record { stands = h.stands; rows = h.reached } in
    let all = room_alone t.format (content_of m.0) t.desk t.root (after m.0.seen) h.settled has in
    let live = version t.desk ∷ [] in
    omega (
      arith,
      all,
      free_more live t.desk.lives,
      frees_is t.desk.lives,
      frees_is
          (map (swept_life live) t.desk.lives),
      h.holds.rows_is,
    )

none_of : (r : ℕ) (xs : List ℕ) → length xs < 1 → In r xs → ⊥
none_of r [] few within = in_nothing r within
none_of r (x ∷ xs) few within = omega (arith, few)

-- if no other record was found pinned, only the current version is live
alone_live : {A : Type 0} (t : Turn A) (m : SeatState) → HasTurn t m → length m.0.blocked < 1
    → AreLiveVersions t.desk m.0 (version t.desk ∷ [])
alone_live t m h none v = (
  (λ i. subst (IsLiveVersion t.desk m.0) (sym (one_row v (version t.desk) i)) h.now),
  (λ (r, l, out, is). dite (ℕ_discrete r t.desk.current)
      (λ e. subst (λ (n : ℕ). In n (version t.desk ∷ []))
      (sym (is ∙ ap (λ (k : ℕ). slice_index t.desk.versions k) e))
      (in_last (version t.desk) []))
      (λ other. absurd (none_of r m.0.blocked none (h.live r l out other)))),
)

-- so all rows but those of the map are free
pub room_alone_left : {A : Type 0} (t : Turn A) (m : SeatState) → HasTurn t m → length m.0.blocked
    < 1
    → free_count t.desk.lives + rows_of t.format (after m.0.seen) ≡ m.0.rows
room_alone_left t m h none =
    let v = version t.desk in
    let all = h.count (v ∷ []) (numbers h.stands) (alone_live t m h none) h.stands.tree.once
    (λ x. (
      (λ (w, i, is). (h.reached x).0
          (subst (λ (n : ℕ). reaches t.desk.lives n x ≡ true) (one_row w v i) is)),
      (λ i. (v, in_last v [], (h.reached x).1 i)),
    )) in
    omega (arith, all, rows_of_map t.format (content_of m.0) t.root (after m.0.seen) h.stands)

-- each event is of a pass of the store, and so is that of one that follows
pub one_longer : (passes : ℕ) (log : History) (e : Event) → IsOfPasses passes log → 0 < e.pass
    → e.pass ≤ passes → IsOfPasses passes (log ++ e ∷ [])
one_longer passes log e alone pos low = All-append (λ (d : Event). (0 < d.pass) × (d.pass ≤ passes))
    log (e ∷ []) alone (All-cons (λ (d : Event). (0 < d.pass) × (d.pass ≤ passes)) e [] (pos, low)
    (λ k d l. absurd (omega arith)))

-- the event is the pass's own
pub own_event : (m m' : SeatState) (e : Event) → e.pass ≡ m.0.number → m'.0.number ≡ m.0.number
    → made_at_seat m' e.change ≡ e
own_event m m' e mine same = ap (λ (p : ℕ). record { pass = p; change = e.change })
    (same ∙ sym mine)

pub one_event : (number : ℕ) (change : Change)
    → events_of number (record { pass = number; change = change } ∷ [])
    ≡ record { pass = number; change = change } ∷ []
one_event number change =
    let e : Event = record { pass = number; change = change } in
    ap (λ (own : Bool). cond own (e ∷ []) []) (eq-eqb number number refl)

module _ {A : Type 0} (m m1 : SeatState) (t : Turn A) (b : Begun m t m1) where
  -- the format of the current version
  pub format_now : t.format ≡ format_after m.0.format m1.0.seen
  format_now = b.has.format ∙ ap (λ (v : View). format_after v.format m1.0.seen) b.rest

  leaves : LeavesFree m.0.format t.desk.lives m1.0.seen m1.0.found t.live m1.0.rows
  leaves = subst (λ (f : Format). LeavesFree f t.desk.lives m1.0.seen m1.0.found t.live m1.0.rows)
      (ap (λ (v : View). v.format) b.rest) b.has.leaves

  -- the versions that were found pinned
  pub are_found : AreFound m.0.passes m1.0.seen m1.0.found
  are_found = record {
    few = (let as_many = leaves.as_many in let number = b.has.number in let fewer =
        b.has.fewer in let k = ap (λ (v : View). v.passes) b.rest in
        omega (arith, as_many, number, fewer, k));
    below = λ v has. leaves.below v (within v m1.0.found has);
  }

  -- the versions that are live leave too few rows free
  lacks_beside : (change : Change) → LacksRows change t m1 → LacksRoomBeside m.0.format m.0.rows
      m.0.passes
      m1.0.seen m1.0.found change
  lacks_beside change lacks =
      let left = leaves.left in let n = ap (λ (v : View). v.rows) b.rest in
      let taken =
      subst (λ (f : Format). free_count t.desk.lives < rows_taken f (after m1.0.seen) change)
      format_now lacks in record {
        are = are_found;
        fits = omega (arith, left, n);
        costs = omega (arith, taken);
        lacks = omega (arith, left, taken, n);
      }

  -- or enough
  pub finds_room : (change : Change) → rows_taken t.format (after m1.0.seen) change ≤ free_count
      t.desk.lives → FindsRoom m.0.format m.0.rows m.0.passes m1.0.seen m1.0.found change
  finds_room change enough =
      let left = leaves.left in let n = ap (λ (v : View). v.rows) b.rest in
      let taken =
      subst (λ (f : Format). rows_taken f (after m1.0.seen) change ≤ free_count t.desk.lives)
      format_now enough in record {
        are = are_found;
        fits = omega (arith, left, taken, n);
      }

-- a seat that has made this version shows its pass, once the turn was given back or the version
-- published
module _ {A : Type 0} (s : Seated) (m1 : SeatState) (t : Turn A) (b : Begun s.me t m1) (number : ℕ)
    (mine : s.me.0.number ≡ number) where
  passes_kept : m1.0.passes ≡ s.me.0.passes
  passes_kept = ap (λ (v : View). v.passes) b.rest

  mine_kept : m1.0.mine ≡ s.me.0.mine
  mine_kept = ap (λ (v : View). v.mine) b.rest

  own_now : events_of number m1.0.seen ≡ s.me.0.mine
  own_now = ap (λ (n : ℕ). events_of n m1.0.seen) (sym mine) ∙ b.own

  -- the seat that gave the turn back, with what it noted and found of pins meanwhile
  abbrev pub gave : Option ℕ → List ℕ → ℕ → Seated
  gave noted found asked = record s {
    me = (record m1.0 { noted = noted; found = found; asked = asked; turn = false }, []);
  }

  pub looks : (noted : Option ℕ) (found : List ℕ) (asked : ℕ)
      → AtSeat Looks number s (gave noted found asked)
  looks noted found asked made = record {
    same = (ap (λ (v : View). store_at s.table v.rows v.passes v.format) b.rest, refl);
    later = b.later;
    mine = mine_kept;
    own = own_now ∙ sym mine_kept;
    alone = subst (λ (n : ℕ). IsOfPasses n m1.0.seen) (sym passes_kept) b.alone;
    missed = ap (λ (v : View). v.missed) b.rest;
    made = refl;
  }

  abbrev pub gave_back : Seated
  gave_back = gave m1.0.noted m1.0.found m1.0.asked

  pub looks_back : AtSeat Looks number s gave_back
  looks_back = looks m1.0.noted m1.0.found m1.0.asked

  pub lacks_room : (change : Change) → length m1.0.seen < last_version → LacksRows change t m1
      → AtSeat (Refuses NoRoom change) number s gave_back
  lacks_room change early lacks made = (
    looks_back made,
    early,
    (λ alone. subst (λ (f : Format). m1.0.rows < rows_of f (after m1.0.seen)
        + rows_taken f (after m1.0.seen) change) b.has.format
        (let one : s.me.0.passes ≡ 1 = alone in let fewer = b.has.fewer in
        let all = room_alone_left t m1 b.has (omega (arith, fewer, passes_kept, one)) in
        omega (arith, all, lacks))),
    b.asked,
    lacks_beside s.me m1 t b change lacks,
  )

  -- the turn was given back with the history as it was
  module _ (m2 : SeatState) (z : Seated) (same : IsSameSeat s z) (still : m2 ≡ m1)
      (back : z.me ≡ (record m2.0 { turn = false }, [])) where
    pub given_back : (Holds : Known → Known → Type 0) → AtSeat Holds number s gave_back
        → AtSeat Holds number s z
    given_back Holds holds made =
        subst (λ (x : Seated). Holds (known number made s) (known number made x))
        (sym (at_seat s z gave_back.me same
        (back ∙ ap (λ (m : SeatState). (record m.0 { turn = false }, [])) still))) (holds made)

    pub refused : (change : Change) → length m1.0.seen < last_version → LacksRows change t m1
        → AtSeat (Refuses NoRoom change) number s z
    refused change early lacks = given_back (Refuses NoRoom change) (lacks_room change early lacks)

  -- the version that was made is published
  pub wrote : (change : Change) (root : Root) (answered : Reply) (t' : Turn A) (m2 : SeatState)
      (z : Seated) (v : ℕ) → IsSameSeat s z → Made change t m1 root answered t' m2
      → Added (record { pass = number; change = change }) m2 z.me → v ≡ length z.me.0.seen
      → length m1.0.seen < last_version → WroteAtSeat number change s answered v z
  wrote change root answered t' m2 z v same made added v_is early before =
      let e : Event = record { pass = number; change = change } in
      let room = room_left t m1 b.has in
      let rows_kept = ap (λ (v : View). v.rows) b.rest in
      let now : z.me.0.seen ≡ m1.0.seen ++ e ∷ [] =
      added.seen ∙ ap (λ (m : SeatState). m.0.seen ++ e ∷ []) made.kept in
      let longer : z.me.0.mine ≡ s.me.0.mine ++ e ∷ [] =
      added.mine ∙ ap (λ (m : SeatState). m.0.mine ++ e ∷ []) made.kept
      ∙ ap (λ (log : History). log ++ e ∷ []) mine_kept in
      let passes_is : z.me.0.passes ≡ s.me.0.passes =
      added.free.5 ∙ ap (λ (m : SeatState). m.0.passes) made.kept ∙ passes_kept in
      let dealt = b.dealt in
      record {
        log = m1.0.seen;
        same = (
          store_is s z same.0
              (added.free.4 ∙ ap (λ (m : SeatState). m.0.rows) made.kept ∙ rows_kept) passes_is
              (added.free.6 ∙ ap (λ (m : SeatState). m.0.format) made.kept
              ∙ ap (λ (v : View). v.format) b.rest),
          refl,
        );
        later = b.later;
        seen = now;
        answer = made.answer ∙ ap (λ (v : View).
            reply_of (format_after v.format m1.0.seen) (after m1.0.seen) change) b.rest;
        mine = longer;
        own = ap (events_of number) now ∙ events_of-append number m1.0.seen (e ∷ [])
            ∙ ap (λ (log : History). events_of number m1.0.seen ++ log) (one_event number change)
            ∙ ap (λ (log : History). log ++ e ∷ []) own_now ∙ sym longer;
        alone = subst (λ (n : ℕ). IsOfPasses n z.me.0.seen) (sym passes_is)
            (subst (IsOfPasses s.me.0.passes) (sym now)
            (one_longer s.me.0.passes m1.0.seen e b.alone
            (let pos = dealt.0 in omega (arith, mine, pos))
            (let low = dealt.1 in omega (arith, mine, low))));
        numbered = early;
        room = subst (λ (f : Format). rows_of f (after m1.0.seen) + rows_taken f (after m1.0.seen)
            change ≤ s.me.0.rows) (format_now s.me m1 t b)
            (let taken = made.rows in omega (arith, room, taken, rows_kept));
        beside = subst (λ (found : List ℕ). FindsRoom s.me.0.format s.me.0.rows s.me.0.passes
            m1.0.seen found change)
            (sym (added.found ∙ ap (λ (m : SeatState). m.0.found) made.kept))
            (finds_room s.me m1 t b change (let taken = made.rows in omega (arith, taken)));
        asked =
            (let last = added.asked in let same_asked = ap (λ (m : SeatState). m.0.asked) made.kept
            in let first = b.asked in omega (arith, last, same_asked, first));
        missed = added.missed ∙ ap (λ (m : SeatState). m.0.missed) made.kept
            ∙ ap (λ (v : View). v.missed) b.rest;
        made = ap Some v_is;
      }
