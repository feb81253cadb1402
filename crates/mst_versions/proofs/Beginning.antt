-- What the holder of the turn has, once it has asked and swept.
use Rattle.mst_versions.proofs.Names.{◌≡◌, ℕ, ◌+◌, ◌<◌, ◌≤◌, ◌&&◌, Bool, true, List, [], ◌∷◌, length, map, slice_index, Option, Some, None, refl, sym, ap, ◌∙◌, subst, ⊎_elim, arith, dite, ℕ_discrete, slice_get, AllByRecursion, eq-eqb, lt-ltb, length-map, Format, format_after, State, version, reaches, free_count, swept_life, Free, IsDistinct, numbers, Root, In, HasPlace, same_swept, free_swept, View, row, field, Takes, contents_after, format_number, rows_in, root_in, stored, state_of, content_of, aged_frame, Asked, Turn, HasAsked, SeatState, StoodAtAsk, IsLiveVersion, AreLiveVersions, LeavesFree, HoldsDesk, HasTurn, each, in_later}
use Rattle.std.proofs.Common.{is_none, nat_lt}
use Rattle.std.specs.Prelude.{◌↔◌, IsTrue}
use Rattle.mst_node.specs.Stays.{held}
use Rattle.mst_path.specs.Reached.{TogetherReach, swept_by}
use Rattle.mst_path.proofs.lemmas.rows.FreeCounts.{count_swept}
use Rattle.mst_path.proofs.lemmas.versions.KeptRoom.{held_free}
use Rattle.mst_path.proofs.lemmas.versions.Reached.{settled_swept}
use Rattle.mst_words.specs.Layout.{table_words}
use Rattle.mst_words.specs.Records.{IsBlank}
use Rattle.mst_words.specs.Access.{is_unreached, may_write}
use Rattle.mst_words.proofs.Accesses.{blank_row}
use Rattle.mst_words.proofs.AgeFrames.{SameAges}
use Rattle.mst_versions.proofs.Asked.{some_drained}
use Rattle.mst_versions.proofs.Places.{reached_inside, place_of}
use Rattle.mst_versions.proofs.Pinning.{link_of_root, reads_all}
use Rattle.mst_versions.proofs.SweptLives.{free_inside, is_not, live_of, same_ages, same_rows, unreached}
use Rattle.mst_versions.proofs.Slots.{desk_there}

-- what the turn is made of
abbrev pub of_turn : {A : Type 0} → State → Root → Format → ℕ → ℕ → Turn A
of_turn {A} desk root format into live =
    record { desk = desk; root = root; format = format; into = into; live = live }

module _ (before taken : SeatState) (p : Takes (stored before.0.format) before taken) where
  -- the format of the current version
  abbrev pub format_there : Format
  format_there = format_after before.0.format p.log

  -- only what was asked has changed, and the desk is out of the slot
  abbrev pub IsAskedOf : SeatState → Type 0
  IsAskedOf m =
      m ≡ (
        record taken.0 {
          drained = m.0.drained;
          blocked = m.0.blocked;
          found = m.0.found;
          asked =
              m.0.asked;
        },
        (0, None) ∷ [],
      )

  -- the view, when some records were found drained and others pinned
  abbrev asked_view : List ℕ → List ℕ → List ℕ → ℕ → View
  asked_view drained blocked found asked =
      record before.0 {
        seen = p.log;
        known_words = p.words;
        turn = true;
        desk = p.desk;
        due =
            None;
        mask = 0;
        drained = drained;
        blocked = blocked;
        noted = None;
        found = found;
        asked =
            asked;
      }

  abbrev asked_seat : List ℕ → List ℕ → List ℕ → ℕ → SeatState
  asked_seat drained blocked found asked = (asked_view drained blocked found asked, (0, None) ∷ [])

  abbrev turn_of : {A : Type 0} → State → Asked → Root → Turn A
  turn_of {A} desk a root =
      record {
        desk = swept_by a.live.items desk;
        root = root;
        format = format_there;
        into =
            a.into;
        live = length a.live.items;
      }

  blank_free : (drained blocked found : List ℕ) (asked : ℕ) (a : Asked)
      → HasAsked (before.0.passes + 2) (state_of p.desk) a (asked_seat drained blocked found asked)
      → (x : ℕ)
      → slice_get (map (swept_life a.live.items) p.desk.lives) x ≡ Some Free
      → IsTrue (may_write (asked_view drained blocked found asked) x)
  blank_free drained blocked found asked a h x free =
      let inside : x < length p.desk.lives = free_inside a.live.items p.desk.lives x free in
      let lt : x < before.0.rows = (let r = p.is_desk.rows_is in omega (arith, inside, r)) in
      let pinless : before.0.pin ≡ None = h.knows.holder.1 in
      let none : is_unreached (asked_view drained blocked found asked) x ≡ true =
      unreached (before.0.passes + 2) (state_of p.desk) a
      (asked_seat drained blocked found asked) h p.is_desk.settled x free inside in
      ap (λ (b : Bool). b && nat_lt x before.0.rows && true && is_none before.0.pin && true
      && is_unreached (asked_view drained blocked found asked) x)
      (eq-eqb (length p.words) (table_words before.0.rows) p.wide)
      ∙ ap (λ (b : Bool). true && b && true && is_none before.0.pin && true && is_unreached
      (asked_view drained blocked found asked) x) (lt-ltb x before.0.rows lt)
      ∙ ap (λ (o : Option ℕ). true && true && true && is_none o && true && is_unreached
      (asked_view drained blocked found asked) x) pinless
      ∙ none

  -- the versions that are live are those of the current record and of the records that were found
  -- pinned
  kept_of : (drained blocked found : List ℕ) (asked : ℕ) (a : Asked)
      → HasAsked (before.0.passes + 2) (state_of p.desk) a (asked_seat drained blocked found asked)
      → (v : ℕ) → In v a.live.items → IsLiveVersion (state_of p.desk)
      (asked_view drained blocked found asked) v
  kept_of drained blocked found asked a h v i = ⊎_elim
      (λ (e : v ≡ version (state_of p.desk)).
      (p.desk.current, h.knows.there, (λ within. (h.drained p.desk.current within).1 refl), e))
      (λ (t : (r : ℕ) × (r < before.0.passes + 2) × (In r drained → ⊥)
      × (v ≡ slice_index p.desk.versions r)). t) (h.only v i)

  live_kept : (drained blocked found : List ℕ) (asked : ℕ) (a : Asked)
      → HasAsked (before.0.passes + 2) (state_of p.desk) a (asked_seat drained blocked found asked)
      → (v : ℕ) → IsLiveVersion (state_of p.desk) (asked_view drained blocked found asked) v
      → In v a.live.items
  live_kept drained blocked found asked a h v (r, l, out, is) =
      subst (λ (n : ℕ). In n a.live.items) (sym is)
      (live_of (before.0.passes + 2) (state_of p.desk) a (asked_seat drained blocked found asked) h
      r l out)

  free_blank : (drained blocked found : List ℕ) (asked : ℕ) (a : Asked)
      → HasAsked (before.0.passes + 2) (state_of p.desk) a (asked_seat drained blocked found asked)
      → (x : ℕ)
      → may_write (asked_view drained blocked found asked) x ≡ true
      → slice_get (map (swept_life a.live.items) p.desk.lives) x ≡ Some Free
  free_blank drained blocked found asked a h x blank =
      let b : IsBlank (stored before.0.format) (asked_view drained blocked found asked) x =
      blank_row (asked_view drained blocked found asked) x blank in
      let inside : x < length p.desk.lives =
      (let r = p.is_desk.rows_is in let l = b.0 in omega (arith, l, r)) in
      (free_swept (state_of p.desk) a.live.items x p.is_desk.settled h.now inside).1
      (λ v i. let k = kept_of drained blocked found asked a h v i in
      is_not (reaches p.desk.lives v x)
      (λ (reached : reaches p.desk.lives v x ≡ true). b.1 k.0 k.1 k.2
      (subst (λ (n : ℕ). reaches p.desk.lives n x ≡ true) k.3 reached)))

  counted_rows : (drained blocked found : List ℕ) (asked : ℕ) (a : Asked)
      → HasAsked (before.0.passes + 2) (state_of p.desk) a (asked_seat drained blocked found asked)
      → (live rows : List ℕ) → AreLiveVersions (swept_by a.live.items (state_of p.desk))
      (asked_view drained blocked found asked) live
      → IsDistinct rows → TogetherReach (map (swept_life a.live.items) p.desk.lives) live rows
      → free_count (map (swept_life a.live.items) p.desk.lives) + length rows ≡ before.0.rows
  counted_rows drained blocked found asked a h live rows kept once together =
      let same : (v : ℕ) → In v a.live.items → (x : ℕ)
      → reaches (map (swept_life a.live.items) p.desk.lives) v x ≡ reaches p.desk.lives v x =
      λ v i x. same_swept (state_of p.desk) a.live.items v x i in
      count_swept (state_of p.desk) a.live.items rows p.is_desk.settled h.now once
      (λ x. (
        (λ (v, i, is). (together x).0 (
          v,
          (kept v).1 (kept_of drained blocked found asked a h v i),
          same v i x ∙ is,
        )),
        (λ i. let t = (together x).1 i in let l = live_kept drained blocked found asked a h t.0
            ((kept t.0).0 t.1) in (t.0, l, sym (same t.0 l x) ∙ t.2)),
      )) ∙ p.is_desk.rows_is

  holds : {A : Type 0} (drained blocked found : List ℕ) (asked : ℕ) (a : Asked) (root : Root)
      → HasAsked (before.0.passes + 2) (state_of p.desk) a (asked_seat drained blocked found asked)
      → HoldsDesk (turn_of {A = A} (state_of p.desk) a root)
      (asked_seat drained blocked found asked)
  holds {A} drained blocked found asked a root h =
      let into : In a.into drained =
      h.into (some_drained (state_of p.desk) a (asked_seat drained blocked found asked) h) in
      record {
        holder = h.knows.holder;
        slot = refl;
        known = p.wide;
        few = h.knows.few;
        short = p.short;
        current = refl;
        rows_is = length-map p.desk.lives (swept_life a.live.items) ∙ p.is_desk.rows_is;
        records = p.is_desk.records;
        version_is = p.stands.filed;
        earlier = p.is_desk.earlier;
        agrees = λ r l out. record {
          version = refl;
          reached = λ x i. same_rows (before.0.passes + 2) (state_of p.desk) a
              (asked_seat drained blocked found asked) h r x l out ∙ i;
          exactly =
              λ x i. sym (same_rows (before.0.passes + 2) (state_of p.desk) a
              (asked_seat drained blocked found asked) h r x l out) ∙ i;
          ages = λ x v _ i. let same =
              same_ages a.live.items p.desk.lives (slice_index p.desk.versions r) x v
              (live_of (before.0.passes + 2) (state_of p.desk) a
              (asked_seat drained blocked found asked) h r l out) i in
              ((λ is. same ∙ is), (λ is. sym same ∙ is));
        };
        into_drained = into;
        into_in = (h.drained a.into into).0;
        into_other = (h.drained a.into into).1;
      }

  -- after the sweep the current version reaches exactly the rows that stand for the map
  reached_now : (a : Asked) → In (version (state_of p.desk)) a.live.items → (x : ℕ)
      → reaches (map (swept_life a.live.items) p.desk.lives) (version (state_of p.desk)) x ≡ true
      ↔ In x p.used
  reached_now a now x =
      let same : reaches (map (swept_life a.live.items) p.desk.lives) (version (state_of p.desk)) x
      ≡ reaches p.desk.lives (version (state_of p.desk)) x =
      same_swept (state_of p.desk) a.live.items (version (state_of p.desk)) x now in
      let number : version (state_of p.desk) ≡ length p.log = p.stands.filed in (
        λ is. let old : reaches p.desk.lives (length p.log) x ≡ true =
            subst (λ (v : ℕ). reaches p.desk.lives v x ≡ true) number (sym same ∙ is) in
            p.stands.exactly x (let inside = reached_inside p.desk.lives (length p.log) x old in
            let r = p.is_desk.rows_is in omega (arith, inside, r)) old,
        λ i. same ∙ subst (λ (v : ℕ). reaches p.desk.lives v x ≡ true) (sym number)
            (p.stands.reached x i),
      )

  -- each version that is live has its place in rows
  places : (drained blocked found : List ℕ) (asked : ℕ) (a : Asked) → HasAsked (before.0.passes + 2)
      (state_of p.desk) a (asked_seat drained blocked found asked) → (v : ℕ) → In v a.live.items
      → (v ≤ length p.log) × HasPlace before.0.format p.desk.lives p.log v
  places drained blocked found asked a h v i =
      ⊎_elim (λ (e : v ≡ version (state_of p.desk)). current v e)
      (λ (t : (r : ℕ) × (r < before.0.passes + 2) × (In r drained → ⊥)
      × (v ≡ slice_index p.desk.versions r)). dite (ℕ_discrete t.0 p.desk.current)
      (λ same. current v (t.3 ∙ ap (λ (r : ℕ). slice_index p.desk.versions r) same))
      (λ other. let stood : StoodAtAsk t.0 (asked_view drained blocked found asked) =
      h.stood t.0 (h.found t.0 t.1 other t.2) in
      place_of before.0.format before.0.rows before.0.passes p.words p.log p.desk t.0 stood.0
      stood.1 p.is_desk.rows_is stood.2 v t.3)) (h.only v i)
    where
      current : (v : ℕ) → v ≡ version (state_of p.desk) → (v ≤ length p.log)
          × HasPlace before.0.format p.desk.lives p.log v
      current v e = place_of before.0.format before.0.rows before.0.passes p.words p.log p.desk
          p.desk.current p.log p.used p.is_desk.rows_is p.stands v e

  leaves : (drained blocked found : List ℕ) (asked : ℕ) (a : Asked) → HasAsked (before.0.passes + 2)
      (state_of p.desk) a (asked_seat drained blocked found asked) → LeavesFree before.0.format
      (map (swept_life a.live.items) p.desk.lives) p.log found (length a.live.items) before.0.rows
  leaves drained blocked found asked a h =
      let live : a.live.items ≡ length p.log ∷ found =
      h.live ∙ ap (λ (v : ℕ). v ∷ found) p.stands.filed in record {
        below =
            λ v i. (places drained blocked found asked a h v
            (subst (λ (l : List ℕ). In v l) (sym live) (in_later v (length p.log) found i))).0;
        as_many =
            (let long : length (length p.log ∷ found) ≡ length found + 1 =
            omega arith in sym (ap (λ (l : List ℕ). length l) live ∙ long));
        left =
            ap (λ (l : List ℕ). free_count (map (swept_life a.live.items) p.desk.lives) + held
            before.0.format p.log l) (sym live)
            ∙ held_free before.0.format (state_of p.desk) p.log a.live.items p.is_desk.settled h.now
            (places drained blocked found asked a h) ∙ p.is_desk.rows_is;
      }

  -- the rows of the map keep their ages in the sweep
  swept_ages : (a : Asked) → In (version (state_of p.desk)) a.live.items → SameAges p.desk.lives
      (map (swept_life a.live.items) p.desk.lives) p.log (numbers p.stands.aged.0.0)
  swept_ages a now x v i le =
      let within : In x p.used = subst (In x) p.stands.aged.0.1 i in
      same_ages a.live.items p.desk.lives (version (state_of p.desk)) x v now
      (subst (λ (n : ℕ). reaches p.desk.lives n x ≡ true) (sym p.stands.filed)
      (p.stands.reached x within))

  known : {A : Type 0} (drained blocked found : List ℕ) (asked : ℕ) (a : Asked) (root : Root)
      → HasAsked (before.0.passes + 2) (state_of p.desk) a (asked_seat drained blocked found asked)
      → root ≡ root_in (field p.words p.desk.current)
      → HasTurn (turn_of {A = A} (state_of p.desk) a root) (asked_seat drained blocked found asked)
  known {A} drained blocked found asked a root h here =
      let v : View = asked_view drained blocked found asked in
      let s = p.stands.aged.0 in
      let content : AllByRecursion (λ x. content_of v x ≡ rows_in (row before.0.rows p.words) x)
      (numbers s.0) =
      subst (AllByRecursion (λ x. content_of v x ≡ rows_in (row before.0.rows p.words) x)) (sym s.1)
      (each (λ x. content_of v x ≡ rows_in (row before.0.rows p.words) x) p.used
      (λ x within. reads_all v x refl (p.stands.inside x within))) in
      let t = aged_frame before.0.format format_there (rows_in (row before.0.rows p.words))
      (content_of v)
      (root_in (field p.words p.desk.current)) root p.log p.desk.lives
      (map (swept_life a.live.items) p.desk.lives) s.0 content here (swept_ages a h.now)
      p.stands.aged.1 in
      record {
        holds = holds {A = A} drained blocked found asked a root h;
        settled = settled_swept (state_of p.desk) a.live.items p.is_desk.settled;
        format = refl;
        stands = t.0;
        reached =
            λ x. subst (λ (used : List ℕ). reaches (map (swept_life a.live.items) p.desk.lives)
            (version (state_of p.desk)) x ≡ true ↔ In x used) (sym (t.1 ∙ s.1))
            (reached_now a h.now x);
        aged = t.2;
        blank = λ x free. blank_free drained blocked found asked a h x free;
        free = λ x blank. free_blank drained blocked found asked a h x blank;
        live = λ r l out other. h.found r l other out;
        stood = h.stood;
        now = (
          p.desk.current,
          h.knows.there,
          (λ within. (h.drained p.desk.current within).1 refl),
          refl,
        );
        fewer = h.fewer;
        number = h.room;
        there = h.knows.there;
        count = λ live rows kept once together. counted_rows drained blocked found asked a h live
            rows kept once together;
        leaves = leaves drained blocked found asked a h;
      }

  -- what was asked is all that has changed since
  whole : (m : SeatState) → IsAskedOf m → m ≡ asked_seat m.0.drained m.0.blocked m.0.found m.0.asked
  whole m is =
      is ∙ ap (λ (z : SeatState). (
        record z.0 {
          drained = m.0.drained;
          blocked = m.0.blocked;
          found = m.0.found;
          asked =
              m.0.asked;
        },
        (0, None) ∷ [],
      )) p.is

  -- the link that the current record has
  pub link_there : (desk : State) (m : SeatState) (which : ℕ) → taken.1 ≡ (0, Some desk) ∷ []
      → IsAskedOf m → which ≡ desk.current → taken.0.rows ≤ 65535 → field m.0.known_words which 1
      ≤ 65535
  link_there desk m which slot is current few =
      let few_rows : before.0.rows ≤ 65535 = subst (λ (z : SeatState). z.0.rows ≤ 65535) p.is few in
      let at : which ≡ p.desk.current =
      current ∙ ap (λ (d : State). d.current) (desk_there before taken p desk slot) in
      let link = link_of_root (row before.0.rows p.words) (field p.words p.desk.current)
      (contents_after before.0.format p.log) p.used before.0.rows p.stands.stands
      p.stands.inside in
      let same : field m.0.known_words which 1 ≡ field p.words p.desk.current 1 =
      ap (λ (z : SeatState). field z.0.known_words which 1) (whole m is)
      ∙ ap (λ (r : ℕ). field p.words r 1) at in
      omega (arith, few_rows, link, same)

  -- the number of the format that the current record has
  pub number_there : (desk : State) (m : SeatState) (which : ℕ) → taken.1 ≡ (0, Some desk) ∷ []
      → IsAskedOf m → which ≡ desk.current → field m.0.known_words which 6 ≡ format_number
      format_there
  number_there desk m which slot is current =
      let at : which ≡ p.desk.current =
      current ∙ ap (λ (d : State). d.current) (desk_there before taken p desk slot) in
      ap (λ (z : SeatState). field z.0.known_words which 6) (whole m is)
      ∙ ap (λ (r : ℕ). field p.words r 6) at ∙ p.stands.aged.0.2

  pub ready : {A : Type 0} (desk swept_life : State) (a : Asked) (live : List ℕ) (root : Root)
      (format : Format) (m : SeatState) (which passes count : ℕ) → count ≡ length a.live.items
      → taken.1 ≡ (0, Some desk) ∷ [] → IsAskedOf m → passes ≡ taken.0.passes
      → HasAsked (passes + 2) desk a m → which ≡ desk.current
      → root ≡ root_in (field m.0.known_words which) → format ≡ format_there
      → live ≡ a.live.items → swept_life ≡ swept_by live desk
      → HasTurn (of_turn {A = A} swept_life root format a.into count) m
  ready {A} desk swept_life a live root format m which passes count number slot is few h current
      here
      in_format all by =
      let d : desk ≡ state_of p.desk = desk_there before taken p desk slot in
      let w : m ≡ asked_seat m.0.drained m.0.blocked m.0.found m.0.asked = whole m is in
      let n : passes ≡ before.0.passes = few ∙ ap (λ (z : SeatState). z.0.passes) p.is in
      let known_asked : HasAsked (before.0.passes + 2) (state_of p.desk) a
      (asked_seat m.0.drained m.0.blocked m.0.found m.0.asked) =
      subst (λ (z : SeatState). HasAsked (before.0.passes + 2) (state_of p.desk) a z) w
      (subst (λ (s : State). HasAsked (before.0.passes + 2) s a m) d
      (subst (λ (k : ℕ). HasAsked (k + 2) desk a m) n h)) in
      let root_is : root ≡ root_in (field p.words p.desk.current) =
      here ∙ ap (λ (z : SeatState). root_in (field z.0.known_words which)) w
      ∙ ap (λ (r : ℕ). root_in (field p.words r)) (current ∙ ap (λ (s : State). s.current) d) in
      let swept_is : swept_life ≡ swept_by a.live.items (state_of p.desk) =
      by ∙ ap (λ (l : List ℕ). swept_by l desk) all
      ∙ ap (λ (s : State). swept_by a.live.items s) d in
      subst (λ (s : State). HasTurn (of_turn {A = A} s root format a.into count) m) (sym swept_is)
      (subst (λ (k : ℕ). HasTurn
      (of_turn {A = A} (swept_by a.live.items (state_of p.desk)) root format a.into k) m)
      (sym number)
      (subst (λ (f : Format). HasTurn
      (of_turn {A = A} (swept_by a.live.items (state_of p.desk)) root f a.into
      (length a.live.items)) m) (sym in_format)
      (subst (λ (z : SeatState). HasTurn
      (of_turn {A = A} (swept_by a.live.items (state_of p.desk)) root format_there a.into
      (length a.live.items)) z) (sym w)
      (known {A = A} m.0.drained m.0.blocked m.0.found m.0.asked a root known_asked root_is))))
