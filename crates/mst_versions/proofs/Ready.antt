-- A version that is made stands ready to be published.
use Rattle.mst_versions.proofs.Names.{◌≡◌, ℕ, ◌+◌, ◌<◌, ◌≤◌, true, false, Option, Some, None, List, [], ◌∷◌, ◌++◌, length, set, get_or, refl, sym, ap, ◌∙◌, subst, arith, length-set, get_or-set_same, get_or-set_other, AllByRecursion, dite, ℕ_discrete, slice_get_within, Event, Format, History, after, format_after, State, version, next, reaches, reached_at, Stands, numbers, HasAges, Life, Root, In, ReachesExactly, DeskState, content_of, row, known_row, field, Standing, Agrees, IsGiving, stored, desk_state, rows_in, root_in, format_number, version_of, aged_frame, Turn, SeatState, HoldsDesk, HasMade, each}
use Rattle.std.proofs.Common.{slice_get}
use Rattle.mst_key.proofs.HistoryLaws.{IsPrefix-itself}
use Rattle.mst_path.specs.Reached.{advanced}
use Rattle.mst_words.specs.Layout.{row_word}
use Rattle.mst_words.specs.Steps.{IsReady}
use Rattle.mst_words.specs.Stored.{AgedOn}
use Rattle.mst_words.proofs.Framed.{same_row}
use Rattle.mst_words.proofs.Places.{place_above}
use Rattle.mst_versions.specs.Turns.{IsFilled}
use Rattle.mst_versions.specs.Filing.{OthersKept}
use Rattle.mst_versions.proofs.Pinning.{reads_all}

-- a version reaches only rows that there are
inside : (o : Option Life) (v : ℕ) → reached_at o v ≡ true → (x : Life) × (o ≡ Some x)
inside None v h = absurd (let c : false ≡ true = h in cc)
inside (Some x) v h = (x, refl)

length_more : (l : History) (e : Event) → length (l ++ e ∷ []) ≡ length l + 1
length_more [] e = refl
length_more (x ∷ l) e = let h = length_more l e in omega arith

-- what the pass knows once it has stored other words of the record to come alone
abbrev with_record : SeatState → List ℕ → SeatState
with_record m held = (record m.0 { known_words = held }, m.1)

module _ {A : Type 0} (t : Turn A) (root : Root) (format : Format) (e : Event) (m : SeatState)
    (made : HasMade t root format e m) where
  holds : HoldsDesk t m
  holds = made.holds

  within_rows : (x : ℕ) → In x (numbers made.stands) → x < m.0.rows
  within_rows x within = let r = (made.reached x).1 within in let l =
      inside (slice_get t.desk.lives x) (next t.desk) r in
      let b = slice_get_within t.desk.lives x l.0 l.1 in let n = holds.rows_is in omega arith

  -- what a row has, when the words of a record alone are others
  same_words : (held : List ℕ) → OthersKept t.into m.0.known_words held → (x : ℕ)
      → rows_in (row m.0.rows held) x ≡ rows_in (known_row m.0) x
  same_words held kept x =
      same_row (known_row m.0) (row m.0.rows held) x
      (λ k lt. kept.others (row_word m.0.rows x k) (λ j l is. let i = holds.into_in in let f =
      holds.few in let a = place_above m.0.rows x k in omega (arith, i, f, a, l, is)))

  module _ (held : List ℕ) (kept : OthersKept t.into m.0.known_words held) where
    same_rows : AllByRecursion (λ x. content_of (with_record m held).0 x ≡ content_of m.0 x)
        (numbers made.stands)
    same_rows =
        each (λ x. content_of (with_record m held).0 x ≡ content_of m.0 x) (numbers made.stands)
        (λ x within. let on = holds.holder.0 in let lt = within_rows x within in
        reads_all (with_record m held).0 x on lt ∙ same_words held kept x
        ∙ sym (reads_all m.0 x on lt))

    still_holds : HoldsDesk t (with_record m held)
    still_holds = record {
      holder = holds.holder;
      slot = holds.slot;
      known = kept.long ∙ holds.known;
      few = holds.few;
      short = holds.short;
      current = holds.current;
      rows_is = holds.rows_is;
      records = holds.records;
      version_is = holds.version_is;
      earlier = holds.earlier;
      agrees = holds.agrees;
      into_drained = holds.into_drained;
      into_in = holds.into_in;
      into_other = holds.into_other;
    }

    -- the change stays made
    pub still_made : HasMade t root format e (with_record m held)
    still_made =
        let moved = aged_frame m.0.format format (content_of m.0)
        (content_of (with_record m held).0) root root (m.0.seen ++ e ∷ []) t.desk.lives t.desk.lives
        made.stands same_rows refl (λ x v _ _. refl) made.aged in record {
          holds = still_holds;
          mine = made.mine;
          room = made.room;
          format_is = made.format_is;
          stands = moved.0;
          reached = subst (ReachesExactly t.desk.lives (next t.desk)) (sym moved.1) made.reached;
          aged = moved.2;
          settled = made.settled;
        }

module _ {A : Type 0} (t : Turn A) (root : Root) (format : Format) (e : Event) (m : SeatState)
    (made : HasMade t root format e m) (filled : IsFilled t root format m) where
  -- the map that stands, in the format that the history leaves
  abbrev leaves : Format
  leaves = format_after m.0.format (m.0.seen ++ e ∷ [])

  abbrev held : List ℕ
  held = m.0.known_words

  abbrev state : DeskState
  state = desk_state (advanced t.into t.desk)

  desk_held : HoldsDesk t m
  desk_held = made.holds

  below_rows : (x : ℕ) → In x (numbers made.stands) → x < m.0.rows
  below_rows = within_rows t root format e m made

  same_content : AllByRecursion (λ x. rows_in (known_row m.0) x ≡ content_of m.0 x)
      (numbers made.stands)
  same_content = each (λ x. rows_in (known_row m.0) x ≡ content_of m.0 x) (numbers made.stands)
      (λ x within. sym (reads_all m.0 x desk_held.holder.0 (below_rows x within)))

  numbered : length (m.0.seen ++ e ∷ []) ≡ version t.desk + 1
  numbered = length_more m.0.seen e ∙ ap (λ (n : ℕ). n + 1) (sym desk_held.version_is)

  -- the words mean this, in each format that is that of the version
  abbrev aged_in : Format → Type 0
  aged_in f =
      (s : Stands f (rows_in (known_row m.0)) (root_in (field held t.into))
      (after (m.0.seen ++ e ∷ [])))
      × (numbers s ≡ numbers made.stands) × (field held t.into 6 ≡ format_number f)
      × HasAges m.0.format t.desk.lives (m.0.seen ++ e ∷ []) s.tree.placed

  aged_leaves : aged_in leaves
  aged_leaves = subst aged_in made.format_is
      (let moved = aged_frame m.0.format format (content_of m.0) (rows_in (known_row m.0)) root
      (root_in (field held t.into)) (m.0.seen ++ e ∷ []) t.desk.lives t.desk.lives made.stands
      same_content filled.root_is (λ x v _ _. refl) made.aged in
      (moved.0, moved.1, filled.number, moved.2))

  aged : AgedOn m.0.format (known_row m.0) (field held t.into) state (m.0.seen ++ e ∷ [])
      (numbers made.stands)
  aged = let a = aged_leaves in ((a.0, a.1, a.2), a.3)

  standing : Standing (stored m.0.format) m.0.rows m.0.passes held (m.0.seen ++ e ∷ []) state t.into
      (m.0.seen ++ e ∷ []) (numbers made.stands)
  standing = record {
    numbered = desk_held.into_in;
    begins = IsPrefix-itself (m.0.seen ++ e ∷ []);
    version = filled.version ∙ sym numbered;
    filed = get_or-set_same t.desk.versions t.into (next t.desk) 0
        (let l = desk_held.records in let i = desk_held.into_in in omega arith) ∙ sym numbered;
    stands = aged.0;
    aged = aged;
    inside = below_rows;
    reached = λ x within. subst (λ (n : ℕ). reaches t.desk.lives n x ≡ true) (sym numbered)
        ((made.reached x).1 within);
    exactly =
        λ x l r. (made.reached x).0 (subst (λ (n : ℕ). reaches t.desk.lives n x ≡ true) numbered r);
  }

  -- the versions of the other records stay, and the rows of all lives
  agree : (r : ℕ) → r < m.0.passes + 2 → (In r m.0.drained → ⊥) → Agrees (stored m.0.format)
      m.0.desk state r
  agree r small pinned = let a = desk_held.agrees r small pinned in
      let same : version_of state r ≡ version_of (desk_state t.desk) r =
      get_or-set_other t.desk.versions t.into r (next t.desk) 0
      (λ is. pinned (subst (λ (z : ℕ). In z m.0.drained) (sym is) desk_held.into_drained)) in
      record { version = same ∙ a.version; reached = a.reached; exactly = a.exactly; ages = a.ages }

  ready : IsReady (stored m.0.format) t.into e state (numbers made.stands) m.0
  ready = record {
    on = desk_held.holder.0;
    unpinned = desk_held.holder.1;
    settled = desk_held.holder.2;
    drained = desk_held.into_drained;
    mine = made.mine;
    room = (let l = made.room in omega arith);
    desk_at = refl;
    stands = standing;
    agrees = agree;
  }

  pub readying : (s : State) → s ≡ advanced t.into t.desk → (used : List ℕ)
      × IsReady (stored m.0.format) t.into e (desk_state s) used m.0
  readying s is = (
    numbers made.stands,
    subst (λ (d : State). IsReady (stored m.0.format) t.into e (desk_state d)
        (numbers made.stands) m.0) (sym is) ready,
  )

  -- what the pass holds when the version is published, the mask is moved and the desk is back
  abbrev given : State → ℕ → SeatState
  given s mask = (
    record m.0 {
      seen = m.0.seen ++ e ∷ [];
      mine = m.0.mine ++ e ∷ [];
      due = None;
      mask =
          mask;
      drained = [];
      blocked = [];
      noted = None;
      desk = desk_state s;
      asked = m.0.asked + 1;
    },
    (0, Some s) ∷ [],
  )

  now_is : version (advanced t.into t.desk) ≡ next t.desk
  now_is = get_or-set_same t.desk.versions t.into (next t.desk) 0
      (let l = desk_held.records in let i = desk_held.into_in in omega arith)

  -- no record has a later version than the new one
  below : (r : ℕ) → r < m.0.passes + 2 → get_or (set t.desk.versions t.into (next t.desk)) r 0
      ≤ next t.desk
  below r l = dite (ℕ_discrete r t.into)
      (λ is. let e : get_or (set t.desk.versions t.into (next t.desk)) r 0 ≡ next t.desk =
      ap (λ (z : ℕ). get_or (set t.desk.versions t.into (next t.desk)) z 0) is ∙ now_is in
      omega (arith, e))
      (λ other. let e = get_or-set_other t.desk.versions t.into r (next t.desk) 0 other in let b =
      desk_held.earlier r l in omega (arith, e, b))

  given_back : (mask : ℕ) → IsGiving (stored m.0.format) (Some (advanced t.into t.desk)) state
      (given (advanced t.into t.desk) mask)
  given_back mask = record {
    on = desk_held.holder.0;
    settled = refl;
    slot = refl;
    is_desk = record {
      there = refl;
      rows_is = desk_held.rows_is;
      records = length-set t.desk.versions t.into (next t.desk) ∙ desk_held.records;
      settled = made.settled;
      earlier = λ r l. subst (λ (n : ℕ). get_or (set t.desk.versions t.into (next t.desk)) r 0 ≤ n)
          (sym now_is) (below r l);
    };
    current = refl;
    agrees = λ r _ _. record {
      version = refl;
      reached = λ x h. h;
      exactly = λ x h. h;
      ages =
          λ x v _ _. ((λ is. is), (λ is. is));
    };
  }

  pub giving : (s : State) (mask : ℕ) (m' : SeatState) → s ≡ advanced t.into t.desk
      → m' ≡ given s mask
      → (x : Option State) × (d : DeskState) × IsGiving (stored m'.0.format) x d m'
  giving s mask m' is same = (
    Some s,
    desk_state s,
    subst (λ (z : SeatState). IsGiving (stored z.0.format) (Some s) (desk_state s) z) (sym same)
        (subst (λ (d : State). IsGiving (stored m.0.format) (Some d) (desk_state d) (given d mask))
        (sym is) (given_back mask)),
  )
