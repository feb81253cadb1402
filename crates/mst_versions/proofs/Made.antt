-- A change that path copying made over the seat: what the holder of the turn then has.
use Rattle.mst_versions.proofs.Names.{◌≡◌, ℕ, ◌+◌, ◌<◌, ◌≤◌, List, [], ◌∷◌, ◌++◌, length, slice_index, refl, sym, ap, ◌∙◌, subst, arith, Format, Change, Event, Pair, History, after, changed, format_after, Reply, tree, State, version, reaches, free_count, last_version, Stands, numbers, tree_of, Root, In, HasAges, AllByRecursion, ReachesExactly, reached_old, Seated, beside, content_of, IsSameSeat, Agrees, stored, desk_state, version_of, Turn, SeatState, HoldsDesk, HasTurn, HasMade, made_at_seat, rows_taken, Made}
use Rattle.mst_key.specs.History.{changed_format, reply}
use Rattle.mst_key.proofs.HistoryLaws.{after-push, format_after-push}
use Rattle.mst_node.specs.Cost.{cost}
use Rattle.mst_arena.specs.Content.{Content}
use Rattle.mst_arena.specs.Ages.{placed_nodes}
use Rattle.mst_path.specs.Ages.{IsAged}
use Rattle.mst_path.specs.Changing.{MapStands, OnlyFreeWritten}
use Rattle.mst_path.specs.Made.{IsMade}
use Rattle.mst_path.specs.Reached.{Changes, IsSettled}
use Rattle.mst_path.proofs.lemmas.versions.AgeSteps.{ages_next}
use Rattle.mst_path.proofs.lemmas.versions.KeyAges.{all_aged}
use Rattle.mst_path.proofs.lemmas.versions.Reached.{older, newest, settled_after}
use Rattle.mst_path.proofs.lemmas.rows.RowCounts.{as_many}
use Rattle.mst_words.specs.Access.{Beside, with_words}

-- the map that stands may be changed
pub map_stands : {A : Type 0} (t : Turn A) (m : SeatState) → HasTurn t m → MapStands t.format
    (content_of m.0) t.desk t.root
map_stands t m h =
    (after m.0.seen, h.stands, reached_old t.desk (numbers h.stands) h.settled h.reached)

-- the ages of the rows of the new map
next_ages : (first : Format) (old new : State) (before now : Content) (root at : Root)
    (f g : Format) (h : History) (e : Event) (stood : Stands f before root (after h))
    (stands : Stands g now at (after (h ++ e ∷ []))) → f ≡ format_after first h
    → g ≡ format_after first (h ++ e ∷ [])
    → IsSettled old → ReachesExactly old.lives (version old) (numbers stood) → version old ≡ length
    h → Changes old new (numbers stood) (numbers stands)
    → AllByRecursion (IsAged f g new stood.tree.placed) (placed_nodes stands.tree.placed)
    → HasAges first old.lives h stood.tree.placed
    → HasAges first new.lives (h ++ e ∷ []) stands.tree.placed
next_ages first old new before now root at f g h e stood stands f_is g_is settled exact number
    change aged ages =
    let o = stood.tree.placed in
    let w = stands.tree.placed in
    ages_next old new o w first h e change settled exact number
    (subst (λ (x : Format). tree_of x o ≡ tree x (after h)) f_is stood.tree.is)
    (subst (λ (x : Format). tree_of x w ≡ tree x (after (h ++ e ∷ []))) g_is stands.tree.is)
    ages
    (subst (λ (x : Format). AllByRecursion (IsAged x (format_after first (h ++ e ∷ [])) new o)
    (placed_nodes w)) f_is
    (subst (λ (x : Format). AllByRecursion (IsAged f x new o) (placed_nodes w)) g_is aged))

-- the nodes after a change of a key, which stays in the format
pub key_aged : {A : Type 0} (t : Turn A) (m : SeatState) (h : HasTurn t m) (now : Content)
    (root : Root)
    (d : State) (n : List Pair) (stands : Stands t.format now root n) → Changes t.desk d
    (numbers h.stands) (numbers stands)
    → OnlyFreeWritten t.desk (content_of m.0) now → IsMade d stands.tree.placed → free_count d.lives
    + cost t.format (after m.0.seen) n ≡ free_count t.desk.lives
    → AllByRecursion (IsAged t.format t.format d h.stands.tree.placed)
    (placed_nodes stands.tree.placed)
key_aged t m h now root d n stands change written made count =
    all_aged t.format t.desk d (content_of m.0) now t.root root (after m.0.seen) n h.stands stands
    (reached_old t.desk (numbers h.stands) h.settled h.reached) change written made count

-- the seat is as before but for its words, of which it knows as many
frame : (s z : Seated) → beside z ≡ beside s → (z ≡ with_words z.me.0.known_words s)
    × (length z.me.0.known_words ≡ length s.me.0.known_words)
frame s z same = (
  ap (λ (b : Beside). with_words z.me.0.known_words b.seat) same,
  ap (λ (b : Beside). b.long)
      same,
)

pub same_seat : (s z : Seated) → beside z ≡ beside s → IsSameSeat s z
same_seat s z same = (ap (λ (b : Beside). b.seat.table) same, ap (λ (b : Beside). b.seat.id) same)

module _ {A : Type 0} (t : Turn A) (s z : Seated) (h : HasTurn t s.me) (root : Root) (g : Format)
    (e : Event) (d : State) (same : beside z ≡ beside s)
    (stands : Stands g (content_of z.me.0) root (after (z.me.0.seen ++ e ∷ [])))
    (change : Changes t.desk d (numbers h.stands) (numbers stands)) where
  abbrev made_turn : Turn A
  made_turn = record t { desk = d }

  abbrev now : SeatState
  now = (record s.me.0 { known_words = z.me.0.known_words }, s.me.1)

  is_now : z.me ≡ now
  is_now = ap (λ (q : Seated). q.me) (frame s z same).0

  k : HoldsDesk t s.me
  k = h.holds

  same_version : version d ≡ version t.desk
  same_version = ap (λ (c : ℕ). slice_index d.versions c) change.versions.0
      ∙ ap (λ (vs : List ℕ). slice_index vs t.desk.current) change.versions.1

  -- a version up to the current one reaches the rows that it reached
  still : (v x : ℕ) → v ≤ version t.desk → reaches d.lives v x ≡ reaches t.desk.lives v x
  still v x le = older t.desk d (numbers h.stands) (numbers stands) change v x le

  agree : (r : ℕ) → r < s.me.0.passes + 2 → (In r s.me.0.drained → ⊥)
      → Agrees (stored s.me.0.format) s.me.0.desk (desk_state d) r
  agree r small pinned =
      let a = k.agrees r small pinned in
      let v = version_of s.me.0.desk r in
      let le : v ≤ version t.desk = subst (λ (n : ℕ). n ≤ version t.desk) a.version
      (k.earlier r small) in record {
        version = ap (λ (vs : List ℕ). slice_index vs r) change.versions.1 ∙ a.version;
        reached = λ x i. still v x le ∙ a.reached x i;
        exactly = λ x i. a.exactly x (sym (still v x le) ∙ i);
        ages = λ x w older i. let w_le : w ≤ version t.desk = omega (arith, le, older) in let b =
            a.ages x w older i in
            (λ j. still w x w_le ∙ b.0 j, λ j. b.1 (sym (still w x w_le) ∙ j));
      }

  holds : HoldsDesk made_turn now
  holds = record {
    holder = k.holder;
    slot = k.slot;
    known = (frame s z same).1 ∙ k.known;
    few = k.few;
    short = k.short;
    current = change.versions.0 ∙ k.current;
    rows_is = as_many t.desk d (numbers h.stands) (numbers stands) change ∙ k.rows_is;
    records = ap (λ (vs : List ℕ). length vs) change.versions.1 ∙ k.records;
    version_is = same_version ∙ k.version_is;
    earlier = λ r small. subst (λ (v : ℕ). slice_index d.versions r ≤ v) (sym same_version)
        (subst (λ (vs : List ℕ). slice_index vs r ≤ version t.desk) (sym change.versions.1)
        (k.earlier r small));
    agrees = agree;
    into_drained = k.into_drained;
    into_in = k.into_in;
    into_other = λ is. k.into_other (is ∙ change.versions.0);
  }

  -- the change is made, if it is the pass's own and a version is left
  made : e.pass ≡ s.me.0.number → length s.me.0.seen < last_version → g ≡ format_after z.me.0.format
      (z.me.0.seen ++ e ∷ []) → HasAges z.me.0.format d.lives (z.me.0.seen ++ e ∷ [])
      stands.tree.placed → HasMade made_turn root g e z.me
  made mine room leaves ages = record {
    holds = subst (HoldsDesk made_turn) (sym is_now) holds;
    mine = mine ∙ sym (ap (λ (m : SeatState). m.0.number) is_now);
    room = subst (λ (m : SeatState). length m.0.seen < last_version) (sym is_now) room;
    format_is = leaves;
    stands = stands;
    reached = subst (λ (v : ℕ). ReachesExactly d.lives v (numbers stands))
        (sym (ap (λ (v : ℕ). v + 1) same_version))
        (newest t.desk d (numbers h.stands) (numbers stands) change h.settled h.reached);
    aged = ages;
    settled = settled_after t.desk d (numbers h.stands) (numbers stands) change t.into
        (let r = k.records in let i = k.into_in in omega (arith, r, i)) h.settled;
  }

-- the format that a change leaves is that after the history with its event
leaves_format : {A : Type 0} (t : Turn A) (m : SeatState) → HasTurn t m → (g : Format) (e : Event)
    → g ≡ changed_format t.format e.change → g ≡ format_after m.0.format (m.0.seen ++ e ∷ [])
leaves_format t m h g e is = is ∙ ap (λ (f : Format). changed_format f e.change) h.format
    ∙ sym (format_after-push m.0.format m.0.seen e)

-- the map that stands with the event, from the one that stands with its change
with_event : (s z : Seated) (root : Root) (g : Format) (e : Event) → beside z ≡ beside s
    → Stands g (content_of z.me.0) root (changed (after s.me.0.seen) e.change)
    → Stands g (content_of z.me.0) root (after (z.me.0.seen ++ e ∷ []))
with_event s z root g e same stands = subst (Stands g (content_of z.me.0) root)
    (sym (ap (λ (b : Beside). after (b.seat.me.0.seen ++ e ∷ [])) same ∙ after-push s.me.0.seen e))
    stands

-- the ages of its rows: the same history has been seen before and after
made_ages : {A : Type 0} (t : Turn A) (m : SeatState) (h : HasTurn t m) (now : Content)
    (root : Root)
    (g : Format) (d : State) (e : Event) (first : Format) (seen : History)
    (stands : Stands g now root (after (seen ++ e ∷ []))) → m.0.format ≡ first → m.0.seen ≡ seen
    → g ≡ changed_format t.format e.change
    → Changes t.desk d (numbers h.stands) (numbers stands)
    → AllByRecursion (IsAged t.format g d h.stands.tree.placed)
    (placed_nodes stands.tree.placed) → HasAges first d.lives (seen ++ e ∷ [])
    stands.tree.placed
made_ages t m h now root g d e first seen stands same_first same is change all =
    subst (λ (x : Format). HasAges x d.lives (seen ++ e ∷ []) stands.tree.placed) same_first
    (subst (λ (l : History). (on : Stands g now root (after (l ++ e ∷ []))) → Changes t.desk d
    (numbers h.stands) (numbers on) → AllByRecursion (IsAged t.format g d h.stands.tree.placed)
    (placed_nodes on.tree.placed) → HasAges m.0.format d.lives (l ++ e ∷ []) on.tree.placed)
    same
    (λ on moved new. next_ages m.0.format t.desk d (content_of m.0) now t.root root t.format g
    m.0.seen e h.stands on h.format (leaves_format t m h g e is) h.settled h.reached
    h.holds.version_is moved new h.aged) stands change all)

-- from what the new rows and the old ones say
pub change_made : {A : Type 0} (t : Turn A) (s z : Seated) (h : HasTurn t s.me) (root : Root)
    (answered : Reply) (d : State) (change : Change) → beside z ≡ beside s → length s.me.0.seen
    < last_version
    → Stands (changed_format t.format change) (content_of z.me.0) root
    (changed (after s.me.0.seen) change)
    → ((n : List Pair)
    (stands : Stands (changed_format t.format change) (content_of z.me.0) root n)
    → Changes t.desk d (numbers h.stands) (numbers stands))
    → answered ≡ reply s.me.0.format s.me.0.seen (made_at_seat s.me change) → free_count d.lives
    + rows_taken t.format (after s.me.0.seen) change ≡ free_count t.desk.lives
    → ((stands : Stands (changed_format t.format change) (content_of z.me.0) root
    (changed (after s.me.0.seen) change))
    → AllByRecursion (IsAged t.format (changed_format t.format change) d h.stands.tree.placed)
    (placed_nodes stands.tree.placed)) → Made change t s.me root answered
    (record t { desk = d }) z.me
change_made t s z h root answered d change same early stands changes answer rows aged =
    let e : Event = made_at_seat s.me change in
    let g : Format = changed_format t.format change in
    let pairs_is : changed (after s.me.0.seen) change ≡ after (z.me.0.seen ++ e ∷ []) =
    sym (ap (λ (b : Beside). after (b.seat.me.0.seen ++ e ∷ [])) same ∙ after-push s.me.0.seen
    e) in
    let standing = with_event s z root g e same stands in
    let longer = after (z.me.0.seen ++ e ∷ []) in
    let first : s.me.0.format ≡ z.me.0.format = sym (ap (λ (b : Beside). b.seat.me.0.format) same)
    in
    let seen : s.me.0.seen ≡ z.me.0.seen = sym (ap (λ (b : Beside). b.seat.me.0.seen) same) in
    let all : AllByRecursion (IsAged t.format g d h.stands.tree.placed)
    (placed_nodes standing.tree.placed) =
    subst (λ (n : List Pair). (on : Stands g (content_of z.me.0) root n)
    → AllByRecursion (IsAged t.format g d h.stands.tree.placed) (placed_nodes on.tree.placed))
    pairs_is aged standing in
    let ages = made_ages t s.me h (content_of z.me.0) root g d e z.me.0.format z.me.0.seen standing
    first seen refl (changes longer standing) all in
    let leaves : g ≡ format_after z.me.0.format (z.me.0.seen ++ e ∷ []) =
    leaves_format t s.me h g e refl
    ∙ ap (λ (b : Beside). format_after b.seat.me.0.format (b.seat.me.0.seen ++ e ∷ []))
    (sym same) in record {
      has = made t s z h root g e d same standing (changes longer standing) refl early leaves ages;
      answer = answer;
      rows = rows;
      kept = ap (λ (q : Seated). q.me) (frame s z same).0;
    }
