-- What each step tells the seat that makes it, as a relation between what the seat had before and
-- after: its view, and what it holds of the slot; and on which word it is made. A step whose answer
-- depends on what other passes do adds one to `asked`, and a try of the turn that misses one to
-- `missed`.
use Rattle.std.specs.Prelude.{◌≡◌, ◌≢◌, ◌⊎◌, ℕ, ◌+◌, ◌*◌, ◌%◌, ◌<◌, ◌≤◌, ◌==◌, if◌then◌else◌, true, false, List, [], ◌∷◌, ◌++◌, length, slice_index, slice_set, Option, Some, None}
use Rattle.atomic_table.specs.Table.{Me, Step}
use Rattle.mst_key.specs.declared.history.Change.TheVariants.{Remove}
use Rattle.mst_key.specs.declared.history.Event.{Event}
use Rattle.mst_key.specs.History.{History, events_of, IsPrefix}
use Rattle.mst_arena.specs.Lists.{In}
use Rattle.mst_arena.specs.Lives.{last_version}
use Rattle.mst_pin.specs.WordParts.{masks}
use Rattle.mst_words.specs.declared.view.View.{View}
use Rattle.mst_words.specs.declared.view.DeskState.{DeskState}
use Rattle.mst_words.specs.Layout.{most_records, record_words, version_word, row_words, turn_word, current_word, first_record, done_word, record_word, row_word, table_words}
use Rattle.mst_words.specs.Records.{Meaning, field, row, Standing, Agrees, IsBlank}
use Rattle.mst_words.specs.Notes.{IsOfPasses}

-- the event that is named where none is picked
abbrev pub no_event : Event
no_event = record { pass = 0; change = Remove [] }

-- a word that a pinned seat or the holder of the turn may load: of records and rows the holder any,
-- a pinned seat those of its record and of the rows that stand for it
abbrev pub IsReadable : View → ℕ → Type 0
IsReadable v i = ((v.turn ≡ true) × (first_record ≤ i))
    ⊎ (((r k : ℕ) × (v.pin ≡ Some r) × (k < record_words) × (i ≡ record_word r k))
    ⊎ ((r x k : ℕ) × (v.pin ≡ Some r) × In x v.pinned_rows × (k < row_words)
    × (i ≡ row_word v.rows x k)))

-- the word DONE of the record that the seat pins
abbrev pub IsDoneAtPin : View → ℕ → Type 0
IsDoneAtPin v i = (r : ℕ) × (v.pin ≡ Some r) × (i ≡ done_word r)

-- the word DONE of the record whose transfer waits
abbrev pub IsDoneAtDue : View → ℕ → Type 0
IsDoneAtDue v i = (r : ℕ) × (v.due ≡ Some r) × (i ≡ done_word r)

-- a word with a mask of pins: that of the current record, or the word DONE of a record
abbrev pub IsMaskWord : ℕ → Type 0
IsMaskWord i = (i ≡ current_word) ⊎ ((r : ℕ) × (r < most_records) × (i ≡ done_word r))

-- the version, if its record's word DONE is not the mask of the word that was noted
abbrev pub found_now : Option ℕ → ℕ → ℕ → List ℕ
found_now None done version = []
found_now (Some word) done version =
    if word % masks == done then [] else version ∷ []

module _ {S : Type 0} where
  -- a pass that has neither the turn nor the slot nor a pin
  abbrev pub IsFree : ℕ → Me S View → Type 0
  IsFree number m = (m.1 ≡ []) × (m.0.turn ≡ false) × (m.0.pin ≡ None)
      × (m.0.number ≡ number) × (0 < number)

  -- a pass that pins a record
  abbrev pub IsPinned : ℕ → ℕ → Me S View → Type 0
  IsPinned number r m = (m.0.pin ≡ Some r) × (m.0.turn ≡ false) × (m.0.number ≡ number)

  -- the dealer's seat, with a pass left to deal
  abbrev pub IsDealer : Me S View → Type 0
  IsDealer m = (m.1 ≡ []) × (m.0.turn ≡ false) × (m.0.pin ≡ None)
      × (0 < m.0.deals) × (m.0.deals ≤ m.0.passes)

  -- the holder of the turn, with no transfer to make
  abbrev pub IsHolder : Me S View → Type 0
  IsHolder m = (m.0.turn ≡ true) × (m.0.pin ≡ None) × (m.0.due ≡ None)

  -- ---- the turn

  -- nothing changed but that the turn was tried once, in vain: another pass of the store has it
  pub record Misses (m m' : Me S View) : Type 0 where
    pub is : m' ≡ (record m.0 { asked = m.0.asked + 1; missed = m.0.missed + 1 }, m.1)
    pub others : 1 < m.0.passes

  -- the turn and the slot were given back
  abbrev pub Gives : Me S View → Me S View → Type 0
  Gives m m' = m' ≡ (record m.0 { turn = false }, [])

  abbrev pub gives_turn : Step S → Me S View → ℕ → Me S View → Type 0
  gives_turn st m r m' = (st.word ≡ turn_word) × Gives m m'

  -- ---- pins

  -- the pass has no pin, and has seen the history at its pin
  abbrev pub Unpins : Me S View → Me S View → Type 0
  Unpins m m' = m' ≡ (record m.0 { pin = None; seen = m.0.pinned_history }, m.1)

  abbrev pub unpins : Step S → Me S View → ℕ → Me S View → Type 0
  unpins st m r m' = IsDoneAtPin m.0 st.word × Unpins m m'

  -- the pass has no pin, and has seen what it had seen
  abbrev pub Forgets : Me S View → Me S View → Type 0
  Forgets m m' = m' ≡ (record m.0 { pin = None }, m.1)

  abbrev pub forgets : Step S → Me S View → ℕ → Me S View → Type 0
  forgets st m r m' = IsDoneAtPin m.0 st.word × Forgets m m'

  -- ---- words of records and rows

  -- the word may be loaded, and it is the one that is known
  abbrev pub reads : Step S → Me S View → ℕ → Me S View → Type 0
  reads st m r m' =
      IsReadable m.0 st.word × (m' ≡ m) × (r ≡ slice_index m.0.known_words st.word)

  -- the word is stored
  abbrev pub writes : Step S → Me S View → ℕ → Me S View → Type 0
  writes st m r m' =
      m' ≡ (record m.0 { known_words = slice_set m.0.known_words st.word st.first }, m.1)

  -- ---- publication

  -- The history has one event more. The record that was current and the mask of its pins came back,
  -- for the transfer
  pub record Publishes (e : Event) (d : DeskState)
      (m : Me S View) (r : ℕ) (m' : Me S View) : Type 0 where
    pub mask : ℕ
    pub small : mask < masks
    pub returned : r ≡ m.0.desk.current * masks + mask
    pub is : m' ≡ (
      record m.0 {
        seen = m.0.seen ++ e ∷ [];
        mine = m.0.mine ++ e ∷ [];
        due = Some m.0.desk.current;
        mask = mask;
        drained = [];
        blocked = [];
        noted = None;
        desk = d;
        asked = m.0.asked + 1;
      },
      m.1,
    )

  abbrev pub publishes : Event → DeskState → Step S → Me S View → ℕ → Me S View → Type 0
  publishes e d st m r m' = (st.word ≡ current_word) × Publishes e d m r m'

  -- the mask that came back stands in the word DONE of its record
  abbrev pub Transfers : Me S View → Me S View → Type 0
  Transfers m m' = m' ≡ (record m.0 { due = None }, m.1)

  abbrev pub transfers : Step S → Me S View → ℕ → Me S View → Type 0
  transfers st m r m' = IsDoneAtDue m.0 st.word × Transfers m m'

  -- ---- asking

  -- nobody pins the record, until the holder of the turn publishes
  abbrev pub Drained : ℕ → Me S View → Me S View → Type 0
  Drained a m m' = m' ≡ (record m.0 { drained = a ∷ m.0.drained; asked = m.0.asked + 1 }, m.1)

  -- the holder of the turn notes the word of the current record
  pub record NotesCurrent (m : Me S View) (r : ℕ) (m' : Me S View) : Type 0 where
    pub mask : ℕ
    pub small : mask < masks
    pub found : r ≡ m.0.desk.current * masks + mask
    pub is : m' ≡ (record m.0 { noted = Some r; asked = m.0.asked + 1 }, m.1)

  abbrev pub notes_current : Step S → Me S View → ℕ → Me S View → Type 0
  notes_current st m r m' = (st.word ≡ current_word) × NotesCurrent m r m'

  -- The current version was found pinned where the word DONE of its record is not the mask that was
  -- noted. In a store of one pass, which pins nothing while it has the turn, it is that mask. In a
  -- larger store others may pin the record and end their pins between the two loads
  pub record AsksCurrent (m : Me S View) (r : ℕ) (m' : Me S View) : Type 0 where
    pub is : m' ≡ (
      record m.0 {
        found = m.0.found ++ found_now m.0.noted r (length m.0.seen);
        asked = m.0.asked + 1;
      },
      m.1,
    )
    pub alone : m.0.passes ≡ 1 → (mask : ℕ) → mask < masks
        → m.0.noted ≡ Some (m.0.desk.current * masks + mask) → r ≡ mask

  abbrev pub asks_current : Step S → Me S View → ℕ → Me S View → Type 0
  asks_current st m r m' = (st.word ≡ done_word m.0.desk.current) × AsksCurrent m r m'

  -- ---- for tests

  -- a word was loaded, and nothing is said of what was found
  abbrev pub Glances : Me S View → Me S View → Type 0
  Glances m m' = m' ≡ (record m.0 { asked = m.0.asked + 1 }, m.1)

  abbrev pub glances : Step S → Me S View → ℕ → Me S View → Type 0
  glances st m r m' = IsMaskWord st.word × Glances m m'

module _ {S : Type 0} (T : Meaning S) where
  -- a word of a blank row, or of a record that was found drained
  abbrev pub IsWritable : View → ℕ → Type 0
  IsWritable v i = ((x k : ℕ) × IsBlank T v x × (k < row_words)
      × (i ≡ row_word v.rows x k))
      ⊎ ((r k : ℕ) × In r v.drained × (k < record_words) × (i ≡ record_word r k))

  -- The pass, one of the store's, has the turn and the slot with its desk, and has seen the whole
  -- history, in which each event is of a pass of the store. The words of the table are known; in
  -- them the current record stands for the history
  pub record Takes (m m' : Me S View) : Type 0 where
    pub value : S
    pub desk : DeskState
    pub log : History
    pub words : List ℕ
    pub used : List ℕ
    pub dealt : (0 < m.0.number) × (m.0.number ≤ m.0.passes)
    pub is_desk : T.IsDesk value m.0.rows m.0.passes desk
    pub later : IsPrefix m.0.seen log
    pub own : events_of m.0.number log ≡ m.0.mine
    pub alone : IsOfPasses m.0.passes log
    pub short : length log ≤ last_version
    pub wide : length words ≡ table_words m.0.rows
    pub stands : Standing T m.0.rows m.0.passes words log desk desk.current log used
    pub is : m' ≡ (
      record m.0 {
        seen = log;
        known_words = words;
        turn = true;
        desk = desk;
        due = None;
        mask = 0;
        drained = [];
        blocked = [];
        noted = None;
        found = [];
        asked = m.0.asked + 1;
      },
      (0, value) ∷ [],
    )

  -- Another pass pinned the record, which stood for the map at a place of the history, by what the
  -- holder of the turn knows. There are fewer such records than other passes
  pub record Blocked (a : ℕ) (m m' : Me S View) : Type 0 where
    pub fewer : length m.0.blocked + 1 < m.0.passes
    pub place : History
    pub used : List ℕ
    pub stands : Standing T m.0.rows m.0.passes m.0.known_words m.0.seen m.0.desk a place used
    pub is : m' ≡ (
      record m.0 {
        blocked = a ∷ m.0.blocked;
        found = m.0.found ++ T.version m.0.desk a ∷ [];
        asked = m.0.asked + 1;
      },
      m.1,
    )

  -- the record is the one whose word DONE was loaded
  abbrev pub asks : Step S → Me S View → ℕ → Me S View → Type 0
  asks st m r m' = (a : ℕ) × (st.word ≡ done_word a)
      × (r ≡ 0 → Drained a m m') × (r ≢ 0 → Blocked a m m')

  abbrev pub takes_turn : Step S → Me S View → ℕ → Me S View → Type 0
  takes_turn st m r m' =
      (st.word ≡ turn_word) × (r ≡ 0 → Takes m m') × (r ≢ 0 → Misses m m')

  -- what the holder of the turn has to know to give it back with a desk: for each record that it
  -- did not find drained, its version reaches the same rows as before
  pub record IsGiving (x : S) (d : DeskState) (m : Me S View) : Type 0 where
    pub on : m.0.turn ≡ true
    pub settled : m.0.due ≡ None
    pub slot : m.1 ≡ (0, x) ∷ []
    pub is_desk : T.IsDesk x m.0.rows m.0.passes d
    pub current : d.current ≡ m.0.desk.current
    pub agrees : (r : ℕ) → r < m.0.passes + 2 → (In r m.0.drained → ⊥) → Agrees T m.0.desk d r

  -- The pass pins the current record, which stands for the whole history, in which each event is of
  -- a pass of the store. The record's words and those of its rows stay
  pub record PinsNow (m : Me S View) (found : ℕ) (m' : Me S View) : Type 0 where
    pub cur : ℕ
    pub mask : ℕ
    pub log : History
    pub words : List ℕ
    pub used : List ℕ
    pub found_is : found ≡ cur * masks + mask
    pub small : mask < masks
    pub in_table : cur < m.0.passes + 2
    pub wide : length words ≡ table_words m.0.rows
    pub later : IsPrefix m.0.seen log
    pub own : events_of m.0.number log ≡ m.0.mine
    pub alone : IsOfPasses m.0.passes log
    pub version : field words cur version_word ≡ length log
    pub stands : T.Stands (row m.0.rows words) (field words cur) (T.after log) used
    pub inside : (x : ℕ) → In x used → x < m.0.rows
    pub is : m' ≡ (
      record m.0 {
        pin = Some cur;
        pinned_history = log;
        pinned_rows = used;
        known_words = words;
        asked = m.0.asked
            + 1;
      },
      m.1,
    )

  abbrev pub pins_now : Step S → Me S View → ℕ → Me S View → Type 0
  pins_now st m r m' = (st.word ≡ current_word) × PinsNow m r m'

  -- what the holder of the turn has to know to publish a drained record, of an event, after which
  -- the desk is d: the record stands for the longer history, and for each record that it did not
  -- find drained, its version reaches the same rows as before
  pub record IsReady (into : ℕ) (e : Event) (d : DeskState) (used : List ℕ)
      (v : View) : Type 0 where
    pub on : v.turn ≡ true
    pub unpinned : v.pin ≡ None
    pub settled : v.due ≡ None
    pub drained : In into v.drained
    pub mine : e.pass ≡ v.number
    pub room : length v.seen < last_version
    pub desk_at : d.current ≡ into
    pub stands : Standing T v.rows v.passes v.known_words (v.seen ++ e ∷ []) d into
        (v.seen ++ e ∷ []) used
    pub agrees : (r : ℕ) → r < v.passes + 2 → (In r v.drained → ⊥) → Agrees T v.desk d r
