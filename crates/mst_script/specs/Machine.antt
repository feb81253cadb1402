-- The script machine: what a line is answered, and the machine's next state. Its state is the
-- history so far, and for each pass the version that it pins, or none.
use Rattle.std.specs.Prelude.{◌≡◌, ◌≢◌, ℕ, ◌==◌, ◌<◌, ◌⊎◌, List, [], ◌∷◌, ◌++◌, length, take, if◌then◌else◌, Option, None, Some, Result, Ok, Err, codes}
use Rattle.hex.specs.Hex.{encode_lower}
use Rattle.mst_key.specs.declared.format.Format.{Format}
use Rattle.mst_key.specs.declared.history.Change.{Change}
use Rattle.mst_key.specs.declared.history.Change.TheVariants as change
use Rattle.mst_key.specs.declared.history.Edit.{Edit}
use Rattle.mst_key.specs.declared.history.Event.{Event}
use Rattle.mst_key.specs.Map.{Pair, map_get, map_next, map_range}
use Rattle.mst_key.specs.History.{History, after, format_after, reply}
use Rattle.mst_key.specs.Digits.{digits_of}
use Rattle.mst_node.specs.Text.{root, text as text_of_node}
use Rattle.mst_node.specs.Tree.{Tree, empty, node, tree}
use Rattle.mst_node.specs.Trail.{proof_text}
use Rattle.mst_arena.specs.Lives.{last_version}
use Rattle.mst_versions.specs.Writes.{rows_of, LacksRoomBeside}
use Rattle.mst_store.specs.Passes.{StoreId, HasRoom, LacksRoom}
use Rattle.mst_requests.specs.declared.request.Fault.{Fault}
use Rattle.mst_requests.specs.declared.request.Fault.TheVariants.{Pinning}
use Rattle.mst_requests.specs.declared.request.Command.{Command}
use Rattle.mst_requests.specs.declared.request.Command.TheVariants.{Put, Remove, Migrate, Batch, Get, Next, Range, Root, Node, Prove, Pin, Unpin, Rows}
use Rattle.mst_requests.specs.declared.request.Command.TheVariants as ask
use Rattle.mst_requests.specs.declared.request.Request.{Request}
use Rattle.mst_requests.specs.Grammar.{asked}
use Rattle.mst_requests.specs.Texts.{line_of, fault_words, value_words, found_words, count_words, pair_lines, pinned_words, rows_words, format_words, reply_words}

-- The history so far, and which version each pass pins, if it pins one: the version is that of this
-- many first events.
pub record Machine : Type 0 where
  pub history : History
  pub pinned : ℕ → Option ℕ

-- the machine at this history, where no pass pins a version
abbrev pub with_no_pins : History → Machine
with_no_pins h = record { history = h; pinned = λ p. None }

-- the machine, when the pass p pins this version, or none
abbrev pub with_pin : ℕ → Option ℕ → Machine → Machine
with_pin p version m =
    record { history = m.history; pinned = λ q. if q == p then version else m.pinned q }

-- ---- what is written of a tree

-- the text of the top node of a tree
abbrev pub top_words : Tree → List ℕ
top_words empty = codes "empty"
top_words (node format l es) = encode_lower (text_of_node (node format l es))

-- ---- the freedoms: answers that change nothing

-- another pass has the turn, so there are several
abbrev pub IsBusy : StoreId → List ℕ → Type 0
IsBusy store text = (text ≡ line_of (codes "busy")) × (1 < store.passes)

-- a pass was found that pins a version, so there are several
abbrev pub IsHeld : StoreId → List ℕ → Type 0
IsHeld store text = (text ≡ line_of (rows_words None)) × (store.passes ≢ 1)

-- the memory for what a read finds, for the tree of a migration or for a batch was refused
abbrev pub LacksMemory : List ℕ → Type 0
LacksMemory text = text ≡ line_of (codes "memory")

-- the last version was made
abbrev pub IsSpent : History → List ℕ → Type 0
IsSpent h text = (text ≡ line_of (codes "spent")) × (length h ≡ last_version)

-- There is a next version, and the change finds no room: the last version and those that were found
-- pinned, fewer than the passes, hold too many rows. Where there is one pass, the rows that the map
-- leaves over are too few
abbrev pub HasNoRoom : StoreId → Change → History → List ℕ → Type 0
HasNoRoom store change h text = (text ≡ line_of (codes "noroom")) × (length h < last_version)
    × (store.passes ≡ 1 → LacksRoom store.rows (format_after store.format h) (after h) change)
    × ((found : List ℕ) × LacksRoomBeside store.format store.rows store.passes h found change)

-- there is a next version, and in another format the tree finds no memory or no room
abbrev pub HasNoTree : StoreId → Format → History → List ℕ → Type 0
HasNoTree store to h text = (format_after store.format h ≢ to) × (length h < last_version)
    × (LacksMemory text ⊎ HasNoRoom store (change.Migrate to) h text)

-- ---- writes and counts

-- The event is added, and the answer is what the history replies: the value that its key had, the
-- format that was left, or that a batch was made. There is a next version, and room.
pub record Adds (store : StoreId) (e : Event) (h : History) (text : List ℕ)
    (new : History) : Type 0 where
  pub answer : text ≡ line_of (reply_words (reply store.format h e))
  pub added : new ≡ h ++ e ∷ []
  pub numbered : length h < last_version
  pub room : HasRoom store.rows (format_after store.format h) (after h) e.change

-- a put or a remove
abbrev pub Writes : StoreId → ℕ → Change → History → List ℕ → History → Type 0
Writes store p change h text new =
    Adds store (record { pass = p; change = change }) h text new
    ⊎ ((IsBusy store text ⊎ IsSpent h text ⊎ HasNoRoom store change h text) × (new ≡ h))

-- a migration
abbrev pub Migrates : StoreId → ℕ → Format → History → List ℕ → History → Type 0
Migrates store p to h text new =
    Adds store (record { pass = p; change = change.Migrate to }) h text new
    ⊎ ((IsBusy store text ⊎ IsSpent h text ⊎ HasNoTree store to h text) × (new ≡ h))

-- a batch; one of no edits takes no memory
abbrev pub Applies : StoreId → ℕ → List Edit → History → List ℕ → History → Type 0
Applies store p es h text new = Writes store p (change.Batch es) h text new
    ⊎ (LacksMemory text × (0 < length es) × (new ≡ h))

-- the count of the map's rows, for which the turn is taken
abbrev pub Counts : StoreId → History → List ℕ → History → Type 0
Counts store h text new =
    ((text ≡ line_of (rows_words (Some (rows_of (format_after store.format h) (after h)))))
    ⊎ IsBusy store text ⊎ IsHeld store text) × (new ≡ h)

-- ---- reads

-- what a read finds in a map whose tree is in a format; for some of it memory is taken
abbrev pub Finds : Command → Format → List Pair → List ℕ → Type 0
Finds (Get k) f m text = text ≡ line_of (value_words (map_get m k))
Finds (Next bound) f m text = text ≡ line_of (found_words (map_next m bound))
Finds (Range from to n) f m text =
    (text ≡ line_of (count_words (map_range m from to n)) ++ pair_lines (map_range m from to n))
    ⊎ LacksMemory text
Finds Root f m text = text ≡ line_of (digits_of (root f m))
Finds Node f m text = (text ≡ line_of (top_words (tree f m))) ⊎ LacksMemory text
Finds (Prove k) f m text = (text ≡ line_of (encode_lower (proof_text f m k))) ⊎ LacksMemory text
Finds ask.Format f m text = text ≡ line_of (format_words f)
Finds _ f m text = ⊥

-- ---- the steps

-- the pass pins a version where it may not, or pins none where it must
abbrev pub IsMispinned : List ℕ → Type 0
IsMispinned text = text ≡ line_of (fault_words Pinning)

-- what a pass that pins no version is asked for, but to pin one, and answers; and the history then
abbrev pub Acts : StoreId → ℕ → Command → History → List ℕ → History → Type 0
Acts store p (Put k v) h text new = Writes store p (change.Put k v) h text new
Acts store p (Remove k) h text new = Writes store p (change.Remove k) h text new
Acts store p (Migrate to) h text new = Migrates store p to h text new
Acts store p (Batch es) h text new = Applies store p es h text new
Acts store p Rows h text new = Counts store h text new
Acts store p Pin h text new = ⊥
Acts store p Unpin h text new = IsMispinned text × (new ≡ h)
Acts store p read h text new =
    Finds read (format_after store.format h) (after h) text × (new ≡ h)

-- the step of a pass that pins no version
abbrev pub FreeStep : StoreId → ℕ → Command → Machine → List ℕ → Machine → Type 0
FreeStep store p Pin m text new = (text ≡ line_of (pinned_words (length m.history)))
    × (new ≡ with_pin p (Some (length m.history)) m)
FreeStep store p command m text new =
    Acts store p command m.history text new.history × (new.pinned ≡ m.pinned)

-- what a pass is asked for that pins a version with this map, in this format, but to unpin it, and
-- answers
abbrev pub Recalls : Command → Format → List Pair → List ℕ → Type 0
Recalls (Put k v) f m text = IsMispinned text
Recalls (Remove k) f m text = IsMispinned text
Recalls (Migrate to) f m text = IsMispinned text
Recalls (Batch es) f m text = IsMispinned text
Recalls Rows f m text = IsMispinned text
Recalls Pin f m text = IsMispinned text
Recalls Unpin f m text = ⊥
Recalls read f m text = Finds read f m text

-- the step of a pass that pins the version n
abbrev pub PinnedStep : StoreId → ℕ → ℕ → Command → Machine → List ℕ → Machine → Type 0
PinnedStep store p n Unpin m text new =
    (text ≡ line_of (codes "unpinned")) × (new ≡ with_pin p None m)
PinnedStep store p n command m text new =
    Recalls command (format_after store.format (take n m.history)) (after (take n m.history)) text
    × (new ≡ m)

abbrev pub StepOf : Option ℕ → StoreId → ℕ → Command → Machine → List ℕ → Machine → Type 0
StepOf None store p command m text new = FreeStep store p command m text new
StepOf (Some n) store p command m text new = PinnedStep store p n command m text new

-- what the pass p is asked for, and answers
abbrev pub Step : StoreId → ℕ → Command → Machine → List ℕ → Machine → Type 0
Step store p command m text new = StepOf (m.pinned p) store p command m text new

-- a request that is refused is answered its fault, and changes nothing
abbrev pub AnswersRequest : StoreId → Result Request Fault → Machine → List ℕ → Machine → Type 0
AnswersRequest store (Ok request) m text new = Step store request.pass request.command m text new
AnswersRequest store (Err fault) m text new = (text ≡ line_of (fault_words fault)) × (new ≡ m)

-- what is kept of a line is answered with the text
abbrev pub Line : StoreId → Machine → Option (List ℕ) → List ℕ → Machine → Type 0
Line store m line text new = AnswersRequest store (asked store.passes line) m text new
