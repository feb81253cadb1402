-- What a line asks of a script over a sharded map, and answers: by which call of its writer, of a
-- reader, or of a snapshot.
use Rattle.std.specs.Prelude.{◌≡◌, ◌≢◌, ◌⊎◌, ◌<◌, ◌+◌, ◌^◌, ℕ, ◌-◌, Bool, true, false, List, [], ◌∷◌, ◌++◌, length, map, slice_index_or, Option, Some, None, Result, Ok, Err, codes}
use Rattle.std.specs.List.{slice_set}
use Rattle.hex.specs.Hex.{encode_lower}
use Rattle.mst_key.specs.declared.format.Format.{Format}
use Rattle.mst_key.specs.declared.history.Edit.{Edit}
use Rattle.mst_key.specs.declared.history.Edit.TheVariants as edit
use Rattle.mst_key.specs.History.{key_of}
use Rattle.mst_key.specs.Map.{Pair, map_get, map_next, map_range}
use Rattle.mst_key.specs.Digits.{digits_of}
use Rattle.mst_store.specs.Passes.{Answers, Looks}
use Rattle.mst_requests.specs.declared.request.Fault.{Fault}
use Rattle.mst_requests.specs.declared.request.Command.{Command}
use Rattle.mst_requests.specs.declared.request.Command.TheVariants.{Put, Remove, Migrate, Batch, Get, Next, Range, Root, Node, Prove, Pin, Unpin, Rows}
use Rattle.mst_requests.specs.declared.request.Command.TheVariants as ask
use Rattle.mst_requests.specs.declared.request.Request.{Request}
use Rattle.mst_requests.specs.Grammar.{asked}
use Rattle.mst_requests.specs.Texts.{line_of, fault_words, value_words, found_words, count_words, pair_lines, pinned_words, was_words, format_words}
use Rattle.mst_script.specs.Machine.{LacksMemory, IsMispinned}
use Rattle.mst_sharded_proof.specs.Frame.{sharded_proof}
use Rattle.mst_sharded_proof.specs.Theorem.{HasShardedRoot}
use Rattle.mst_shards.specs.BlockHistory.{Whole, IsNumber, IsOneBlock}
use Rattle.mst_shards.specs.Directory.{AllIn, OfClean}
use Rattle.mst_shards.specs.Sharding.{Routes, map_of}
use Rattle.mst_snapshots.specs.Reading.{SeesOn}
use Rattle.mst_snapshots.specs.Tries.{PinsAfter}
use Rattle.mst_blocks.specs.declared.faults.BlockFault.{BlockFault}
use Rattle.mst_blocks.specs.Blocks.{last_made, LeavesAll}
use Rattle.mst_blocks.specs.Writing.{last_block, block_map, AddsBlock, RefusesBlock}
use Rattle.mst_sharded_script.specs.States.{PassState, Free, Pinned, unpinned, LayoutState, ScriptState, NewMapState, in_format, moved}
use Rattle.mst_sharded_script.specs.Opening.{Opens}
use Rattle.mst_sharded_script.specs.Answers.{block_words}

-- ---- what the writer does, from w to x

-- the edits are the next block, which is answered the text `told`, or they are refused
abbrev pub Makes : List ℕ → List Edit → Whole → List ℕ → Whole → Type 0
Makes told es w text x = ((text ≡ told) × AddsBlock es w x)
    ⊎ ((fault : BlockFault) × (text ≡ line_of (block_words fault)) × RefusesBlock fault es w x)

-- the value of a key in the last block was looked up, in one step of the pass of its shard, and
-- nothing was made
pub record LooksUp (k : List ℕ) (found : Option (List ℕ)) (w x : Whole) : Type 0 where
  pub found_is : found ≡ map_get (block_map w) k
  pub once : Routes k (λ p q. q.asked ≡ p.asked + 1) w.sharding x.sharding
  pub directory : x.directory ≡ w.directory
  pub map : block_map x ≡ block_map w
  pub left : LeavesAll w.sharding.shards x.sharding.shards w.directory x.directory

-- another has written to the key's shard, as one step of its pass told, and nothing was made
pub record FindsOther (k : List ℕ) (w : Whole) (text : List ℕ) (x : Whole) : Type 0 where
  pub told : text ≡ line_of (codes "overtaken")
  pub other : Routes k (λ p q. Looks p q × (length q.seen ≢ last_made p)) w.sharding x.sharding
  pub once : Routes k (λ p q. q.asked ≡ p.asked + 1) w.sharding x.sharding
  pub directory : x.directory ≡ w.directory
  pub left : LeavesAll w.sharding.shards x.sharding.shards w.directory x.directory

-- a put or a remove: a look-up of its key, and then a block of one edit
abbrev pub Writes : Edit → Whole → List ℕ → Whole → Type 0
Writes e w text x = ((old : Option (List ℕ)) × (u : Whole) × LooksUp (key_of e) old w u
    × Makes (line_of (value_words old)) (e ∷ []) u text x) ⊎ FindsOther (key_of e) w text x

-- a batch is one block, unless a list of its edits was refused memory; that of no edits takes none
abbrev pub Applies : List Edit → Whole → List ℕ → Whole → Type 0
Applies es w text x = Makes (line_of (codes "done")) es w text x
    ⊎ (LacksMemory text × (0 < length es) × (x ≡ w))

-- ---- what a reader does

-- a look-up, by the pass of the key's shard, which looks once: no other pass makes a step
pub record Gets (k : List ℕ) (r : Whole) (text : List ℕ) (q : Whole) : Type 0 where
  pub found : Option (List ℕ)
  pub told : text ≡ line_of (value_words found)
  pub answers : Routes k (λ x y. Answers (λ _ m. map_get m k) x found y) r.sharding q.sharding
  pub once : Routes k (λ x y. y.asked ≡ x.asked + 1) r.sharding q.sharding
  pub directory : q.directory ≡ r.directory

-- A snapshot: it is of one block, and has seen all that the reader had seen. Each try is one step
-- of each pass, and another follows only where what was pinned was not of one block
pub record Takes (r y : Whole) : Type 0 where
  pub later : SeesOn r y
  pub tries : PinsAfter r y
  pub one : IsOneBlock y

-- what a read finds in the map of a snapshot; for some of it memory is taken
abbrev pub Finds : Command → Whole → List ℕ → Type 0
Finds (Get k) y text = text ≡ line_of (value_words (map_get (map_of y.sharding) k))
Finds (Next bound) y text = text ≡ line_of (found_words (map_next (map_of y.sharding) bound))
Finds (Range from to n) y text =
    (text ≡ line_of (count_words (map_range (map_of y.sharding) from to n))
    ++ pair_lines (map_range (map_of y.sharding) from to n)) ⊎ LacksMemory text
Finds Root y text = (digest : List ℕ) × (text ≡ line_of (digits_of digest))
    × OfClean (λ format m. HasShardedRoot format m y.sharding.splits digest) y.sharding
Finds (Prove k) y text = ((bytes : List ℕ) × (text ≡ line_of (encode_lower bytes))
    × OfClean (λ format m. bytes ≡ sharded_proof format m y.sharding.splits k) y.sharding)
    ⊎ LacksMemory text
Finds ask.Format y text =
    (format : Format) × (text ≡ line_of (format_words format)) × AllIn format y.sharding
Finds _ y text = ⊥

-- by a snapshot for this line alone
pub record LooksAt (read : Command) (r : Whole) (text : List ℕ) (p : PassState) : Type 0 where
  pub y : Whole
  pub takes : Takes r y
  pub finds : Finds read y text
  pub free : p ≡ Free y

-- 64 bits do not hold the number of this block's version, after so many versions before the map
abbrev pub IsBeyond : ℕ → Whole → List ℕ → Type 0
IsBeyond before y text =
    (n : ℕ) × IsNumber n y × ¬ (before + n < 2 ^ 64) × (text ≡ line_of (codes "spent"))

-- a snapshot is kept, and the number of its version told
pub record Pins (before : ℕ) (r : Whole) (text : List ℕ) (p : PassState) : Type 0 where
  pub y : Whole
  pub takes : Takes r y
  pub kept : ((n : ℕ) × IsNumber n y × (text ≡ line_of (pinned_words (before + n)))
      × (p ≡ Pinned y None)) ⊎ (IsBeyond before y text × (p ≡ Free y))

-- ---- migrations

-- the edits that put each of these pairs
abbrev pub puts_of : List Pair → List Edit
puts_of m = map (λ p. edit.Put p.0 p.1) m

-- A new map in this format, with the splits and the shape of the old one, and in its block 1 all
-- pairs of the snapshot
pub record Loads (to : Format) (l : LayoutState) (y w : Whole) (readers : List Whole)
    : Type 0 where
  pub begun : Whole
  pub opened : Opens l.splits (in_format to l.shape) begun readers
  pub loaded : AddsBlock (puts_of (map_of y.sharding)) begun w

-- why there is none: a growth was refused, or block 1
abbrev pub LacksMap : Format → LayoutState → Whole → List ℕ → Type 0
LacksMap to l y text = LacksMemory text
    ⊎ ((begun : Whole) × (readers : List Whole)
    × Opens l.splits (in_format to l.shape) begun readers × (fault : BlockFault) × (w : Whole)
    × RefusesBlock fault (puts_of (map_of y.sharding)) begun w
    × (text ≡ line_of (block_words fault)))

-- the new map takes the place of the one of writer w: its block 1 is one version more
pub record MovesTo (to : Format) (l : LayoutState) (w y : Whole) (new : NewMapState)
    : Type 0 where
  pub loads : Loads to l y new.writer new.readers
  pub format : new.format ≡ to
  pub n : ℕ
  pub number : IsNumber n (last_block w)
  pub before : new.before ≡ l.before + n

-- the map moves, and the format that it leaves is told; or nothing has changed
abbrev pub Moves : Format → Format → LayoutState → Whole → Whole → List ℕ → Option NewMapState
    → Type 0
Moves was to l w y text (Some new) = (text ≡ line_of (was_words was)) × MovesTo to l w y new
Moves was to l w y text None = LacksMap to l y text ⊎ IsBeyond l.before (last_block w) text

-- A migration looks at a snapshot for this line alone. To the format that stands it is a block of
-- no edits, and to the other one a move to a new map
pub record Migrates (to : Format) (l : LayoutState) (w r : Whole) (text : List ℕ) (x : Whole)
    (p : PassState) (new : Option NewMapState) : Type 0 where
  pub y : Whole
  pub takes : Takes r y
  pub free : p ≡ Free y
  pub was : Format
  pub stands : AllIn was y.sharding
  pub step : ((was ≡ to) × Makes (line_of (was_words was)) [] w text x × (new ≡ None))
      ⊎ ((was ≢ to) × Moves was to l w y text new × (x ≡ w))

-- ---- the steps

-- what no sharded map has: the top node of a tree, a count of rows
abbrev pub IsNoSuch : List ℕ → Type 0
IsNoSuch text = text ≡ line_of (codes "fault L7")

-- what a pass that pins nothing, with the reader r, is asked for and answers: the writer and the
-- pass then
abbrev pub Acts : Command → ℕ → Whole → Whole → List ℕ → Whole → PassState → Type 0
Acts (Put k v) before w r text x p = Writes (edit.Put k v) w text x × (p ≡ Free r)
Acts (Remove k) before w r text x p = Writes (edit.Remove k) w text x × (p ≡ Free r)
Acts (Batch es) before w r text x p = Applies es w text x × (p ≡ Free r)
Acts (Get k) before w r text x p = ((q : Whole) × Gets k r text q × (p ≡ Free q)) × (x ≡ w)
Acts Node before w r text x p = IsNoSuch text × (p ≡ Free r) × (x ≡ w)
Acts Rows before w r text x p = IsNoSuch text × (p ≡ Free r) × (x ≡ w)
Acts Unpin before w r text x p = IsMispinned text × (p ≡ Free r) × (x ≡ w)
Acts Pin before w r text x p = Pins before r text p × (x ≡ w)
Acts (Migrate to) before w r text x p = ⊥
Acts read before w r text x p = LooksAt read r text p × (x ≡ w)

-- what a pass that pins this snapshot is asked for, but to unpin it, and answers
abbrev pub Recalls : Command → Whole → List ℕ → Type 0
Recalls (Put k v) y text = IsMispinned text
Recalls (Remove k) y text = IsMispinned text
Recalls (Batch es) y text = IsMispinned text
Recalls (Migrate to) y text = IsMispinned text
Recalls Pin y text = IsMispinned text
Recalls Node y text = IsNoSuch text
Recalls Rows y text = IsNoSuch text
Recalls Unpin y text = ⊥
Recalls read y text = Finds read y text

-- the step of such a pass
abbrev pub PinnedStep : Command → Whole → Option Whole → List ℕ → PassState → Type 0
PinnedStep Unpin y spare text p =
    (text ≡ line_of (codes "unpinned")) × (p ≡ Free (unpinned y spare))
PinnedStep command y spare text p = Recalls command y text × (p ≡ Pinned y spare)

-- the step of one that pins nothing: the writer and the pass then, and the map that takes the place
-- of the old one
abbrev pub FreeStep : Command → LayoutState → Whole → Whole → List ℕ → Whole → PassState
    → Option NewMapState → Type 0
FreeStep (Migrate to) l w r text x p new = Migrates to l w r text x p new
FreeStep command l w r text x p new = Acts command l.before w r text x p × (new ≡ None)

abbrev pub Step : Command → LayoutState → Whole → PassState → List ℕ → Whole → PassState
    → Option NewMapState → Type 0
Step command l w (Free r) text x p new = FreeStep command l w r text x p new
Step command l w (Pinned y spare) text x p new =
    PinnedStep command y spare text p × (x ≡ w) × (new ≡ None)

-- the script after a step of the pass at this place
abbrev pub stepped : ℕ → Whole → PassState → ScriptState → ScriptState
stepped place x p s =
    record { writer = x; passes = slice_set s.passes place p; layout = s.layout }

abbrev pub moved_if : Option NewMapState → ScriptState → ScriptState
moved_if None s = s
moved_if (Some new) s = moved new s

-- the pass at this place, from 0, made its step, and the others made none
pub record StepsAt (place : ℕ) (command : Command) (s : ScriptState) (text : List ℕ)
    (t : ScriptState) : Type 0 where
  pub pass : PassState
  pub here : (d : PassState) → slice_index_or s.passes place d ≡ pass
  pub x : Whole
  pub p : PassState
  pub new : Option NewMapState
  pub step : Step command s.layout s.writer pass text x p new
  pub now : t ≡ moved_if new (stepped place x p s)

-- the pass of a request made its step; a request that is refused is answered its fault
abbrev pub ServesRequest : Result Request Fault → ScriptState → List ℕ → ScriptState → Type 0
ServesRequest (Ok request) s text t = StepsAt (request.pass - 1) request.command s text t
ServesRequest (Err fault) s text t = (text ≡ line_of (fault_words fault)) × (t ≡ s)

-- what is kept of a line is answered with the text: the passes are numbered from 1
abbrev pub Serves : ScriptState → Option (List ℕ) → List ℕ → ScriptState → Type 0
Serves s line text t = ServesRequest (asked (length s.passes) line) s text t

-- to end a pin, to migrate to a format, and to read by a snapshot for one line
abbrev pub is_unpin : Command → Bool
is_unpin Unpin = true
is_unpin _ = false

abbrev pub migration_of : Command → Option Format
migration_of (Migrate to) = Some to
migration_of _ = None

abbrev pub is_look : Command → Bool
is_look (Next bound) = true
is_look (Range from to n) = true
is_look Root = true
is_look (Prove k) = true
is_look ask.Format = true
is_look _ = false
