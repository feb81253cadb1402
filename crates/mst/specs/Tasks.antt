-- The tasks of the program: what each read and wrote, and when one is refused.
use Rattle.std.specs.Prelude.{◌≡◌, ◌⊎◌, ℕ, List, [], Some, None, IsSome, string_bytes}
use Rattle.mst_words.specs.declared.view.Shape.{Shape}
use Rattle.mst_store.specs.Passes.{IsShape}
use Rattle.mst_devices.specs.Device.{Breaks, Flow}
use Rattle.mst_lines.specs.Runs.{Ran, Stopped}
use Rattle.mst_report.specs.Words.{root_of, key_of}
use Rattle.mst_arguments.specs.declared.task.Task.{Task}
use Rattle.mst_arguments.specs.declared.task.Task.TheVariants.{Run, RunSharded, Verify, UnknownFormat, Replay as TaskReplay, Load, Help}
use Rattle.mst_arguments.specs.declared.task.Ending.{Ending}
use Rattle.mst_arguments.specs.declared.task.Ending.TheVariants.{Done}
use denote.Ref.{Bor}
use Rattle.mst_arguments.specs.declared.task.Refusal.{Refusal}
use Rattle.mst_arguments.specs.declared.task.Refusal.TheVariants.{Words, NotText, Shape as BadShape, Splits, BadRoot, BadKey, Device, Memory}
use Rattle.mst_arguments.specs.Commanding.{AskText, AsksFor, IsPlain, IsTold, Unread, Untouched, asks_verify}
use Rattle.mst_command.specs.Loading.{IsLoadSize, RanLoad, BrokeLoad}
use Rattle.mst_command.specs.Programs.{RanScript, BrokeScript, RanReplay, BrokeReplay, RanVerify, BrokeVerify}
use Rattle.mst_command.specs.Splits.{splits_of}
use Rattle.mst_shards.specs.Sharding.{IsSplits}
use Rattle.mst_sharded_script.specs.Opening.{IsScriptShape, IsNewScript}
use Rattle.mst_sharded_script.specs.States.{ScriptState}
use Rattle.mst_sharded_script.specs.Serving.{Serves}

-- a script over a new sharded map with the splits that the word spells, and with shards of this
-- size, all within the limits
pub record IsOpened (shape : Shape) (word : List ℕ) (script : ScriptState) : Type 0 where
  pub fits : IsScriptShape shape
  pub splits : List (List ℕ)
  pub spelt : splits_of word ≡ Some splits
  pub rise : IsSplits splits
  pub opened : IsNewScript splits shape script

-- The source gave a script, and the sink took what such a map answers its lines.
pub record RanSharded {S W : Type 0}
    (gives : Flow S) (takes : Flow W) (shape : Shape) (word : List ℕ)
    (s : S) (w : W) (t : S) (x : W) : Type 0 where
  pub first : ScriptState
  pub opened : IsOpened shape word first
  pub last : ScriptState
  pub ran : Ran gives takes Serves s w first t x last

-- The same, where a device failed.
pub record BrokeSharded {S W : Type 0}
    (gives : Flow S) (takes : Flow W) (failures : W → ℕ) (shape : Shape) (word : List ℕ)
    (s : S) (w : W) (t : S) (x : W) : Type 0 where
  pub first : ScriptState
  pub opened : IsOpened shape word first
  pub last : ScriptState
  pub stopped : Stopped gives takes failures Serves s w first t x last

-- From the one state of the source and the sink to the other the task was done, and ended so.
abbrev pub Did : {S W : Type 0} → Flow S → (S → ℕ) → Flow W
    → Task → S → W → Ending → S → W → Type 0
Did gives left takes (Run shape) s w ending t x =
    RanScript gives takes shape s w t x × (left t ≡ 0) × (ending ≡ Done)
Did gives left takes (RunSharded shape splits) s w ending t x =
    RanSharded gives takes shape splits.now s w t x × (left t ≡ 0) × (ending ≡ Done)
Did gives left takes (Verify kind format root key) s w ending t x =
    RanVerify gives left takes (kind, Some format, root.now, key.now) s w ending t x
Did gives left takes UnknownFormat s w ending t x = ⊥
Did gives left takes TaskReplay s w ending t x =
    RanReplay gives takes s w t x × (left t ≡ 0) × (ending ≡ Done)
Did gives left takes (Load size) s w ending t x = RanLoad takes size w x × (t ≡ s) × (ending ≡ Done)
Did gives left takes (Help text) s w ending t x =
    takes w (string_bytes text) x × (t ≡ s) × (ending ≡ Done)

-- A device failed while the task was done: what was read, and what the sink took.
abbrev pub Broke : {S W : Type 0} → Flow S → (S → ℕ) → Flow W → (W → ℕ)
    → Task → S → W → S → W → Type 0
Broke gives left takes failures (Run shape) s w t x = BrokeScript gives takes failures shape s w t x
Broke gives left takes failures (RunSharded shape splits) s w t x =
    BrokeSharded gives takes failures shape splits.now s w t x
Broke gives left takes failures (Verify kind format root key) s w t x =
    (x ≡ w) ⊎ BrokeVerify gives left takes (kind, Some format, root.now, key.now) s w t x
Broke gives left takes failures UnknownFormat s w t x = ⊥
Broke gives left takes failures TaskReplay s w t x = BrokeReplay gives takes failures s w t x
Broke gives left takes failures (Load size) s w t x = BrokeLoad takes size w x × (t ≡ s)
Broke gives left takes failures (Help text) s w t x =
    Breaks takes w [] (string_bytes text) x × (t ≡ s)

-- A text was written that the words may be told, which name no task but ask for a text, and nothing
-- was read.
pub record Helped {S W : Type 0}
    (takes : Flow W) (words : List (Bor (List ℕ)))
    (s : S) (w : W) (t : S) (x : W) : Type 0 where
  pub asked : AskText words
  pub other : ¬ (IsPlain words)
  pub text : List ℕ
  pub told : IsTold words text
  pub taken : takes w text x
  pub unread : t ≡ s

-- a task over a store that cannot have its size, in a format that there is not, or a load that
-- cannot have its numbers
abbrev pub HasBadShape : Task → Type 0
HasBadShape (Run shape) = ¬ (IsShape shape)
HasBadShape (RunSharded shape splits) = ¬ (IsScriptShape shape)
HasBadShape UnknownFormat = Unit {0}
HasBadShape (Load size) = ¬ (IsLoadSize size)
HasBadShape _ = ⊥

-- a word spells no splits that a sharded map may have
abbrev pub SpellsBadSplits : List ℕ → Type 0
SpellsBadSplits word = (splits : List (List ℕ)) → splits_of word ≡ Some splits → ¬ (IsSplits splits)

-- why no sharded map was opened for the word of its splits
abbrev pub RefusesSplits : Refusal → List ℕ → Type 0
RefusesSplits Splits word = SpellsBadSplits word
RefusesSplits (Memory refused) word = Unit {0}
RefusesSplits _ word = ⊥

-- a task whose word for the splits spells none that a sharded map may have
abbrev pub HasBadSplits : Task → Type 0
HasBadSplits (RunSharded shape word) = SpellsBadSplits word.now
HasBadSplits _ = ⊥

-- a task whose word for the root digest spells none
abbrev pub HasBadRoot : Task → Type 0
HasBadRoot (Verify kind format root key) = root_of root.now ≡ None
HasBadRoot _ = ⊥

-- a task whose word for the root digest spells one, and whose word for the key spells none
abbrev pub HasBadKey : Task → Type 0
HasBadKey (Verify kind format root key) = IsSome (root_of root.now) × (key_of key.now ≡ None)
HasBadKey _ = ⊥

-- A task that is refused before anything is read, and for which no memory is taken first; that for
-- the list of splits is.
abbrev pub IsBad : Task → Type 0
IsBad task = HasBadShape task ⊎ HasBadRoot task ⊎ HasBadKey task

-- When a program ends early for this reason: words that name no task alone are refused by their
-- form, each other refusal is that of the task that the words name, and where that is refused,
-- memory is not the reason.
abbrev pub Comes : List (Bor (List ℕ)) → Refusal → Type 0
Comes words (Words text) = ¬ (IsPlain words)
Comes words NotText = ⊥
Comes words BadShape = (task : Task) × AsksFor words task × HasBadShape task
Comes words Splits = (task : Task) × AsksFor words task × HasBadSplits task
Comes words BadRoot = (task : Task) × AsksFor words task × HasBadRoot task
Comes words BadKey = (task : Task) × AsksFor words task × HasBadKey task
Comes words Device = Unit {0}
Comes words (Memory refused) = IsPlain words → (task : Task) × AsksFor words task × ¬ (IsBad task)

-- The program ended early for a reason that is possible for the words: what was read and what the
-- sink took then, and if a device failed, by which task.
pub record EndedEarly {S W : Type 0}
    (gives : Flow S) (left : S → ℕ) (takes : Flow W) (failures : W → ℕ)
    (words : List (Bor (List ℕ))) (why : Refusal)
    (s : S) (w : W) (t : S) (x : W) : Type 0 where
  pub comes : Comes words why
  pub unread : Unread why s t
  pub untouched : asks_verify words ≡ None → Untouched why s t
  pub unwritten : Untouched why w x
  pub broke : why ≡ Device → (task : Task) × AsksFor words task
      × Broke gives left takes failures task s w t x
