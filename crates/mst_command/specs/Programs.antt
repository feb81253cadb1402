-- What the tasks over one store, or over none, read and wrote.
use Rattle.std.specs.Prelude.{◌≡◌, ◌<◌, ◌≤◌, ◌+◌, ◌⊎◌, ℕ, if◌then◌else◌, List, [], length, Some, None}
use Rattle.mst_words.specs.declared.view.Shape.{Shape}
use Rattle.mst_store.specs.Passes.{StoreId, HasShape, IsShape}
use Rattle.mst_replay.specs.declared.Replay.{Replay}
use Rattle.mst_replay.specs.Replay.{core_state}
use Rattle.mst_devices.specs.Device.{Breaks, Flow}
use Rattle.mst_script.specs.Machine.{Machine, Line, with_no_pins}
use Rattle.mst_lines.specs.Runs.{Ran, Stopped}
use Rattle.mst_key.specs.declared.format.Format.{Format}
use Rattle.mst_report.specs.declared.report.ProofKind.{ProofKind}
use Rattle.mst_report.specs.declared.report.Report.{Report}
use Rattle.mst_report.specs.Words.{root_of, key_of}
use Rattle.mst_report.specs.Report.{limit, report_of, line_of, is_refusal}
use Rattle.mst_arguments.specs.declared.task.Ending.{Ending}
use Rattle.mst_arguments.specs.declared.task.Ending.TheVariants.{Done, ProofRefused}
use Rattle.mst_arguments.specs.Commanding.{ProofWords}
use Rattle.mst_command.specs.Reading.{piece}
use Rattle.mst_command.specs.Recalling.{Recalls}

-- how the program ends that said this
abbrev pub ending_of : Report → Ending
ending_of report = if is_refusal report then ProofRefused else Done

-- The source gave a script, and the sink took what the script machine answers its lines, from the
-- empty history on and with nothing pinned, over a store of this size, which is within the limits.
pub record RanScript {S W : Type 0}
    (gives : Flow S) (takes : Flow W) (shape : Shape)
    (s : S) (w : W) (t : S) (x : W) : Type 0 where
  pub fits : IsShape shape
  pub store : StoreId
  pub size : HasShape shape store
  pub last : Machine
  pub ran : Ran gives takes (Line store) s w (with_no_pins []) t x last

-- The same, where a device failed.
pub record BrokeScript {S W : Type 0}
    (gives : Flow S) (takes : Flow W) (failures : W → ℕ) (shape : Shape)
    (s : S) (w : W) (t : S) (x : W) : Type 0 where
  pub fits : IsShape shape
  pub store : StoreId
  pub size : HasShape shape store
  pub last : Machine
  pub stopped : Stopped gives takes failures (Line store) s w (with_no_pins []) t x last

-- The source gave events of a core, and the sink took what the core answers each of them, from no
-- core on.
pub record RanReplay {S W : Type 0}
    (gives : Flow S) (takes : Flow W)
    (s : S) (w : W) (t : S) (x : W) : Type 0 where
  pub before : Replay
  pub after : Replay
  pub fresh : core_state before ≡ None
  pub ran : Ran gives takes Recalls s w before t x after

-- The same, where a device failed.
pub record BrokeReplay {S W : Type 0}
    (gives : Flow S) (takes : Flow W) (failures : W → ℕ)
    (s : S) (w : W) (t : S) (x : W) : Type 0 where
  pub before : Replay
  pub after : Replay
  pub fresh : core_state before ≡ None
  pub stopped : Stopped gives takes failures Recalls s w before t x after

-- This is said of the text that the source gave, up to its end or beyond the limit by a piece of
-- what is read at a time.
pub record IsSaid {S : Type 0}
    (gives : Flow S) (left : S → ℕ) (kind : ProofKind) (format : Format) (root key : List ℕ)
    (s : S) (report : Report) (t : S) : Type 0 where
  pub text : List ℕ
  pub given : gives s text t
  pub whole : ((left t ≡ 0) × (length text ≤ limit))
      ⊎ ((limit < length text) × (length text ≤ limit + piece))
  pub said : report ≡ report_of kind format root key text

-- The sink took what is said of the text that the source gave, as a proof of the kind and in the
-- format that are named and for the root digest and the key that two words spell.
pub record RanVerify {S W : Type 0}
    (gives : Flow S) (left : S → ℕ) (takes : Flow W)
    (words : ProofWords)
    (s : S) (w : W) (ending : Ending) (t : S) (x : W) : Type 0 where
  pub format : Format
  pub root : List ℕ
  pub key : List ℕ
  pub format_is : words.1 ≡ Some format
  pub root_is : root_of words.2 ≡ Some root
  pub key_is : key_of words.3 ≡ Some key
  pub report : Report
  pub said : IsSaid gives left words.0 format root key s report t
  pub ending_is : ending ≡ ending_of report
  pub taken : takes w (line_of report) x

-- The same, where the sink failed: it took a beginning of what is said.
pub record BrokeVerify {S W : Type 0}
    (gives : Flow S) (left : S → ℕ) (takes : Flow W)
    (words : ProofWords)
    (s : S) (w : W) (t : S) (x : W) : Type 0 where
  pub format : Format
  pub root : List ℕ
  pub key : List ℕ
  pub format_is : words.1 ≡ Some format
  pub root_is : root_of words.2 ≡ Some root
  pub key_is : key_of words.3 ≡ Some key
  pub report : Report
  pub said : IsSaid gives left words.0 format root key s report t
  pub breaks : Breaks takes w [] (line_of report) x
