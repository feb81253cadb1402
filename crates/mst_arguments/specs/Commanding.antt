-- What the words of a program ask for, and how it ends.
use Rattle.std.specs.Prelude.{◌≡◌, ◌&&◌, ◌||◌, ℕ, ◌<◌, ◌⊎◌, Bool, true, false, if◌then◌else◌, List, [], ◌∷◌, ◌++◌, Option, Some, None, IsSome, unwrap_or, codes, string_bytes}
use Rattle.std.specs.List.{Contains}
use Rattle.std.specs.Str.{bytes_eq}
use denote.Ref.{Bor}
use Rattle.mst_key.specs.declared.format.Format.{Format}
use Rattle.mst_key.specs.declared.format.Format.TheVariants.{One}
use Rattle.mst_report.specs.declared.report.ProofKind.{ProofKind}
use Rattle.mst_words.specs.declared.view.Shape.{Shape}
use Rattle.mst_arguments.specs.declared.task.Task.{Task}
use Rattle.mst_arguments.specs.declared.task.Size.{Size}
use Rattle.mst_arguments.specs.declared.task.Load.{Load as LoadSize}
use Rattle.mst_arguments.specs.declared.task.Task.TheVariants.{Run, RunSharded, Verify, UnknownFormat, Replay, Load, Help}
use Rattle.mst_arguments.specs.declared.task.Ending.{Ending}
use Rattle.mst_arguments.specs.declared.task.Ending.TheVariants.{Done, ProofRefused}
use Rattle.mst_arguments.specs.declared.task.Refusal.{Refusal}
use Rattle.mst_arguments.specs.declared.task.Refusal.TheVariants.{Words, NotText, Shape as BadShape, Splits, BadRoot, BadKey, Device, Memory}
use Rattle.mst_arguments.specs.declared.task.Subcommand.TheVariants.{Run as RunWords, Verify as VerifyWords, Replay as ReplayWords}
use Rattle.mst_arguments.specs.Loads.{asks_load, IsLoadOf}
use Rattle.mst_arguments.specs.Options.{IsNumber, are_words_of, format_named, kind_named, operand_at, value_of}

-- the first word after the program's name is `replay`
abbrev pub asks_replay : List (Bor (List ℕ)) → Bool
asks_replay (program ∷ name ∷ words) = bytes_eq name.now (codes "replay")
asks_replay _ = false

-- the first word after the program's name is `run`
abbrev pub asks_script : List (Bor (List ℕ)) → Bool
asks_script (program ∷ name ∷ words) = bytes_eq name.now (codes "run")
asks_script _ = false

-- the format that the words after the command name
abbrev pub format_in : List (Bor (List ℕ)) → Option Format
format_in (program ∷ name ∷ words) = format_named words
format_in _ = Some One

-- the word for the splits, if the words after the command name one
abbrev pub splits_in : List (Bor (List ℕ)) → Option (List ℕ)
splits_in (program ∷ name ∷ words) = value_of (codes "--splits") words
splits_in _ = None

-- what the words of a proof name: its kind, its format, and the words for the root digest and the
-- key
abbrev pub ProofWords : Type 0
ProofWords = ProofKind × Option Format × List ℕ × List ℕ

-- the same, if the first word after the program's name is `verify`
abbrev pub asks_verify : List (Bor (List ℕ)) → Option ProofWords
asks_verify (program ∷ name ∷ words) =
    if bytes_eq name.now (codes "verify")
    then Some (kind_named words, format_named words, operand_at 0 words, operand_at 1 words)
    else None
asks_verify _ = None

-- the value of the option, or else the usual one
abbrev pub value_or : List ℕ → List ℕ → List (Bor (List ℕ)) → List ℕ
value_or usual option words = unwrap_or (value_of option words) usual

-- the words for the rows and the passes, where the words are those of a script
abbrev pub asks_run : List (Bor (List ℕ)) → Option (List ℕ × List ℕ)
asks_run (program ∷ name ∷ words) =
    if bytes_eq name.now (codes "run") && are_words_of RunWords words
    then Some (
      value_or (codes "1024") (codes "--rows") words,
      value_or (codes "4") (codes "--passes") words,
    )
    else None
asks_run _ = None

-- two words spell the rows and the passes
pub record IsSizeIn (words : List ℕ × List ℕ) (size : Size) : Type 0 where
  pub rows : IsNumber words.0 size.rows
  pub passes : IsNumber words.1 size.passes

-- the words are those of a script over a store of this size
abbrev pub IsRunOf : List (Bor (List ℕ)) → Size → Type 0
IsRunOf words size =
    (named : List ℕ × List ℕ) × (asks_run words ≡ Some named) × IsSizeIn named size

-- the words are those of a script over stores of this shape
pub record NamesShape (words : List (Bor (List ℕ))) (shape : Shape) : Type 0 where
  pub script : asks_script words ≡ true
  pub format : format_in words ≡ Some shape.format
  pub size : IsRunOf words (record { rows = shape.rows; passes = shape.passes })

-- the words are those of a replay
abbrev pub is_replay_alone : List (Bor (List ℕ)) → Bool
is_replay_alone (program ∷ name ∷ words) =
    bytes_eq name.now (codes "replay") && are_words_of ReplayWords words
is_replay_alone _ = false

-- the words are those of a proof
abbrev pub is_whole_verify : List (Bor (List ℕ)) → Bool
is_whole_verify (program ∷ name ∷ words) =
    bytes_eq name.now (codes "verify") && are_words_of VerifyWords words
is_whole_verify _ = false

-- the words name a task, and so are never refused by their form
abbrev pub IsPlain : List (Bor (List ℕ)) → Type 0
IsPlain words = ((size : Size) × IsRunOf words size) ⊎ (is_replay_alone words ≡ true)
    ⊎ (is_whole_verify words ≡ true) ⊎ ((size : LoadSize) × IsLoadOf words size)

-- a word that asks for help: `help`, `--help`, or one that begins with `-h`
abbrev pub IsHelp : List ℕ → Type 0
IsHelp word = (word ≡ codes "help") ⊎ (word ≡ codes "--help")
    ⊎ ((rest : List ℕ) × (word ≡ codes "-h" ++ rest))

-- some word asks for help
abbrev pub AskHelp : List (Bor (List ℕ)) → Type 0
AskHelp words = (word : Bor (List ℕ)) × Contains words word × IsHelp word.now

-- a word that asks for the version: `--version`, or one that begins with `-V`
abbrev pub IsVersion : List ℕ → Type 0
IsVersion word = (word ≡ codes "--version") ⊎ ((rest : List ℕ) × (word ≡ codes "-V" ++ rest))

-- the first word after the program's name asks for the version
abbrev pub AskVersion : List (Bor (List ℕ)) → Type 0
AskVersion (program ∷ name ∷ words) = IsVersion name.now
AskVersion _ = ⊥

-- the words ask for a text about the program
abbrev pub AskText : List (Bor (List ℕ)) → Type 0
AskText words = AskHelp words ⊎ AskVersion words

abbrev pub is_replay : Task → Bool
is_replay (Run shape) = false
is_replay (RunSharded shape splits) = false
is_replay (Verify kind format root key) = false
is_replay UnknownFormat = false
is_replay Replay = true
is_replay (Load size) = false
is_replay (Help text) = false

abbrev pub is_load : Task → Bool
is_load (Run shape) = false
is_load (RunSharded shape splits) = false
is_load (Verify kind format root key) = false
is_load UnknownFormat = false
is_load Replay = false
is_load (Load size) = true
is_load (Help text) = false

abbrev pub verified_words : Task → Option ProofWords
verified_words (Run shape) = None
verified_words (RunSharded shape splits) = None
verified_words (Verify kind format root key) = Some (kind, Some format, root.now, key.now)
verified_words UnknownFormat = None
verified_words Replay = None
verified_words (Load size) = None
verified_words (Help text) = None

-- the words are the program's name and `--version` or `-V` alone
abbrev pub asks_version_alone : List (Bor (List ℕ)) → Bool
asks_version_alone (program ∷ name ∷ []) =
    bytes_eq name.now (codes "--version") || bytes_eq name.now (codes "-V")
asks_version_alone _ = false

-- the text that says the version
abbrev pub version_text : List ℕ
version_text = codes "mst 0.4.0-dev" ++ 10 ∷ []

-- What words are told that ask for a text: these words the version, and others what `clap` writes,
-- of which nothing is known.
abbrev pub IsTold : List (Bor (List ℕ)) → List ℕ → Type 0
IsTold words text = asks_version_alone words ≡ true → text ≡ version_text

-- the words name this task's numbers and its format, and nothing else
abbrev pub IsSized : List (Bor (List ℕ)) → Task → Type 0
IsSized words (Run shape) = NamesShape words shape × (splits_in words ≡ None)
IsSized words (RunSharded shape splits) =
    NamesShape words shape × (splits_in words ≡ Some splits.now)
IsSized words (Verify kind format root key) = is_whole_verify words ≡ true
IsSized words Replay = is_replay_alone words ≡ true
IsSized words (Load size) = IsLoadOf words size
IsSized words _ = ⊥

-- The words ask for this task: some word for help, or the first for the version, where they name no
-- task, with a text that they may be told, and otherwise they name it. Neither a replay nor a load
-- has a format, so that their words ask for none that there is not.
abbrev pub AsksFor : List (Bor (List ℕ)) → Task → Type 0
AsksFor words (Help text) =
    AskText words × ¬ (IsPlain words) × IsTold words (string_bytes text)
AsksFor words UnknownFormat =
    (asks_replay words ≡ false) × (asks_load words ≡ false) × (format_in words ≡ None)
    × ((asks_script words ≡ true) ⊎ IsSome (asks_verify words)) × IsPlain words
AsksFor words task = (is_replay task ≡ asks_replay words)
    × (verified_words task ≡ asks_verify words) × IsSized words task
    × (is_load task ≡ asks_load words)

-- how a script may end early
abbrev pub EndsScript : Refusal → Type 0
EndsScript BadShape = Unit {0}
EndsScript Device = Unit {0}
EndsScript (Memory refused) = Unit {0}
EndsScript _ = ⊥

-- how a script over a sharded map may end early
abbrev pub EndsSharded : Refusal → Type 0
EndsSharded BadShape = Unit {0}
EndsSharded Splits = Unit {0}
EndsSharded Device = Unit {0}
EndsSharded (Memory refused) = Unit {0}
EndsSharded _ = ⊥

-- how the judging of a proof may end early
abbrev pub EndsVerify : Refusal → Type 0
EndsVerify BadRoot = Unit {0}
EndsVerify BadKey = Unit {0}
EndsVerify Device = Unit {0}
EndsVerify (Memory refused) = Unit {0}
EndsVerify _ = ⊥

-- how a task ends that names a format that there is not
abbrev pub EndsUnknown : Refusal → Type 0
EndsUnknown BadShape = Unit {0}
EndsUnknown _ = ⊥

-- how a replay may end early
abbrev pub EndsReplay : Refusal → Type 0
EndsReplay Device = Unit {0}
EndsReplay (Memory refused) = Unit {0}
EndsReplay _ = ⊥

-- how a load may end early
abbrev pub EndsLoad : Refusal → Type 0
EndsLoad BadShape = Unit {0}
EndsLoad Device = Unit {0}
EndsLoad (Memory refused) = Unit {0}
EndsLoad _ = ⊥

-- how help may end early
abbrev pub EndsHelp : Refusal → Type 0
EndsHelp Device = Unit {0}
EndsHelp _ = ⊥

-- how a task may end early
abbrev pub Ends : Task → Refusal → Type 0
Ends (Run shape) why = EndsScript why
Ends (RunSharded shape splits) why = EndsSharded why
Ends (Verify kind format root key) why = EndsVerify why
Ends UnknownFormat why = EndsUnknown why
Ends Replay why = EndsReplay why
Ends (Load size) why = EndsLoad why
Ends (Help text) why = EndsHelp why

-- how words may be refused
abbrev pub EndsWords : Refusal → Type 0
EndsWords (Words text) = Unit {0}
EndsWords (Memory refused) = Unit {0}
EndsWords _ = ⊥

-- how many reads and writes had failed before and after: more if this is the reason, and otherwise
-- as many
abbrev pub IsDevice : Refusal → ℕ → ℕ → Type 0
IsDevice Device before after = before < after
IsDevice _ before after = after ≡ before

-- a device before and after: as it was, but where a device failed
abbrev pub Untouched : {S : Type 0} → Refusal → S → S → Type 0
Untouched Device s t = Unit {0}
Untouched _ s t = t ≡ s

-- a source before and after: as it was, but where a device failed or memory was refused
abbrev pub Unread : {S : Type 0} → Refusal → S → S → Type 0
Unread Device s t = Unit {0}
Unread (Memory refused) s t = Unit {0}
Unread _ s t = t ≡ s

-- what is said on standard error
abbrev pub told : Refusal → List ℕ
told (Words text) = string_bytes text
told NotText = codes "error: invalid UTF-8 was detected in one or more arguments" ++ 10 ∷ []
told BadShape = codes "shape" ++ 10 ∷ []
told Splits = codes "splits" ++ 10 ∷ []
told BadRoot = codes "bad root" ++ 10 ∷ []
told BadKey = codes "bad key" ++ 10 ∷ []
told Device = codes "device" ++ 10 ∷ []
told (Memory refused) = codes "memory" ++ 10 ∷ []

-- the exit status
abbrev pub status_of : Refusal → ℕ
status_of Device = 3
status_of (Memory refused) = 4
status_of _ = 2

-- the exit status of a program that was not cut short
abbrev pub status_at : Ending → ℕ
status_at Done = 0
status_at ProofRefused = 1
