-- What words ask for a load.
use Rattle.std.specs.Prelude.{◌≡◌, ◌&&◌, ℕ, Bool, false, if◌then◌else◌, List, ◌∷◌, Option, Some, None, codes}
use Rattle.std.specs.Str.{bytes_eq}
use denote.Ref.{Bor}
use Rattle.mst_arguments.specs.declared.task.Load.{Load}
use Rattle.mst_arguments.specs.declared.task.Subcommand.TheVariants.{Load as LoadWords}
use Rattle.mst_arguments.specs.Options.{IsNumber, are_words_of, value_of}

-- the first word after the program's name is `load`
abbrev pub asks_load : List (Bor (List ℕ)) → Bool
asks_load (program ∷ name ∷ words) = bytes_eq name.now (codes "load")
asks_load _ = false

-- three words, where each is there
abbrev pub three : Option (List ℕ) → Option (List ℕ) → Option (List ℕ)
    → Option (List ℕ × List ℕ × List ℕ)
three (Some a) (Some b) (Some c) = Some (a, b, c)
three _ _ _ = None

-- the words for the readers, the writers and the calls among the words after the command
abbrev pub load_options_of : List (Bor (List ℕ)) → Option (List ℕ × List ℕ × List ℕ)
load_options_of words = three (value_of (codes "--readers") words)
    (value_of (codes "--writers") words) (value_of (codes "--calls") words)

-- the same, where the words are those of a load
abbrev pub load_words : List (Bor (List ℕ)) → Option (List ℕ × List ℕ × List ℕ)
load_words (program ∷ name ∷ words) =
    if bytes_eq name.now (codes "load") && are_words_of LoadWords words
    then load_options_of words else None
load_words _ = None

-- three words spell the readers, the writers and the calls
pub record IsLoadIn (words : List ℕ × List ℕ × List ℕ) (size : Load) : Type 0 where
  pub readers : IsNumber words.0 size.readers
  pub writers : IsNumber words.1 size.writers
  pub calls : IsNumber words.2 size.calls

-- the words are those of a load with these numbers
abbrev pub IsLoadOf : List (Bor (List ℕ)) → Load → Type 0
IsLoadOf words size =
    (named : List ℕ × List ℕ × List ℕ) × (load_words words ≡ Some named) × IsLoadIn named size
