-- What the words after a command say by their options, and what they say apart from them.
use Rattle.std.specs.Prelude.{◌≡◌, ℕ, ◌==◌, ◌<◌, ◌^◌, ◌-◌, ◌&&◌, ◌||◌, Bool, true, false, not, nat_lt, is_none, is_some, if◌then◌else◌, List, [], ◌∷◌, length, get_or, map, Option, Some, None, codes, pos}
use Rattle.std.specs.List.{before_first, after_first, position_or_len}
use Rattle.std.specs.Str.{bytes_eq}
use Rattle.std.specs.Str.Parse.{IsNumeral, signed_digits_value, without_leading_sign}
use denote.Ref.{Bor}
use Rattle.mst_key.specs.declared.format.Format.{Format}
use Rattle.mst_key.specs.declared.format.Format.TheVariants.{One, Two}
use Rattle.mst_report.specs.declared.report.ProofKind.{ProofKind}
use Rattle.mst_report.specs.declared.report.ProofKind.TheVariants.{Plain, Sharded}
use Rattle.mst_arguments.specs.declared.task.Subcommand.{Subcommand}
use Rattle.mst_arguments.specs.declared.task.Subcommand.TheVariants.{Run, Verify, Replay, Load}

-- ---- an option with its value

abbrev pub is_equals : ℕ → Bool
is_equals b = b == 61

-- a word cut at its first `=`, where it has one
abbrev pub cut : List ℕ → Option (List ℕ × List ℕ)
cut word = if nat_lt (position_or_len is_equals word) (length word)
    then Some (before_first is_equals word, after_first is_equals word) else None

-- the option that a word names, alone or in front of `=`
abbrev pub name_in : List ℕ → Option (List ℕ × List ℕ) → List ℕ
name_in word None = word
name_in word (Some parts) = parts.0

abbrev pub name_of : List ℕ → List ℕ
name_of word = name_in word (cut word)

-- the value in a word `OPTION=VALUE`
abbrev pub value_in : List ℕ → Option (List ℕ × List ℕ) → Option (List ℕ)
value_in option None = None
value_in option (Some parts) = if bytes_eq parts.0 option then Some parts.1 else None

abbrev pub joined : List ℕ → List ℕ → Option (List ℕ)
joined option word = value_in option (cut word)

abbrev pub first : List (Bor (List ℕ)) → Option (List ℕ)
first [] = None
first (word ∷ words) = Some word.now

abbrev pub or_else : Option (List ℕ) → Option (List ℕ) → Option (List ℕ)
or_else None other = other
or_else (Some value) other = Some value

-- the value of an option: the word after it, or what follows `=` in its own, in front of a `--`
abbrev pub value_of : List ℕ → List (Bor (List ℕ)) → Option (List ℕ)
value_of option [] = None
value_of option (word ∷ words) =
    if bytes_eq word.now (codes "--") then None
    else if bytes_eq word.now option then first words
    else or_else (joined option word.now) (value_of option words)

-- ---- numbers

-- A word spells this number, which is below 2^32: decimal digits, perhaps after a sign. So `+9` and
-- `09` are 9, and `-0` is 0.
pub record IsNumber (word : List ℕ) (n : ℕ) : Type 0 where
  pub digits : IsNumeral 10 (without_leading_sign word)
  pub value : signed_digits_value 10 word ≡ pos n
  pub fits : n < 2 ^ 32

-- a numeral without a plus that begins it
abbrev pub without_plus : List ℕ → List ℕ
without_plus [] = []
without_plus (b ∷ bs) = if b == 43 then bs else b ∷ bs

-- digits without the zeros that begin them
abbrev pub significant : List ℕ → List ℕ
significant [] = []
significant (b ∷ bs) = if b == 48 then significant bs else b ∷ bs

-- the format whose number has these digits
abbrev pub format_of_digits : List ℕ → Option Format
format_of_digits digits =
    if bytes_eq digits (codes "1") then Some One
    else if bytes_eq digits (codes "2") then Some Two
    else None

-- the format whose number a word spells: `01` and `+1` are 1
abbrev pub format_of : List ℕ → Option Format
format_of word = format_of_digits (significant (without_plus word))

-- the format that is named, 1 where none is
abbrev pub format_or : Option (List ℕ) → Option Format
format_or None = Some One
format_or (Some word) = format_of word

-- the format that words name by `--format`, and no format where its value is neither 1 nor 2
abbrev pub format_named : List (Bor (List ℕ)) → Option Format
format_named words = format_or (value_of (codes "--format") words)

-- ---- switches: options with no value

-- the switch is a word in front of a `--`
abbrev pub has_switch : List ℕ → List (Bor (List ℕ)) → Bool
has_switch switch [] = false
has_switch switch (word ∷ words) =
    if bytes_eq word.now (codes "--") then false
    else bytes_eq word.now switch || has_switch switch words

-- the kind of a proof that words name: of a sharded map with `--sharded`, otherwise of one tree
abbrev pub kind_named : List (Bor (List ℕ)) → ProofKind
kind_named words = if has_switch (codes "--sharded") words then Sharded else Plain

-- ---- operands

-- The words but `--sharded`, `--format F` and `--format=F`, and but the first `--`, after which all
-- are operands. Where `is_value`, the first word is the F of an option.
abbrev pub operands : Bool → List (Bor (List ℕ)) → List (List ℕ)
operands is_value [] = []
operands true (value ∷ words) = operands false words
operands false (word ∷ words) =
    if bytes_eq word.now (codes "--") then map (λ w. w.now) words
    else if bytes_eq word.now (codes "--format") then operands true words
    else if bytes_eq word.now (codes "--sharded") then operands false words
    else if is_some (joined (codes "--format") word.now) then operands false words
    else word.now ∷ operands false words

-- the operand at a place among the words after a command
abbrev pub operand_at : ℕ → List (Bor (List ℕ)) → List ℕ
operand_at place words = get_or (operands false words) place []

-- ---- which words a command has

-- the options of each command
abbrev pub is_option : Subcommand → List ℕ → Bool
is_option Run name = bytes_eq name (codes "--rows")
    || (bytes_eq name (codes "--passes")
    || (bytes_eq name (codes "--format") || bytes_eq name (codes "--splits")))
is_option Verify name = bytes_eq name (codes "--format")
is_option Replay name = false
is_option Load name = bytes_eq name (codes "--readers")
    || (bytes_eq name (codes "--writers") || bytes_eq name (codes "--calls"))

-- the switches of each command
abbrev pub is_switch : Subcommand → List ℕ → Bool
is_switch Verify word = bytes_eq word (codes "--sharded")
is_switch _ word = false

-- how many operands each command has
abbrev pub operand_count : Subcommand → ℕ
operand_count Verify = 2
operand_count _ = 0

-- a dash and more, which is neither an operand nor the value of an option
abbrev pub is_flag : List ℕ → Bool
is_flag (b ∷ c ∷ bs) = b == 45
is_flag _ = false

-- a word names an option of the command that the words after it do not give again
abbrev pub is_new_option : Subcommand → List ℕ → List (Bor (List ℕ)) → Bool
is_new_option command name words = is_option command name && is_none (value_of name words)

-- a word is a switch of the command that the words after it do not give again
abbrev pub is_new_switch : Subcommand → List ℕ → List (Bor (List ℕ)) → Bool
is_new_switch command word words = is_switch command word && not (has_switch word words)

-- The words are switches and options of the command, each of them once, options with their values,
-- and `count` operands, after a `--` operands alone. Where `is_value`, the first word is the value
-- of an option.
abbrev pub are_words : Subcommand → Bool → ℕ → List (Bor (List ℕ)) → Bool
are_words command is_value count [] = not is_value && (count == 0)
are_words command true count (value ∷ words) =
    not (is_flag value.now) && are_words command false count words
are_words command false count (word ∷ words) =
    if bytes_eq word.now (codes "--") then length words == count
    else if is_switch command word.now then is_new_switch command word.now words
    && are_words command false count words
    else if is_flag word.now then is_new_option command (name_of word.now) words
    && are_words command (is_none (cut word.now)) count words
    else nat_lt 0 count && are_words command false (count - 1) words

-- the words after a command are what it takes: its options and switches, each at most once, and its
-- operands
abbrev pub are_words_of : Subcommand → List (Bor (List ℕ)) → Bool
are_words_of command words = are_words command false (operand_count command) words
