-- Answers as they are written.
use Rattle.std.specs.Prelude.{ℕ, List, [], ◌∷◌, ◌++◌, length, Option, Some, None, codes, decimal}
use Rattle.mst_key.specs.declared.format.Format.{Format}
use Rattle.mst_key.specs.declared.format.Format.TheVariants.{One, Two}
use Rattle.mst_key.specs.History.{Reply, had, was, done}
use Rattle.mst_key.specs.Map.{Pair}
use Rattle.mst_key.specs.Digits.{digits_of}
use Rattle.mst_requests.specs.declared.request.Fault.{Fault}
use Rattle.mst_requests.specs.declared.request.Fault.TheVariants.{LongLine, NoPass, NoCommand, FieldCount, BadField, KeySize, ValueSize, Pinning}

-- words with the newline that ends their line
abbrev pub line_of : List ℕ → List ℕ
line_of words = words ++ 10 ∷ []

abbrev pub fault_words : Fault → List ℕ
fault_words LongLine = codes "fault L1"
fault_words NoPass = codes "fault L2"
fault_words NoCommand = codes "fault L3"
fault_words FieldCount = codes "fault L4"
fault_words BadField = codes "fault L5"
fault_words KeySize = codes "keysize"
fault_words ValueSize = codes "valuesize"
fault_words Pinning = codes "fault L6"

-- the value that a key has, or had
abbrev pub value_words : Option (List ℕ) → List ℕ
value_words None = codes "none"
value_words (Some v) = codes "some " ++ digits_of v

abbrev pub pair_words : Pair → List ℕ
pair_words p = codes "pair " ++ digits_of p.0 ++ codes " " ++ digits_of p.1

-- the pair that was found
abbrev pub found_words : Option Pair → List ℕ
found_words None = codes "none"
found_words (Some p) = pair_words p

-- a line for each pair
abbrev pub pair_lines : List Pair → List ℕ
pair_lines [] = []
pair_lines (p ∷ ps) = line_of (pair_words p) ++ pair_lines ps

-- how many pairs there are
abbrev pub count_words : List Pair → List ℕ
count_words ps = codes "pairs " ++ decimal (length ps)

-- which version is pinned
abbrev pub pinned_words : ℕ → List ℕ
pinned_words n = codes "pinned " ++ decimal n

-- how many rows the map takes, or that they are held
abbrev pub rows_words : Option ℕ → List ℕ
rows_words None = codes "held"
rows_words (Some n) = codes "rows " ++ decimal n

-- the format of a tree, and the one that a migration left
abbrev pub format_words : Format → List ℕ
format_words One = codes "format 1"
format_words Two = codes "format 2"

abbrev pub was_words : Format → List ℕ
was_words One = codes "was 1"
was_words Two = codes "was 2"

-- what a write is answered
abbrev pub reply_words : Reply → List ℕ
reply_words (had old) = value_words old
reply_words (was format) = was_words format
reply_words done = codes "done"
