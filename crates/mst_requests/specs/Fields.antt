-- The fields of a line, and what each spells.
use Rattle.std.specs.Prelude.{ℕ, Bool, ◌==◌, ◌&&◌, ◌+◌, ◌*◌, ◌-◌, nat_le, if◌then◌else◌, List, [], ◌∷◌, length, codes, Option, Some, None, Result, Ok, Err}
use Rattle.std.specs.List.{slice_split, list_all}
use Rattle.std.specs.Str.{bytes_eq}
use Rattle.std.specs.Char.{is_ascii_digit}
use Rattle.hex.specs.Hex.{decode_of}
use Rattle.hex.specs.declared.error.FromHexError.{FromHexError}
use denote.Ref.{Bor}
use Rattle.mst_key.specs.declared.format.Format.{Format as FormatOf}
use Rattle.mst_key.specs.declared.format.Format.TheVariants.{One, Two}

-- the parts between single blanks
abbrev pub fields_of : List ℕ → List (List ℕ)
fields_of line = slice_split (λ b. b == 32) line

-- the fields of what stands after a blank, if one does
abbrev pub fields_behind : Option (Bor (List ℕ)) → List (List ℕ)
fields_behind None = []
fields_behind (Some rest) = fields_of rest.now

-- ---- what a field spells

-- the number that digits spell after those of another number
abbrev pub spelt : ℕ → List ℕ → ℕ
spelt n [] = n
spelt n (d ∷ ds) = spelt (n * 10 + (d - 48)) ds

-- the same, if they are digits and the number is at most so much
abbrev pub number_up_to : ℕ → ℕ → List ℕ → Option ℕ
number_up_to most n digits = if list_all is_ascii_digit digits && nat_le (spelt n digits) most
    then Some (spelt n digits) else None

-- the pass that a field names, where the passes 1 to n are dealt: decimal digits, the first of them
-- not 0
abbrev pub pass_in : ℕ → List ℕ → Option ℕ
pass_in n [] = None
pass_in n (d ∷ ds) = if d == 48 then None else number_up_to n 0 (d ∷ ds)

-- the most pairs that a line may ask for
abbrev pub most_pairs : ℕ
most_pairs = 65535

-- the number of pairs that a field names: decimal digits, the first of several not 0
abbrev pub count_in : List ℕ → Option ℕ
count_in [] = None
count_in (d ∷ []) = number_up_to most_pairs 0 (d ∷ [])
count_in (d ∷ e ∷ ds) = if d == 48 then None else number_up_to most_pairs 0 (d ∷ e ∷ ds)

-- the format that a field names: 1 or 2
abbrev pub format_in : List ℕ → Option FormatOf
format_in field =
    if bytes_eq field (codes "1") then Some One
    else if bytes_eq field (codes "2") then Some Two else None

abbrev pub if_spelt : Result (List ℕ) FromHexError → Option (List ℕ)
if_spelt (Ok bytes) = Some bytes
if_spelt (Err e) = None

-- the bytes that a field spells: pairs of hexadecimal digits, or `-` for none
unfoldable pub bytes_of : List ℕ → Option (List ℕ)
bytes_of field =
    if length field == 0 then None
    else if bytes_eq field (codes "-") then Some []
    else if_spelt (decode_of field)

-- a key has 1 to 32 bytes, a value at most 64
abbrev pub has_key_size : List ℕ → Bool
has_key_size k = nat_le 1 (length k) && nat_le (length k) 32

abbrev pub has_value_size : List ℕ → Bool
has_value_size v = nat_le (length v) 64

-- no bytes are no bound; otherwise a bound has the size of a key
abbrev pub has_bound_size : List ℕ → Bool
has_bound_size k = nat_le (length k) 32

abbrev pub bound_of : List ℕ → Option (List ℕ)
bound_of [] = None
bound_of (b ∷ bs) = Some (b ∷ bs)
