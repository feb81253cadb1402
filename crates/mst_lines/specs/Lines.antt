-- The lines of a script.
use Rattle.std.specs.Prelude.{◌≡◌, ◌==◌, ℕ, nat_lt, false, List, [], ◌∷◌, ◌++◌, length, Option, Some, None, if◌then◌else◌}
use Rattle.std.specs.List.{All, slice_split}

-- the byte does not stand in the bytes
abbrev pub IsWithout : ℕ → List ℕ → Type 0
IsWithout byte bytes = All (λ b. (b == byte) ≡ false) bytes

-- all parts but the last
abbrev pub all_but_last : List (List ℕ) → List (List ℕ)
all_but_last [] = []
all_but_last (l ∷ []) = []
all_but_last (l ∷ m ∷ ls) = l ∷ all_but_last (m ∷ ls)

-- the last part
abbrev pub last_of : List (List ℕ) → List ℕ
last_of [] = []
last_of (l ∷ []) = l
last_of (l ∷ m ∷ ls) = last_of (m ∷ ls)

-- the parts between newlines
abbrev pub parts_of : List ℕ → List (List ℕ)
parts_of bytes = slice_split (λ b. b == 10) bytes

-- the lines that end in a newline
unfoldable pub complete : List ℕ → List (List ℕ)
complete bytes = all_but_last (parts_of bytes)

-- what stands after the last newline
unfoldable pub remainder : List ℕ → List ℕ
remainder bytes = last_of (parts_of bytes)

-- all lines: the complete ones, and a rest that is not empty
abbrev pub lines_of : List ℕ → List (List ℕ)
lines_of bytes =
    complete bytes ++ (if length (remainder bytes) == 0 then [] else remainder bytes ∷ [])

-- the most bytes that are kept of a line
abbrev pub longest_line : ℕ
longest_line = 4096

-- what is kept of a line: its bytes, unless they are too many
abbrev pub kept : List ℕ → Option (List ℕ)
kept line = if nat_lt longest_line (length line) then None else Some line

-- the same when more bytes follow
abbrev pub kept_with : Option (List ℕ) → List ℕ → Option (List ℕ)
kept_with None more = None
kept_with (Some line) more = kept (line ++ more)
