-- The fields of a line, at its blanks.
use Rattle.mst_requests.proofs.Names.{◌≡◌, ℕ, ◌≤◌, ◌==◌, List, [], ◌∷◌, ◌++◌, length, ap, ◌∙◌, refl, arith, fields_of}
use Rattle.std.proofs.lemmas.List.Splits.{slice_split_none, slice_split_at, length-slice_split}
use Rattle.mst_lines.specs.Lines.{IsWithout}

-- the fields of a line that was cut at its first blank
pub fields_cut : (first rest line : List ℕ) → IsWithout 32 first → line ≡ first ++ 32 ∷ rest
    → fields_of line ≡ first ∷ fields_of rest
fields_cut first rest line none is = ap fields_of is ∙ slice_split_at (λ b. b == 32) first 32 rest
    none refl

pub fields_one : (line : List ℕ) → IsWithout 32 line → fields_of line ≡ line ∷ []
fields_one line none = slice_split_none (λ b. b == 32) line none

-- a line has a field
pub some_field : (line : List ℕ) → 1 ≤ length (fields_of line)
some_field line = omega (arith, length-slice_split (λ (b : ℕ). b == 32) line)
