-- Keys, values and digests as they are written.
use Rattle.std.specs.Prelude.{ℕ, List, [], ◌∷◌, codes}
use Rattle.hex.specs.Hex.{encode_lower}

-- bytes as hexadecimal digits, in lower case; `-` for no bytes
abbrev pub digits_of : List ℕ → List ℕ
digits_of [] = codes "-"
digits_of (b ∷ bs) = encode_lower (b ∷ bs)
