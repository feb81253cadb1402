-- Texts of which the numbers were worked by hand.
use Rattle.std.specs.Prelude.{ℕ, ℤ, List, [], ◌∷◌, ◌++◌, replicate}
use Rattle.mst_verifier.specs.Codes.{code_of}
use Rattle.mst_verifier.specs.Question.{answer_of}

-- what is returned for a key, with no room for a value
abbrev pub told_of : List ℕ → ℕ → List ℕ → List ℕ → ℤ
told_of key number root proof = code_of 0 (answer_of number root key proof)

-- what is returned for the key `8`
abbrev pub told : ℕ → List ℕ → List ℕ → ℤ
told = told_of (0x38 ∷ [])

-- a root digest of no map
abbrev pub zeros : List ℕ
zeros = replicate 32 0

-- in format 1, the node of layer 0 that holds `8` with the value `x`
abbrev pub leaf : List ℕ
leaf = 1 ∷ 0 ∷ 0 ∷ 1 ∷ 0 ∷ 1 ∷ 0x38 ∷ 1 ∷ 0x78 ∷ 0 ∷ []

-- the same with a child after it
abbrev pub parent : List ℕ
parent = 1 ∷ 0 ∷ 0 ∷ 1 ∷ 0 ∷ 1 ∷ 0x38 ∷ 1 ∷ 0x78 ∷ 1 ∷ zeros

-- in format 2, the node of layer 1 that holds `8`
abbrev pub leaf_in_format_2 : List ℕ
leaf_in_format_2 = 2 ∷ 1 ∷ 0 ∷ 1 ∷ 0 ∷ 1 ∷ 0x38 ∷ zeros ++ (0 ∷ [])
