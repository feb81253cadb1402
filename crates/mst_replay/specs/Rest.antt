-- What is left of a list of rows after a number: nothing, or a comma and the rest.
use Rattle.std.specs.Prelude.{◌≡◌, ℕ, List, [], ◌∷◌, Option, Some, None}
use denote.Ref.{Bor}

abbrev pub rest_text : Option (Bor (List ℕ)) → List ℕ
rest_text None = []
rest_text (Some more) = 44 ∷ more.now

abbrev pub IsRest : List ℕ → Type 0
IsRest [] = Unit {0}
IsRest (x ∷ xs) = x ≡ 44
