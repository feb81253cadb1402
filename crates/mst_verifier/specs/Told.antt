-- What a number that the library returns says of a key.
use Rattle.std.specs.Prelude.{◌≡◌, ℕ, ℤ, pos, negsuc, List, length, take, Option, Some, None}

-- absence, or the value that stands first in the room
abbrev pub Tells : ℤ → List ℕ → Option (List ℕ) → Type 0
Tells code room None = code ≡ negsuc 0
Tells code room (Some value) = (code ≡ pos (length value)) × (take (length value) room ≡ value)
