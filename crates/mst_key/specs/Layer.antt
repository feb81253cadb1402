-- The layer of a key (Auvolat and Taïani 2019): how many digits 0 begin the SHA-256 of its bytes.
use Rattle.std.specs.Prelude.{ℕ, ◌==◌, if◌then◌else◌, ◌+◌, ◌/◌, ◌%◌, List, [], ◌∷◌, ◌++◌}
use Rattle.sha2.specs.Sha256.{sha256}
use Rattle.mst_key.specs.declared.format.Format.{Format}
use Rattle.mst_key.specs.declared.format.Format.TheVariants.{One, Two}

-- the digits of a byte, the high one first: two of base 16 in format 1, four of base 4 in format 2
abbrev pub byte_digits : Format → ℕ → List ℕ
byte_digits One b = b / 16 ∷ b % 16 ∷ []
byte_digits Two b = b / 64 ∷ b / 16 % 4 ∷ b / 4 % 4 ∷ b % 4 ∷ []

-- the digits of bytes, byte after byte
abbrev pub digits : Format → List ℕ → List ℕ
digits format [] = []
digits format (b ∷ bs) = byte_digits format b ++ digits format bs

-- how many zeros begin the list
abbrev pub zeros_in_front : List ℕ → ℕ
zeros_in_front [] = 0
zeros_in_front (d ∷ ds) = if d == 0 then zeros_in_front ds + 1 else 0

-- the layer of a key in a format
unfoldable pub layer_in : Format → List ℕ → ℕ
layer_in format key = zeros_in_front (digits format (sha256 key))

-- the layer of a key in format 1
abbrev pub layer : List ℕ → ℕ
layer = layer_in One

-- how many digits a byte has in a format, and the greatest layer: a digest has 32 bytes
abbrev pub digits_a_byte : Format → ℕ
digits_a_byte One = 2
digits_a_byte Two = 4

abbrev pub most_layer : Format → ℕ
most_layer One = 64
most_layer Two = 128
