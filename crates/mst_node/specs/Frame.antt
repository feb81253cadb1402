-- The texts that a proof frames.
use Rattle.std.specs.Prelude.{◌≡◌, ℕ, ◌<◌, ◌^◌, List, ◌∷◌, ◌++◌, length}
use Rattle.std.specs.Int.{w32, to_be_bytes}

-- the bytes begin with any format byte, a number of texts that is not 0, and this text after its
-- length in four bytes, the high one first
pub record FramesFirst (bytes text : List ℕ) : Type 0 where
  pub format_byte : ℕ
  pub count : ℕ
  pub rest : List ℕ
  pub some : 0 < count
  pub size : length text < 2 ^ 32
  pub whole : bytes ≡ format_byte ∷ count ∷ to_be_bytes w32 (length text) ++ text ++ rest
