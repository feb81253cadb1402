-- Collisions of SHA-256.
use Rattle.std.specs.Prelude.{◌≡◌, ◌≢◌, ℕ, List, Contains}
use Rattle.sha2.specs.Sha256.{sha256}

-- two different texts with one SHA-256
pub record Collision (one other : List ℕ) : Type 0 where
  pub differ : one ≢ other
  pub same : sha256 one ≡ sha256 other

-- two of the texts are a collision
abbrev pub HasCollision : List (List ℕ) → Type 0
HasCollision texts = (one : List ℕ) × (other : List ℕ) × Contains texts one × Contains texts other
    × Collision one other
