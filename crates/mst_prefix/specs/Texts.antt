-- Texts that begin with the same bytes.
use Rattle.std.specs.Prelude.{◌≡◌, ℕ, List, ◌++◌}

-- two texts, and what follows in each on the same bytes
pub record ArePast (one other rest other_rest : List ℕ) : Type 0 where
  pub bytes : List ℕ
  pub begins : one ≡ bytes ++ rest
  pub begins_too : other ≡ bytes ++ other_rest
