-- Keys and values as contracts see them: lists of bytes within their limits.
use Rattle.std.specs.Prelude.{ℕ, ◌<◌, ◌≤◌, List, length}
use Rattle.std.specs.List.{AllByRecursion}

-- each number is a byte
abbrev pub IsBytes : List ℕ → Type 0
IsBytes bytes = AllByRecursion (λ b. b < 256) bytes

-- a key has 1 to 32 bytes
abbrev pub IsKey : List ℕ → Type 0
IsKey k = (0 < length k) × (length k ≤ 32)

-- a value has 0 to 64 bytes
abbrev pub IsValue : List ℕ → Type 0
IsValue v = length v ≤ 64
