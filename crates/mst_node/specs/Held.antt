-- What a node holds of a value: the value in format 1, in format 2 its SHA-256.
use Rattle.std.specs.Prelude.{◌≡◌, ℕ, List, length}
use Rattle.mst_key.specs.declared.format.Format.{Format}
use Rattle.mst_key.specs.declared.format.Format.TheVariants.{One, Two}
use Rattle.mst_key.specs.Bytes.{IsValue}
use Rattle.mst_node.specs.declared.held.Held.{Held}
use Rattle.mst_node.specs.declared.held.Held.TheVariants.{Value, Hash}

-- the bytes that stand for a value in a text of a format
abbrev pub held_as : Format → List ℕ → Held
held_as One bytes = Value bytes
held_as Two bytes = Hash bytes

-- they are as many as those of a value, or of a digest
abbrev pub HasSize : Format → List ℕ → Type 0
HasSize One bytes = IsValue bytes
HasSize Two bytes = length bytes ≡ 32
