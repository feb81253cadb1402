-- What is returned for the first text that a proof frames.
use Rattle.std.specs.Prelude.{◌≡◌, ℕ, zero, suc, ℤ, pos, negsuc, List, length}
use Rattle.mst_node.specs.Frame.{FramesFirst}

-- its length, or -1 if the proof frames none
abbrev pub TellsTop : List ℕ → ℤ → Type 0
TellsTop proof (pos n) = (text : List ℕ) × FramesFirst proof text × (length text ≡ n)
TellsTop proof (negsuc zero) = (text : List ℕ) → FramesFirst proof text → ⊥
TellsTop proof (negsuc (suc n)) = ⊥
