-- What C is told when a store is opened.
use Rattle.std.specs.Prelude.{◌≡◌, ◌<◌, ◌≤◌, ◌+◌, ℕ, List, length, get_or, Some, None}
use Rattle.mst_store.specs.Passes.{StoreId, most_rows, most_passes, new_pass}
use Rattle.mst_c.specs.declared.pass_box.State.TheVariants.{Free}
use Rattle.mst_c.specs.declared.hand.PaddedHand.{PaddedHand}
use Rattle.mst_c.specs.Formats.{format_named}

-- each hand has a free pass that has seen nothing, all of one store in the format that has this
-- number, with this many rows and as many passes as hands, and their numbers are 1, 2 and so on
abbrev pub Opened : ℕ → ℕ → List PaddedHand → Type 0
Opened format rows hands = (s : StoreId) × (format_named format ≡ Some s.format)
    × (s.rows ≡ rows) × (s.passes ≡ length hands)
    × ((k : ℕ) (h : PaddedHand) → k < length hands
    → (get_or hands k h).hand.held ≡ Some (Free (new_pass s (k + 1))))

-- the size that a store can have
abbrev pub IsSize : ℕ → ℕ → Type 0
IsSize rows passes =
    (4 ≤ rows) × (rows ≤ most_rows) × (1 ≤ passes) × (passes ≤ most_passes)

-- no hand holds a pass
abbrev pub AllEmpty : List PaddedHand → Type 0
AllEmpty hands = (k : ℕ) (h : PaddedHand) → k < length hands → (get_or hands k h).hand.held ≡ None
