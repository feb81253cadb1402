-- The lines: each command has one text.
use Rattle.std.specs.Prelude.{◌≡◌, ◌==◌, ℕ, ◌^◌, ◌<◌, ◌≤◌, if◌then◌else◌, List, ◌∷◌, ◌++◌, drop, filter, codes, decimal}
use Rattle.std.specs.List.{flat_map, range_with_len}
use Rattle.mst_pin.specs.State.{row_set}
use Rattle.mst_pin.specs.declared.event.Event.TheVariants.{Pin, Unpin, Write, Publish, Transfer, Ask}
use Rattle.mst_replay.specs.declared.command.Command.{Command}
use Rattle.mst_replay.specs.declared.command.Command.TheVariants.{Open, Take}

-- the rows of a set, in ascending order
abbrev pub members : ℕ → List ℕ
members rows = filter (row_set rows) (range_with_len 0 64)

-- each row after a comma
abbrev pub listed : List ℕ → List ℕ
listed xs = flat_map (λ x. 44 ∷ decimal x) xs

-- `-` for none, otherwise the rows in ascending order, separated by commas
abbrev pub rows_text : ℕ → List ℕ
rows_text rows = if rows == 0 then codes "-" else drop 1 (listed (members rows))

abbrev pub text : Command → List ℕ
text (Open n) = codes "passes " ++ decimal n
text (Take (Pin p)) = codes "pin " ++ decimal p
text (Take (Unpin p)) = codes "unpin " ++ decimal p
text (Take (Write x)) = codes "write " ++ decimal x
text (Take (Publish r rows)) = codes "publish " ++ decimal r ++ codes " " ++ rows_text rows
text (Take Transfer) = codes "transfer"
text (Take (Ask r)) = codes "ask " ++ decimal r

-- 1 to 32 passes in a new core, rows 0 to 63, and pass and record numbers 0 to 255
abbrev pub IsInRange : Command → Type 0
IsInRange (Open n) = (0 < n) × (n ≤ 32)
IsInRange (Take (Pin p)) = p < 256
IsInRange (Take (Unpin p)) = p < 256
IsInRange (Take (Write x)) = x < 64
IsInRange (Take (Publish r rows)) = (r < 256) × (rows < 2 ^ 64)
IsInRange (Take Transfer) = Unit {0}
IsInRange (Take (Ask r)) = r < 256

-- the line is the command's text
pub record IsSpelt (c : Command) (line : List ℕ) : Type 0 where
  pub in_range : IsInRange c
  pub is_text : line ≡ text c
