-- What is said of the text of an entry, spelled from the words of its row.
use Rattle.std.specs.Prelude.{◌≡◌, ◌++◌, ℕ, List, Option, Some}
use Rattle.mst_key.specs.Bytes.{IsKey, IsValue}
use Rattle.mst_key.specs.Map.{Pair}
use Rattle.mst_key.specs.declared.format.Format.{Format}
use Rattle.mst_node.specs.Text.{child_text, counted, held_of, held_text}
use Rattle.mst_arena.specs.Content.{part_at}
use Rattle.mst_arena.specs.Row.{entry_pair}
use Rattle.mst_words.specs.declared.view.View.{View}
use Rattle.mst_words.specs.Access.{content_of}

-- a sink that took m has now taken m, the child, and the text of the entry in the row, in a format
abbrev pub SpellsEntry : View → ℕ → Format → Option (List ℕ) → (List ℕ → Type 0)
    → (List ℕ → Type 0) → Type 0
SpellsEntry v row format child old new = (pair : Pair)
    → part_at entry_pair (content_of v) row ≡ Some pair → (m : List ℕ) → old m
    → new (m ++ child_text child ++ counted pair.0 ++ held_text format (held_of format pair.1))

-- the key and the value of the entry in the row are within their limits
abbrev pub IsEntryInLimits : View → ℕ → Type 0
IsEntryInLimits v row = (pair : Pair) → part_at entry_pair (content_of v) row ≡ Some pair
    → IsKey pair.0 × IsValue pair.1
