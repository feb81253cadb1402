-- A node that is written entry by entry, from left to right.
use Rattle.mst_key.specs.declared.format.Format.{Format}
use Rattle.std.specs.Prelude.{◌≡◌, ◌≤◌, ◌<◌, ◌+◌, ℕ, Bool, IsTrue, List, [], ◌∷◌, ◌++◌, length, map, Option, Some, None, IfSome}
use Rattle.std.specs.Int.{w16, to_be_bytes}
use Rattle.std.specs.List.{AllByRecursion, flat_map}
use Rattle.mst_prefix.specs.Kept.{HasTaken}
use Rattle.mst_node.specs.Text.{FlatEntry, entry_text, child_digest, held_of, format_byte, digest as digest_of}
use Rattle.mst_arena.specs.Limits.{highest_layer, most_rows, most_entries}
use Rattle.mst_arena.specs.Content.{Content}
use Rattle.mst_arena.specs.declared.row.Root.{Root}
use Rattle.mst_arena.specs.declared.row.Row.{Row}
use Rattle.mst_arena.specs.declared.row.Row.TheVariants.{Entry}
use Rattle.mst_arena.specs.Standing.{Placed, Chain, end, cell, tree_of, link_of, rows_of, used, HasRows}
use Rattle.mst_path.specs.declared.node_writer.NodeWriter.{NodeWriter}

-- An entry with the number of its row, after the placed tree of the gap before it.
pub record PlacedEntry : Type 0 where
  pub at : ℕ
  pub child : Placed
  pub key : List ℕ
  pub value : List ℕ

-- these entries, and a tree in the last gap
abbrev pub chain_of : List PlacedEntry → Placed → Chain
chain_of [] tail = end tail
chain_of (e ∷ es) tail = cell e.at e.child e.key e.value (chain_of es tail)

-- the link of the first of these entries, or the link to what follows them
abbrev pub link_from : ℕ → List PlacedEntry → ℕ
link_from behind [] = behind
link_from behind (e ∷ es) = e.at + 1

-- the rows of these entries and of the trees before them
abbrev pub entry_rows : (format : Format) → ℕ → List PlacedEntry → List (ℕ × Row)
entry_rows format behind [] = []
entry_rows format behind (e ∷ es) =
    (e.at, Entry (link_of e.child) (link_from behind es) e.key e.value)
    ∷ rows_of format e.child ++ entry_rows format behind es

-- their numbers
abbrev pub entries_used : List PlacedEntry → List ℕ
entries_used [] = []
entries_used (e ∷ es) = e.at ∷ used e.child ++ entries_used es

-- the text of a node up to these entries
abbrev pub flat_of : (format : Format) → PlacedEntry → FlatEntry
flat_of format e =
    record {
      child = child_digest (tree_of format e.child);
      key = e.key;
      held = held_of format e.value;
    }

abbrev pub text_up_to : (format : Format) → ℕ → ℕ → List PlacedEntry → List ℕ
text_up_to format layer count es =
    format_byte format ∷ layer ∷ to_be_bytes w16 count
    ++ flat_map (entry_text format) (map (flat_of format) es)

-- link and digest are those of the placed tree
pub record IsRootOf (format : Format) (p : Placed) (at : Root) : Type 0 where
  pub link : at.link ≡ link_of p
  pub sum : at.digest ≡ digest_of (tree_of format p)

-- ---- the writer

-- the row of the next entry, as a list and as a link
abbrev pub ahead : Option ℕ → List ℕ
ahead None = []
ahead (Some r) = r ∷ []

abbrev pub link_to : Option ℕ → ℕ
link_to None = 0
link_to (Some r) = r + 1

-- if there is a next entry, its row may be written
abbrev pub IsNextBlank : Option ℕ → (ℕ → Bool) → Type 0
IsNextBlank next blank = IfSome next (λ r. IsTrue (blank r))

-- there is a row for the next entry if some are left
abbrev pub IsAhead : Option ℕ → ℕ → Type 0
IsAhead None left = left ≡ 0
IsAhead (Some r) left = 0 < left

-- the limits of what a writer holds; its hasher has taken a text
pub record IsWriter {A : Type 0} (w : NodeWriter A) : Type 0 where
  pub low : w.layer ≤ highest_layer
  pub some : 0 < w.count
  pub few : w.count ≤ most_entries
  pub small : AllByRecursion (λ r. r < most_rows) (w.head ∷ w.first ∷ ahead w.next)
  pub reserved : IsAhead w.next w.left
  pub hashes : (m : List ℕ) × HasTaken w.hasher m

-- these entries are written, in this format: they are the first of the node's, their rows stand,
-- and the hasher has taken the text up to them
pub record IsWritten {A : Type 0} (format : Format) (w : NodeWriter A) (content : Content)
    (es : List PlacedEntry)
    : Type 0 where
  pub format_is : w.format ≡ format
  pub counted : length es + w.left ≡ w.count
  pub begins : link_from (link_to w.next) es ≡ w.first + 1
  pub fed : HasTaken w.hasher (text_up_to format w.layer w.count es)
  pub rows : HasRows content (entry_rows format (link_to w.next) es)
