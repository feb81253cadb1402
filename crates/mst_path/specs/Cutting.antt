-- The entries of a node in their rows, cut at a key.
use Rattle.mst_key.specs.declared.format.Format.{Format}
use Rattle.std.specs.Prelude.{◌≡◌, ℕ, ◌+◌, List, [], ◌∷◌, ◌++◌, length}
use Rattle.mst_arena.specs.Content.{Content}
use Rattle.mst_arena.specs.declared.row.HeadLinks.{HeadLinks}
use Rattle.mst_arena.specs.Standing.{Placed, link_of, tree_of, HasRows}
use Rattle.mst_path.specs.declared.making.EntryRun.{EntryRun}
use Rattle.mst_path.specs.declared.cut.Cut.{Cut}
use Rattle.mst_path.specs.declared.cut.Cut.TheVariants.{Gap, Found}
use Rattle.mst_change.specs.Gap.{IsGap, IsAt}
use Rattle.mst_path.specs.Runs.{own_rows}
use Rattle.mst_path.specs.Writing.{PlacedEntry, link_from}
use Rattle.mst_path.specs.Making.{cells_of, entries_to}

-- these are the entries after a head: their rows are in the content
pub record EntriesLie (content : Content) (links : HeadLinks) (es : List PlacedEntry) : Type 0 where
  pub first : link_from 0 es ≡ links.first
  pub count : length es ≡ links.count
  pub rows : HasRows content (own_rows 0 es)

-- the tree in the gap before these entries, or in the last gap
abbrev pub gap_before : List PlacedEntry → Placed → Placed
gap_before [] tail = tail
gap_before (e ∷ es) tail = e.child

-- the run has these entries, up to the link after them
pub record IsRunOf (run : EntryRun) (behind : ℕ) (es : List PlacedEntry) : Type 0 where
  pub counted : length es ≡ run.count
  pub begins : link_from behind es ≡ run.first

-- the key falls into the gap between two parts of the entries, in which the tree at the link stands
pub record CutGap (format : Format) (k : List ℕ) (es : List PlacedEntry) (tail : Placed)
    (front : EntryRun) (child : ℕ) (back : EntryRun) : Type 0 where
  pub before : List PlacedEntry
  pub behind : List PlacedEntry
  pub whole : es ≡ before ++ behind
  pub front_is : IsRunOf front (link_from 0 behind) before
  pub back_is : IsRunOf back 0 behind
  pub child_at : link_of (gap_before behind tail) ≡ child
  pub gap : IsGap k (entries_to format es tail) (cells_of format before)
      (entries_to format behind tail)

-- the key's entry stands in the row between two parts of the entries, after the tree at the link
pub record CutFound (format : Format) (k : List ℕ) (es : List PlacedEntry) (tail : Placed)
    (front : EntryRun) (row child : ℕ) (back : EntryRun) : Type 0 where
  pub before : List PlacedEntry
  pub here : PlacedEntry
  pub behind : List PlacedEntry
  pub whole : es ≡ before ++ here ∷ behind
  pub front_is : IsRunOf front (row + 1) before
  pub back_is : IsRunOf back 0 behind
  pub row_is : here.at ≡ row
  pub key_is : here.key ≡ k
  pub child_at : link_of here.child ≡ child
  pub at : IsAt k (entries_to format es tail) (cells_of format before) (tree_of format here.child)
      here.value
      (entries_to format behind tail)

-- a cut of the entries at the key
abbrev pub IsCut : (format : Format) → List ℕ → List PlacedEntry → Placed → Cut → Type 0
IsCut format k es tail (Gap front child back) = CutGap format k es tail front child back
IsCut format k es tail (Found front row child back) = CutFound format k es tail front row child back
