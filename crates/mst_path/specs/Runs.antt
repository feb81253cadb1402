-- Entries of a node that stand one after another, as parts of a tree that is taken apart.
use Rattle.mst_key.specs.declared.format.Format.{Format}
use Rattle.std.specs.Prelude.{◌≡◌, ℕ, List, [], ◌∷◌, ◌++◌, length}
use Rattle.mst_arena.specs.Content.{Content}
use Rattle.mst_arena.specs.Lives.{State}
use Rattle.mst_arena.specs.declared.row.Row.{Row}
use Rattle.mst_arena.specs.declared.row.Row.TheVariants.{Entry}
use Rattle.mst_arena.specs.Standing.{Placed, link_of, rows_of, used, HasRows}
use Rattle.mst_arena.specs.Lists.{In}
use Rattle.mst_path.specs.Moves.{IsOld}
use Rattle.mst_path.specs.Made.{IsMade}
use Rattle.mst_path.specs.Writing.{PlacedEntry, link_from}

-- a placed tree stands, on rows that are alive: those of a node are all old, with all below it, or
-- all new
pub record Piece (format : Format) (content : Content) (s : State) (p : Placed) : Type 0 where
  pub rows : HasRows content (rows_of format p)
  pub made : IsMade s p

-- a placed tree stands, on rows of the current version and older ones
pub record OldPiece (format : Format) (content : Content) (s : State) (p : Placed) : Type 0 where
  pub rows : HasRows content (rows_of format p)
  pub old : (r : ℕ) → In r (used p) → IsOld s r

-- the rows of the entries alone, without the trees in their gaps
abbrev pub own_rows : ℕ → List PlacedEntry → List (ℕ × Row)
own_rows behind [] = []
own_rows behind (e ∷ es) =
    (e.at, Entry (link_of e.child) (link_from behind es) e.key e.value) ∷ own_rows behind es

-- their numbers
abbrev pub own : List PlacedEntry → List ℕ
own [] = []
own (e ∷ es) = e.at ∷ own es

-- the numbers of the rows in their gaps
abbrev pub gaps_used : List PlacedEntry → List ℕ
gaps_used [] = []
gaps_used (e ∷ es) = used e.child ++ gaps_used es

-- a fact of the tree before each entry
abbrev pub EachGap : (Placed → Type 0) → List PlacedEntry → Type 0
EachGap P [] = Unit {0}
EachGap P (e ∷ es) = P e.child × EachGap P es

-- So many entries stand from a link on, up to the link after them: their rows are of the current
-- version and older ones, and so are the trees before them.
pub record RunStands (format : Format) (content : Content) (s : State) (link count behind : ℕ)
    (es : List PlacedEntry) : Type 0 where
  pub counted : length es ≡ count
  pub begins : link_from behind es ≡ link
  pub rows : HasRows content (own_rows behind es)
  pub old : (r : ℕ) → In r (own es) → IsOld s r
  pub gaps : EachGap (OldPiece format content s) es

-- the same entries in other rows
abbrev pub AreCopies : List PlacedEntry → List PlacedEntry → Type 0
AreCopies [] [] = Unit {0}
AreCopies [] (e ∷ es) = ⊥
AreCopies (c ∷ cs) [] = ⊥
AreCopies (c ∷ cs) (e ∷ es) =
    (c.child ≡ e.child) × (c.key ≡ e.key) × (c.value ≡ e.value) × AreCopies cs es
