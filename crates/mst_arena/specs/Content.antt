-- What a holder of rows may read: rows at some row numbers.
use Rattle.std.specs.Prelude.{◌≡◌, ◌≢◌, ℕ, List, Option, Some, option_and_then, slice_get}
use Rattle.mst_arena.specs.declared.row.Row.{Row}
use Rattle.mst_arena.specs.declared.row.Row.TheVariants.{Entry, Head}

-- the row at each number that may be read
abbrev pub Content : Type 0
Content = ℕ → Option Row

-- a part of the row at a number, if there is a row that has this part
abbrev pub part_at : {A : Type 0} → (Row → Option A) → Content → ℕ → Option A
part_at part content row = option_and_then part (content row)

-- the new content has this row at the number, and every other row as before
pub record Writes (old new : Content) (row : ℕ) (value : Row) : Type 0 where
  pub here : new row ≡ Some value
  pub others : (k : ℕ) → k ≢ row → new k ≡ old k

-- the same entry with another child and another next; a head as it is
abbrev pub relinked : ℕ → ℕ → Row → Row
relinked child next (Entry old_child old_next key value) = Entry child next key value
relinked child next (Head layer count first tail digest) = Head layer count first tail digest

-- the content of a list of places, each with a row or with none
abbrev pub listed : List (Option Row) → Content
listed places row = option_and_then (λ r. r) (slice_get places row)
