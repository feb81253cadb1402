-- The entries of a node, cut at a key: the cells below it, and what follows them.
use Rattle.std.specs.Prelude.{◌≡◌, ℕ, List}
use Rattle.std.specs.List.{AllByRecursion}
use Rattle.std.specs.declared.cmp.Ordering.TheVariants.{Less}
use Rattle.mst_key.specs.Map.{key_cmp}
use Rattle.mst_node.specs.Tree.{Tree, Entries, last, entry}
use Rattle.mst_node.specs.Shape.{TreeEntry, with_entries}

-- each cell's key is below the key
abbrev pub CellsBelow : List ℕ → List TreeEntry → Type 0
CellsBelow k front = AllByRecursion (λ c. key_cmp c.key k ≡ Less) front

-- the first entry, if there is one, is above the key
abbrev pub FallsFirst : List ℕ → Entries → Type 0
FallsFirst k (last child) = Unit {0}
FallsFirst k (entry child key value rest) = key_cmp k key ≡ Less

-- The key falls into the gap between these cells and these entries, whose first child stands there.
pub record IsGap (k : List ℕ) (es : Entries) (front : List TreeEntry)
    (back : Entries) : Type 0 where
  pub whole : es ≡ with_entries front back
  pub low : CellsBelow k front
  pub high : FallsFirst k back

-- The key's entry stands after these cells, between this child and these entries.
pub record IsAt (k : List ℕ) (es : Entries) (front : List TreeEntry) (child : Tree) (value : List ℕ)
    (back : Entries) : Type 0 where
  pub whole : es ≡ with_entries front (entry child k value back)
  pub low : CellsBelow k front
