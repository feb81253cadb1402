-- Rows stand for a tree: a head row for each node, with its layer, the number of its entries, the
-- link of the first and of the tree in the last gap, and its digest; and a row for each entry, with
-- the link of the tree in the gap before it and of the next entry. A link is a row number plus 1,
-- and 0 is none.
use Rattle.std.specs.Prelude.{◌≡◌, ◌≢◌, ℕ, ◌+◌, List, [], ◌∷◌, ◌++◌, Some}
use Rattle.std.specs.List.{AllByRecursion}
use Rattle.mst_key.specs.declared.format.Format.{Format}
use Rattle.mst_key.specs.Map.{Pair, IsMap}
use Rattle.mst_node.specs.Tree as tree
use Rattle.mst_node.specs.Text.{digest, root}
use Rattle.mst_arena.specs.Content.{Content}
use Rattle.mst_arena.specs.declared.row.Root.{Root}
use Rattle.mst_arena.specs.declared.row.Row.{Row}
use Rattle.mst_arena.specs.declared.row.Row.TheVariants.{Entry, Head}

-- A tree with the number of the row for each node and each entry.
mutual
  pub data Placed : Type 0 where
    none : Placed
    head : (at : ℕ) → (layer : ℕ) → (chain : Chain) → Placed

  pub data Chain : Type 0 where
    end : (child : Placed) → Chain
    cell : (at : ℕ) → (child : Placed) → (key : List ℕ) → (value : List ℕ) → (rest : Chain) → Chain

-- the tree that is placed
abbrev mutual
  pub tree_of : Format → Placed → tree.Tree
  tree_of format none = tree.empty
  tree_of format (head at layer chain) = tree.node format layer (entries_of format chain)

  pub entries_of : Format → Chain → tree.Entries
  entries_of format (end child) = tree.last (tree_of format child)
  entries_of format (cell at child key value rest) =
      tree.entry (tree_of format child) key value (entries_of format rest)

-- the link of a tree, of the first entry of a chain, and of the tree in its last gap
abbrev pub link_of : Placed → ℕ
link_of none = 0
link_of (head at layer chain) = at + 1

abbrev pub first_of : Chain → ℕ
first_of (end child) = 0
first_of (cell at child key value rest) = at + 1

abbrev pub tail_of : Chain → ℕ
tail_of (end child) = link_of child
tail_of (cell at child key value rest) = tail_of rest

abbrev pub count_of : Chain → ℕ
count_of (end child) = 0
count_of (cell at child key value rest) = count_of rest + 1

-- the head row of a node
abbrev pub head_row : Format → ℕ → Chain → Row
head_row format layer chain = Head layer (count_of chain) (first_of chain) (tail_of chain)
    (digest (tree.node format layer (entries_of format chain)))

-- the rows that stand for a placed tree, each with its number
abbrev mutual
  pub rows_of : Format → Placed → List (ℕ × Row)
  rows_of format none = []
  rows_of format (head at layer chain) = (at, head_row format layer chain) ∷ chain_rows format chain

  pub chain_rows : Format → Chain → List (ℕ × Row)
  chain_rows format (end child) = rows_of format child
  chain_rows format (cell at child key value rest) =
      (at, Entry (link_of child) (first_of rest) key value)
      ∷ rows_of format child ++ chain_rows format rest

-- their numbers
abbrev mutual
  pub used : Placed → List ℕ
  used none = []
  used (head at layer chain) = at ∷ chain_used chain

  pub chain_used : Chain → List ℕ
  chain_used (end child) = used child
  chain_used (cell at child key value rest) = at ∷ used child ++ chain_used rest

-- the content has these rows
abbrev pub HasRows : Content → List (ℕ × Row) → Type 0
HasRows content rows = AllByRecursion (λ r. content r.0 ≡ Some r.1) rows

-- no number stands twice
abbrev pub IsDistinct : List ℕ → Type 0
IsDistinct [] = Unit {0}
IsDistinct (x ∷ xs) = AllByRecursion (λ y. x ≢ y) xs × IsDistinct xs

-- rows of the content stand for the tree at the link: some placing of it has this link and these
-- rows, and no row is used twice
pub record StandsAt (format : Format) (content : Content) (link : ℕ) (t : tree.Tree) : Type 0 where
  pub placed : Placed
  pub at : link_of placed ≡ link
  pub is : tree_of format placed ≡ t
  pub rows : HasRows content (rows_of format placed)
  pub once : IsDistinct (used placed)

-- rows of the content stand for the tree of a map at a root
pub record Stands (format : Format) (content : Content) (at : Root) (m : List Pair) : Type 0 where
  pub map : IsMap m
  pub digest : at.digest ≡ root format m
  pub tree : StandsAt format content at.link (tree.tree format m)

-- the numbers of the rows that stand
abbrev pub numbers : {format : Format} {content : Content} {at : Root} {m : List Pair}
    → Stands format content at m → List ℕ
numbers s = used s.tree.placed
