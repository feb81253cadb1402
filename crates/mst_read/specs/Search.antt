-- Rows that stand for a map at a root, and where a search in the rows of a node ends.
use Rattle.std.specs.Prelude.{◌≡◌, ℕ, if◌then◌else◌, List, Option, Some, None}
use Rattle.mst_key.specs.declared.format.Format.{Format}
use Rattle.mst_key.specs.Map.{Pair, key_cmp, above}
use Rattle.mst_node.specs.Text.{root}
use Rattle.mst_node.specs.Trail.{by_order}
use Rattle.mst_arena.specs.Content.{Content}
use Rattle.mst_arena.specs.Standing.{Placed, none, head, Chain, end, cell, link_of, first_of, tail_of, count_of, rows_of, chain_rows, HasRows, Stands}
use Rattle.mst_arena.specs.declared.row.HeadLinks.{HeadLinks}
use Rattle.mst_arena.specs.declared.row.Root.{Root}
use Rattle.mst_read.specs.declared.lookup.RowPlace.{RowPlace}
use Rattle.mst_read.specs.declared.lookup.RowPlace.TheVariants.{Found, Gap}

-- the rows stand for some map at the root
abbrev pub MapStands : Content → Root → Type 0
MapStands content at = (format : Format) × (m : List Pair) × Stands format content at m

-- the rows stand for the map at a link, whatever digest is kept beside it: at the root of this link
-- that has the map's own
abbrev pub StandsBelow : Format → Content → ℕ → List Pair → Type 0
StandsBelow format content link m =
    Stands format content (record { link = link; digest = root format m }) m

abbrev pub LinkStands : Content → ℕ → Type 0
LinkStands content link = (format : Format) × (m : List Pair) × StandsBelow format content link m

-- ---- the rows of a tree, and those of a node after its head

-- the rows of the placed tree are in the content, and this is its link
pub record Lies (format : Format) (content : Content) (link : ℕ) (p : Placed) : Type 0 where
  pub at : link_of p ≡ link
  pub rows : HasRows content (rows_of format p)

-- the rows of the chain are in the content, and these are the links of its head
pub record LiesBehind (format : Format) (content : Content) (links : HeadLinks)
    (chain : Chain) : Type 0 where
  pub first : first_of chain ≡ links.first
  pub tail : tail_of chain ≡ links.tail
  pub count : count_of chain ≡ links.count
  pub rows : HasRows content (chain_rows format chain)

abbrev pub TreeLies : Content → ℕ → Type 0
TreeLies content link = (format : Format) × (p : Placed) × Lies format content link p

abbrev pub ChainLies : Content → HeadLinks → Type 0
ChainLies content links =
    (format : Format) × (chain : Chain) × LiesBehind format content links chain

-- layer, count and links of a chain, as the head of its node has them
abbrev pub chain_links : ℕ → Chain → HeadLinks
chain_links layer chain = record {
  layer = layer;
  count = count_of chain;
  first = first_of chain;
  tail = tail_of chain;
}

-- what a search reads of a tree's head: `None` for the empty tree
abbrev pub head_of : Placed → Option HeadLinks
head_of none = None
head_of (head at layer chain) = Some (chain_links layer chain)

-- ---- where a search ends

-- the row that has the key, or the link of the tree in the gap in which the key would lie
abbrev pub place : List ℕ → Chain → RowPlace
place k (end child) = Gap (link_of child)
place k (cell at child key value rest) =
    by_order (key_cmp k key) (Gap (link_of child)) (Found at) (place k rest)

-- the row of the first entry whose key is above the bound, and the link of the tree in the gap
-- before it
abbrev pub entry_above : Option (List ℕ) → Chain → Option (ℕ × ℕ)
entry_above bound (end child) = None
entry_above bound (cell at child key value rest) =
    if above bound key then Some (at, link_of child) else entry_above bound rest

-- the tree in the gap in which the key would lie; the empty tree if an entry has the key
abbrev pub gap_placed : List ℕ → Chain → Placed
gap_placed k (end child) = child
gap_placed k (cell at child key value rest) =
    by_order (key_cmp k key) child none (gap_placed k rest)
