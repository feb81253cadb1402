-- How a range is gathered, tree by tree.
use Rattle.std.specs.Prelude.{◌≡◌, ℕ, ◌-◌, Bool, ◌&&◌, List, [], ◌∷◌, ◌++◌, length, take, filter, Option}
use Rattle.mst_key.specs.declared.format.Format.{Format}
use Rattle.mst_key.specs.Map.{Pair, IsAscending, key_cmp, from_on, below}
use Rattle.mst_node.specs.Tree.{pairs, entries_pairs, IsMst, IsMstEntries}
use Rattle.mst_node.specs.Trail.{by_order}
use Rattle.mst_arena.specs.Content.{Content}
use Rattle.mst_arena.specs.Standing.{Placed, Chain, end, cell, tree_of, entries_of, rows_of, HasRows}
use Rattle.mst_arena.specs.declared.row.HeadLinks.{HeadLinks}
use Rattle.mst_read.specs.Search.{LiesBehind, head_of}

-- the pair's key is at least `from` and below `to`
abbrev pub within : Option (List ℕ) → Option (List ℕ) → Pair → Bool
within from to p = from_on from p.0 && below to p.0

-- the pairs found so far and after them those of the list that are within the bounds, until there
-- are as many as the limit
unfoldable pub filled : Option (List ℕ) → Option (List ℕ) → ℕ → List Pair → List Pair → List Pair
filled from to limit found m = found ++ take (limit - length found) (filter (within from to) m)

-- a Merkle search tree whose keys rise stands in rows of the content, and this is what a search
-- reads of its head
pub record HeadStands (format : Format) (content : Content) (top : Option HeadLinks)
    (p : Placed) : Type 0 where
  pub head_is : head_of p ≡ top
  pub rows : HasRows content (rows_of format p)
  pub mst : IsMst format (tree_of format p)
  pub rise : IsAscending (pairs (tree_of format p))

-- a part of a node, from an entry with the gap before it on to the last gap, stands in rows of the
-- content after these links, and its keys rise
pub record PartStands (format : Format) (content : Content) (part : HeadLinks)
    (chain : Chain) : Type 0 where
  pub lies : LiesBehind format content part chain
  pub mst : IsMstEntries format part.layer (entries_of format chain)
  pub rise : IsAscending (entries_pairs (entries_of format chain))

-- its part from the first entry on whose key is not below the key
abbrev pub rest_from : List ℕ → Chain → Chain
rest_from k (end child) = end child
rest_from k (cell at child key value rest) =
    by_order (key_cmp k key) (cell at child key value rest) (cell at child key value rest)
    (rest_from k rest)

-- its pairs after the first gap
abbrev pub past_gap : Format → Chain → List Pair
past_gap format (end child) = []
past_gap format (cell at child key value rest) =
    (key, value) ∷ entries_pairs (entries_of format rest)
