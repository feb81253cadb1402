-- The Merkle search tree of a map (Auvolat and Taïani 2019; no node is empty).
use Rattle.std.specs.Prelude.{◌≡◌, ℕ, zero, suc, ◌+◌, ◌<◌, max, ◌==◌, if◌then◌else◌, List, [], ◌∷◌, ◌++◌, length, map}
use Rattle.mst_key.specs.declared.format.Format.{Format}
use Rattle.mst_key.specs.Layer.{layer_in}
use Rattle.mst_key.specs.Map.{Pair}

-- A tree is empty, or a node of a layer with its entries from left to right. Each entry stands
-- after the tree of the gap before it, and the tree of the last gap ends them.
mutual
  pub data Tree : Type 0 where
    empty : Tree
    node : (format : Format) → (layer : ℕ) → (entries : Entries) → Tree

  pub data Entries : Type 0 where
    last : (child : Tree) → Entries
    entry : (child : Tree) → (key : List ℕ) → (value : List ℕ) → (rest : Entries) → Entries

-- ---- the tree of a map

-- the layers of the keys, in their order
abbrev pub layers : (List ℕ → ℕ) → List Pair → List ℕ
layers layer m = map (λ p. layer p.0) m

-- the greatest number of a list
abbrev pub greatest : List ℕ → ℕ
greatest [] = 0
greatest (l ∷ ls) = max l (greatest ls)

-- The entries are the pairs of layer l, and each gap between them is given to `below`. The gap so
-- far is first.
unfoldable pub entries_of : (List ℕ → ℕ) → (List Pair → Tree) → ℕ → List Pair → List Pair → Entries
entries_of layer below l gap [] = last (below gap)
entries_of layer below l gap (p ∷ m) =
    if layer p.0 == l then entry (below gap) p.0 p.1 (entries_of layer below l [] m)
    else entries_of layer below l (gap ++ p ∷ []) m

-- the tree of at most n pairs: its layer is the greatest of the keys, and in the gaps stand the
-- trees of their pairs
unfoldable pub tree_within : (List ℕ → ℕ) → Format → ℕ → List Pair → Tree
tree_within layer format n [] = empty
tree_within layer format zero (p ∷ m) = empty
tree_within layer format (suc n) (p ∷ m) =
    let l = greatest (layers layer (p ∷ m)) in
    node format l (entries_of layer (tree_within layer format n) l [] (p ∷ m))

-- the tree of a map
unfoldable pub tree : Format → List Pair → Tree
tree format m = tree_within (layer_in format) format (length m) m

-- ---- what a tree holds

-- the pairs of a tree, in order
abbrev mutual
  pub pairs : Tree → List Pair
  pairs empty = []
  pairs (node format l es) = entries_pairs es

  pub entries_pairs : Entries → List Pair
  entries_pairs (last child) = pairs child
  entries_pairs (entry child key value rest) = pairs child ++ (key, value) ∷ entries_pairs rest

-- the tree and all trees in it that are not empty, from the top down and from left to right
abbrev mutual
  pub subtrees : Tree → List Tree
  subtrees empty = []
  subtrees (node format l es) = node format l es ∷ entries_subtrees es

  pub entries_subtrees : Entries → List Tree
  entries_subtrees (last child) = subtrees child
  entries_subtrees (entry child key value rest) = subtrees child ++ entries_subtrees rest

-- how many entries there are
abbrev pub entry_count : Entries → ℕ
entry_count (last child) = 0
entry_count (entry child key value rest) = entry_count rest + 1

-- ---- which trees are Merkle search trees

-- a tree is empty, or its layer is below l
abbrev pub IsUnder : ℕ → Tree → Type 0
IsUnder l empty = Unit {0}
IsUnder l (node format k es) = k < l

-- No node is empty, each key has the layer of its node, and layers fall from a node to its
-- children.
abbrev mutual
  pub IsMst : Format → Tree → Type 0
  IsMst format empty = Unit {0}
  IsMst format (node g l es) = (g ≡ format) × (0 < entry_count es) × IsMstEntries format l es

  pub IsMstEntries : Format → ℕ → Entries → Type 0
  IsMstEntries format l (last child) = IsUnder l child × IsMst format child
  IsMstEntries format l (entry child key value rest) =
      IsUnder l child × IsMst format child × (layer_in format key ≡ l) × IsMstEntries format l rest
