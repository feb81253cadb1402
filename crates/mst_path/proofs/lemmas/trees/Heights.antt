-- What is known of the trees in the gaps of a node, and of its entries.
use Rattle.mst_path.proofs.Names.{◌≡◌, ℕ, List, [], ◌∷◌, Format, layer_in, IsAscending, Tree, Entries, last, entry, pairs, entries_pairs, IsMstEntries, TreeEntry, with_entries, first_child, rest_rises}
use Rattle.mst_change.proofs.Split.Trees.{child_rises}

module _ (format : Format) (l : ℕ) (es : Entries) where
  pub gap_rises : (front : List TreeEntry) → IsAscending (entries_pairs (with_entries front es))
      → IsAscending (pairs (first_child es))
  gap_rises [] rise = here es rise
    where
      here : (fs : Entries) → IsAscending (entries_pairs fs) → IsAscending (pairs (first_child fs))
      here (last child) rise = rise
      here (entry child key value rest) rise = child_rises child key value rest rise
  gap_rises (f ∷ front) rise =
      gap_rises front (rest_rises f.child f.key f.value (with_entries front es) rise)

-- an entry of a node has the node's layer
pub entry_layer : (format : Format) (l : ℕ) (child : Tree) (key value : List ℕ) (rest : Entries)
    (front : List TreeEntry) → IsMstEntries format l
    (with_entries front (entry child key value rest)) → layer_in format key ≡ l
entry_layer format l child key value rest [] mst = mst.2
entry_layer format l child key value rest (f ∷ front) mst =
    entry_layer format l child key value rest front mst.3
