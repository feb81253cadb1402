-- A tree that stands and is to lose a key.
use Rattle.mst_key.specs.declared.format.Format.{Format}
use Rattle.std.specs.Prelude.{◌≡◌, ◌≤◌, ℕ, List}
use Rattle.mst_node.specs.Tree.{Tree, IsMst}
use Rattle.mst_arena.specs.Content.{Content}
use Rattle.mst_arena.specs.Lives.{State}
use Rattle.mst_arena.specs.Lists.{times}
use Rattle.mst_arena.specs.Standing.{Placed, tree_of, link_of, used}
use Rattle.mst_change.specs.Remove.{tree_remove}
use Rattle.mst_change.specs.Cost.{remove_rows}
use Rattle.mst_path.specs.Runs.{OldPiece}

-- A search tree of the current version stands at the link, and no row stands twice in it.
pub record SearchTree (format : Format) (content : Content) (s : State) (link : ℕ) : Type 0 where
  pub placed : Placed
  pub at : link_of placed ≡ link
  pub piece : OldPiece format content s placed
  pub search : IsMst format (tree_of format placed)
  pub once : (x : ℕ) → times x (used placed) ≤ 1

-- how often a row stands in it
abbrev pub in_tree : (format : Format) {content : Content} {s : State} {link : ℕ}
    → SearchTree format content s link → ℕ → ℕ
in_tree format t x = times x (used t.placed)

-- the tree without the key, and the rows of the nodes that are made new
abbrev pub without : (format : Format) {content : Content} {s : State} {link : ℕ}
    → SearchTree format content s link → List ℕ → Tree
without format t k = tree_remove (tree_of format t.placed) k

abbrev pub without_rows : (format : Format) {content : Content} {s : State} {link : ℕ}
    → SearchTree format content s link → List ℕ → ℕ
without_rows format t k = remove_rows (tree_of format t.placed) k
