-- A plan that is carried out: its new nodes are written into free rows next to the trees that are
-- kept.
use Rattle.std.specs.Prelude.{◌≡◌, ◌+◌, ℕ, List, [], length}
use Rattle.mst_key.specs.declared.format.Format.{Format}
use Rattle.mst_node.specs.Tree.{Tree}
use Rattle.mst_arena.specs.Content.{Content}
use Rattle.mst_arena.specs.Lives.{State}
use Rattle.mst_arena.specs.Lists.{times}
use Rattle.mst_arena.specs.declared.row.Root.{Root}
use Rattle.mst_arena.specs.Standing.{Placed, tree_of, used}
use Rattle.mst_path.specs.Moves.{Moves}
use Rattle.mst_path.specs.Runs.{Piece}
use Rattle.mst_path.specs.Takes.{KeepsBut}
use Rattle.mst_path.specs.Writing.{IsRootOf}

-- The tree stands at the root, on the rows that were kept and those that were taken, `count` of
-- these; none died, and only rows that were taken were written. Each node stands on rows of the
-- current version and older ones, with all below it, or on rows that were born with the version to
-- come.
pub record Sown (format : Format) (c c' : Content) (s s' : State) (t : Tree) (at : Root)
    (kept : List ℕ) (count : ℕ) : Type 0 where
  pub placed : Placed
  pub is : tree_of format placed ≡ t
  pub root : IsRootOf format placed at
  pub piece : Piece format c' s' placed
  pub taken : List ℕ
  pub moves : Moves s s' taken []
  pub keeps : KeepsBut taken c c'
  pub rows : (x : ℕ) → times x (used placed) ≡ times x kept + times x taken
  pub counted : length taken ≡ count
