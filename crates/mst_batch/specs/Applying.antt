-- Why a batch is not made.
use Rattle.std.specs.Prelude.{◌<◌, ℕ, List, length}
use Rattle.mst_key.specs.declared.format.Format.{Format}
use Rattle.mst_key.specs.declared.history.Edit.{Edit}
use Rattle.mst_key.specs.History.{batched}
use Rattle.mst_key.specs.Map.{Pair}
use Rattle.mst_node.specs.Cost.{cost}
use Rattle.mst_arena.specs.Content.{Content}
use Rattle.mst_arena.specs.Lives.{State, free_count}
use Rattle.mst_arena.specs.declared.row.Root.{Root}
use Rattle.mst_arena.specs.Standing.{Stands}
use Rattle.mst_batch.specs.declared.faults.BatchRefusal.{BatchRefusal}
use Rattle.mst_batch.specs.declared.faults.BatchRefusal.TheVariants.{Memory, NoRoom}

-- for room, exactly where fewer rows are free than the batch takes; for memory, only a batch of
-- more than one edit
abbrev pub LacksBatch : BatchRefusal → Format → Content → State → Root → List Edit → Type 0
LacksBatch (Memory refused) format content s root edits = 1 < length edits
LacksBatch NoRoom format content s root edits =
    (m : List Pair) → Stands format content root m
    → free_count s.lives < cost format m (batched m edits)

-- the tree of these pairs is not made: there are more of them than `most`, or memory was refused
abbrev pub LacksPairs : BatchRefusal → ℕ → List Pair → Type 0
LacksPairs (Memory refused) most pairs = Unit {0}
LacksPairs NoRoom most pairs = most < length pairs
