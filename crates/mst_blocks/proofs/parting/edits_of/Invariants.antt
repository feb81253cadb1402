use Rattle.mst_blocks.proofs.Names.{picked}
use Rattle.std.specs.Prelude.{◌≡◌, take, vec_items}
use Rattle.mst_blocks.proofs.parting.edits_of.Given as goal

abbrev pub invariant-loop-i : goal.invariant-loop-i
invariant-loop-i g l = vec_items l.part ≡ picked (take l.i l.places) (take l.i l.edits) l.shard
