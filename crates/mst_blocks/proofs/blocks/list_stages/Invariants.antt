use Rattle.mst_blocks.proofs.Names.{◌≡◌, ◌++◌, drop, vec_items, listed_stages}
use Rattle.mst_sharded_proof.specs.Shards.{shards as shards_at}
use Rattle.mst_blocks.proofs.blocks.list_stages.Given as goal

abbrev pub invariant-loop-place : goal.invariant-loop-place
invariant-loop-place g l =
    vec_items l.edits ++ listed_stages (drop l.place (shards_at l.splits)) (drop l.place l.stages)
    ≡ listed_stages (shards_at l.splits) l.stages
