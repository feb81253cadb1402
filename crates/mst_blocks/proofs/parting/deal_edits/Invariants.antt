use Rattle.mst_blocks.proofs.Names.{parts_from}
use Rattle.std.specs.Prelude.{◌≡◌, ◌≤◌, vec_len, vec_capacity, vec_items}
use Rattle.mst_blocks.proofs.parting.deal_edits.Given as goal

abbrev pub invariant-loop-shard : goal.invariant-loop-shard
invariant-loop-shard g l =
    (vec_items l.parts ≡ parts_from l.splits l.edits 0 l.shard)
    × (vec_len l.parts ≡ l.shard) × (l.shards ≤ vec_capacity l.parts)
