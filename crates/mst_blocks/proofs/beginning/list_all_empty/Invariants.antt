use Rattle.mst_blocks.proofs.Names.{empty_listings}
use Rattle.std.specs.Prelude.{◌≡◌, ◌≤◌, ◌++◌, drop, vec_len, vec_capacity, vec_items}
use Rattle.mst_sharded_proof.specs.Shards.{shards as shards_at}
use Rattle.mst_blocks.proofs.beginning.list_all_empty.Given as goal

abbrev pub invariant-loop-place : goal.invariant-loop-place
invariant-loop-place g l =
    (vec_items l.edits ++ empty_listings l.fn.format (drop l.place (shards_at l.splits))
    ≡ empty_listings l.fn.format (shards_at l.splits))
    × (vec_len l.edits ≡ l.place) × (l.shards ≤ vec_capacity l.edits)
