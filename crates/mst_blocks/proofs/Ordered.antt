-- A snapshot beside the blocks that a writer has made.
use Rattle.mst_blocks.proofs.Names.{◌≡◌, ◌⊎◌, ℕ, List, ◌++◌, take, sym, subst, Format, History, format_seen, HasBytes, CollideForKey, Blocks, map_made, Records, Whole, IsNumber, IsOneBlock, map_of, at_last, HasMade}
use Rattle.mst_key.specs.History.{IsPrefix}
use Rattle.mst_blocks.proofs.Chained.{block_map, records_fewer}

-- what the writer's directory records of the blocks up to the snapshot's number
pub recorded_of : (blocks : Blocks) (w v : Whole) (format : Format) (n : ℕ) → HasMade blocks w
    → v.sharding.splits ≡ w.sharding.splits
    → IsPrefix v.directory.seen (at_last w.directory).seen → IsNumber n v
    → format_seen (at_last w.directory) ≡ format
    → Records format v.sharding.splits v.directory.seen (take n blocks)
recorded_of blocks w v format n h splits early number same =
    records_fewer format v.sharding.splits v.directory.seen early.0 blocks n
    (subst (λ (s : List (List ℕ)). Records format s (v.directory.seen ++ early.0) blocks)
    (sym splits)
    (subst (λ (f : Format). Records f w.sharding.splits (v.directory.seen ++ early.0) blocks) same
    (subst (λ (l : History). Records (format_seen (at_last w.directory)) w.sharding.splits l
    blocks) early.1 h.records))) number

pub snapshot_map : (blocks : Blocks) (w v : Whole) (o : IsOneBlock v) (n : ℕ) → HasMade blocks w
    → v.sharding.splits ≡ w.sharding.splits
    → IsPrefix v.directory.seen (at_last w.directory).seen → IsNumber n v
    → format_seen (at_last w.directory) ≡ o.format
    → HasBytes o.format (map_of v.sharding) v.sharding.splits
    → (map_of v.sharding ≡ map_made (take n blocks))
    ⊎ CollideForKey o.format (map_of v.sharding) v.sharding.splits (map_made (take n blocks))
    v.sharding.splits
snapshot_map blocks w v o n h splits early number same bytes =
    block_map v o (take n blocks) (recorded_of blocks w v o.format n h splits early number same)
    bytes
