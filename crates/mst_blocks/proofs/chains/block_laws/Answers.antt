use Rattle.mst_blocks.proofs.Chained.{block_root, block_map, records_more, records_fewer}
use Rattle.mst_blocks.proofs.chains.block_laws.Goals as goal

pub returns-clause-root : goal.returns-clause-root
returns-clause-root c w o = block_root w o

pub returns-clause-map : goal.returns-clause-map
returns-clause-map c w o blocks r bytes = block_map w o blocks r bytes

pub returns-clause-more : goal.returns-clause-more
returns-clause-more c format splits log blocks e edits r now sharded =
    records_more format splits log blocks e edits r now sharded

pub returns-clause-fewer : goal.returns-clause-fewer
returns-clause-fewer c format splits log rest blocks n r count =
    records_fewer format splits log rest blocks n r count
