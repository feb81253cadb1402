use Rattle.mst_theorem.proofs.InBlocks.{root_in_blocks, map_in_blocks, in_order, one_number}
use Rattle.mst_theorem.proofs.blocks.sharded_headline.Goals as goal

pub returns : goal.returns
returns c = record {
  root = root_in_blocks;
  map = map_in_blocks;
  order = in_order;
  same = one_number;
}
