use Rattle.mst_blocks.proofs.Names.{vec_items, subst, arc_value, format_seen, HasShardedRoot, Whole, whole, at_last, block_map}
use Rattle.mst_blocks.proofs.Blocked.{writer_root}
use Rattle.mst_blocks.proofs.writer.Writer.root.Goals as goal

pub returns : goal.returns
returns g c = record {
  root = subst (λ (w : Whole). HasShardedRoot (format_seen (at_last w.directory)) (block_map w)
      w.sharding.splits c.self.inside.root) c.self.view_is
      (writer_root (whole (arc_value c.self.inside.map).splits (vec_items c.self.inside.passes)
      c.self.inside.directory) c.self.inside.root c.self.invariant.0.writer c.self.invariant.1);
}
