use Rattle.mst_blocks.proofs.writer.Writer.from_held.Goals as goal

pub invariant_of-result : goal.invariant_of-result
invariant_of-result g c = (c.requires.own, c.requires.root)
