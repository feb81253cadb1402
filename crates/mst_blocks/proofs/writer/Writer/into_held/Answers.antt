use Rattle.mst_blocks.proofs.writer.Writer.into_held.Goals as goal

pub returns-clause-own : goal.returns-clause-own
returns-clause-own g c = c.self.invariant.0

pub returns-clause-root : goal.returns-clause-root
returns-clause-root g c = c.self.invariant.1

pub returns-clause-same : goal.returns-clause-same
returns-clause-same g c = c.self.view_is
