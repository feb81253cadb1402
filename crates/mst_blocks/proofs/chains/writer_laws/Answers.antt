use Rattle.mst_blocks.proofs.Blocked.{made_more_blocks, made_same_blocks}
use Rattle.mst_blocks.proofs.chains.writer_laws.Goals as goal

pub returns-clause-more : goal.returns-clause-more
returns-clause-more c edits blocks w v iw iv a h = made_more_blocks edits blocks w v iw iv a h

pub returns-clause-same : goal.returns-clause-same
returns-clause-same c fault edits blocks w v iw r h =
    made_same_blocks fault edits blocks w v iw r h
