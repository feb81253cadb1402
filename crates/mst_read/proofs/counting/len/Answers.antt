use Rattle.mst_read.proofs.Descend.{at_link}
use Rattle.mst_read.proofs.counting.len.Goals as goal

pub len_below-requires : goal.len_below-requires
len_below-requires g c =
    record { stands = (c.requires.stands.0, c.requires.stands.1, at_link c.requires.stands.2) }

pub returns-clause-len : goal.returns-clause-len
returns-clause-len g c f m s few = c.len_below.ensures.len f m (at_link s) few
