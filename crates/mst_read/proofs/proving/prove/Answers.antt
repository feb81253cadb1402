use Rattle.mst_read.proofs.Descend.{at_link}
use Rattle.mst_read.proofs.proving.prove.Goals as goal

pub prove_below-requires : goal.prove_below-requires
prove_below-requires g c = record { stands = (c.requires.stands.0, at_link c.requires.stands.1) }

pub returns-clause-proof : goal.returns-clause-proof
returns-clause-proof g c m s = c.prove_below.ensures.proof m (at_link s)
