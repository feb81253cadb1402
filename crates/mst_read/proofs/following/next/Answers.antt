use Rattle.mst_read.proofs.Descend.{at_link}
use Rattle.mst_read.proofs.following.next.Goals as goal

pub next_below-requires : goal.next_below-requires
next_below-requires g c =
    record { stands = (c.requires.stands.0, c.requires.stands.1, at_link c.requires.stands.2) }

pub returns-clause-found : goal.returns-clause-found
returns-clause-found g c f m s = c.next_below.ensures.found f m (at_link s)
