use Rattle.mst_read.proofs.Names.{None, ap, filled}
use Rattle.mst_read.proofs.Gathering.{at_none, ok_same}
use Rattle.mst_read.proofs.Parts.{opened}
use Rattle.mst_read.proofs.ranges.gather.Goals as goal

pub returns-in-Some-clause-found : goal.returns-in-Some-clause-found
returns-in-Some-clause-found g c f p s =
    rw c.in-Some.is (c.gather_from.ensures.found f p s)

pub gather_part-requires : goal.gather_part-requires
gather_part-requires g c =
    let s = c.requires.stands in
    let o = opened c.in-Some-top.is s.2 in
    record { stands = (s.0, o.chain, o.stands) }

pub returns-in-Some-top-clause-found : goal.returns-in-Some-top-clause-found
returns-in-Some-top-clause-found g c f p s =
    let o = opened c.in-Some-top.is s in
    rw c.in-None.is
    (ok_same c.gather_part.result _ _ _ (c.gather_part.ensures.found f o.chain o.stands)
    (ap (filled None c.args.to.now c.args.limit c.args.found.now.items) o.same))

pub returns-in-None-top-clause-found : goal.returns-in-None-top-clause-found
returns-in-None-top-clause-found g c f p s =
    rw c.in-None.is (at_none None c.args.to.now c.args.limit c.args.found.now.items p
    c.in-None-top.is s)
