use Rattle.mst_read.proofs.Names.{◌-◌, links_at}
use Rattle.mst_read.proofs.Ways.{first_there, first_of_all}
use Rattle.mst_read.proofs.following.first_entry.Goals as goal

pub links-requires : goal.links-requires
links-requires g c = record { there = first_there c.requires.lies.2 c.requires.limits.1 }

pub returns-in-None-clause-first : goal.returns-in-None-clause-first
returns-in-None-clause-first g c f chain lies =
    rw c.in-None.is (first_of_all lies c.requires.limits.1
    (links_at (g.R.Rows.content c.args.rows.now) (c.args.head.now.first - 1) c.links.result
    c.links.ensures.value).1)
