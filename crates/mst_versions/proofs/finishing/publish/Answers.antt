use Rattle.mst_versions.proofs.Names.{rules}
use Rattle.mst_versions.proofs.finishing.publish.Goals as goal

pub fill-requires-clause-holds : goal.fill-requires-clause-holds
fill-requires-clause-holds g c = c.requires.made.holds

pub fill-requires-clause-open : goal.fill-requires-clause-open
fill-requires-clause-open g c = c.requires.made.room

pub finish-requires : goal.finish-requires
finish-requires g c =
    record {
      ready = (
        c.args.root.now,
        c.args.format,
        c.fill.ensures.made c.args.event.now c.requires.made,
        c.fill.ensures.filled,
      );
    }

pub returns-clause-same : goal.returns-clause-same
returns-clause-same g c = search rules

pub returns-clause-added : goal.returns-clause-added
returns-clause-added g c = search rules

pub returns-clause-version : goal.returns-clause-version
returns-clause-version g c = search rules
