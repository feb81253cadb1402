use Rattle.mst_snapshots.proofs.Names.{rules}
use Rattle.mst_snapshots.proofs.Later.{SeesOn-itself, tried_on, not_tried, tried_again, tried_then}
use Rattle.mst_snapshots.proofs.reader.Reader.snapshot.Goals as goal

pub loop-init : goal.loop-init
loop-init g c = (tt, tt, SeesOn-itself c.args.self, not_tried c.args.self)

pub returns-in-Ok-clause-later : goal.returns-in-Ok-clause-later
returns-in-Ok-clause-later g c =
    tried_on c.args.self c.loop.reader c.in-Ok.snapshot c.loop.invariant.2 c.in-Ok.ensures.ok

pub returns-in-Ok-clause-tries : goal.returns-in-Ok-clause-tries
returns-in-Ok-clause-tries g c =
    tried_then c.args.self c.loop.reader c.in-Ok.snapshot c.loop.invariant.3 c.in-Ok.ensures.ok

pub loop-preserved : goal.loop-preserved
loop-preserved g c = (
  search rules,
  search rules,
  tried_on c.args.self c.loop.reader c.in-Err.back c.loop.invariant.2 c.in-Err.ensures.err,
  tried_again c.args.self c.loop.reader c.in-Err.back c.loop.invariant.3 c.in-Err.ensures.err
      c.in-Err.ensures.moving,
)
