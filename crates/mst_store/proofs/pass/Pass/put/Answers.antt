use Rattle.mst_store.proofs.Names.{rules}
use Rattle.mst_key.specs.History.{had}
use Rattle.mst_key.specs.declared.history.Change.TheVariants.{Put}
use Rattle.mst_store.specs.declared.faults.ChangeFault.TheVariants.{VersionsSpent, NoRoom}
use Rattle.mst_store.proofs.Waits.{wrote_then, busy_again, refused_as}
use Rattle.mst_store.proofs.pass.Pass.put.Goals as goal

pub returns-in-Ok-clause-ok : goal.returns-in-Ok-clause-ok
returns-in-Ok-clause-ok g c =
    wrote_then (Put c.args.key.now c.args.value.now) c.args.self.now c.loop.self (had c.in-Ok.old)
    _ c.loop.invariant.2 c.in-Ok.ensures.ok

pub returns-in-Ok-clause-err : goal.returns-in-Ok-clause-err
returns-in-Ok-clause-err g c = search rules

pub loop-preserved : goal.loop-preserved
loop-preserved g c = (
  tt,
  tt,
  busy_again c.in-Err-Busy.field-0 (Put c.args.key.now c.args.value.now) c.args.self.now
      c.loop.self _ c.loop.invariant.2 c.in-Err-Busy.field-0-is
      c.in-Err-Busy.ensures.err,
)

pub returns-in-Err-VersionsSpent-clause-ok : goal.returns-in-Err-VersionsSpent-clause-ok
returns-in-Err-VersionsSpent-clause-ok g c = search rules

pub returns-in-Err-VersionsSpent-clause-err : goal.returns-in-Err-VersionsSpent-clause-err
returns-in-Err-VersionsSpent-clause-err g c =
    refused_as VersionsSpent c.in-Err-VersionsSpent.field-0 (Put c.args.key.now c.args.value.now)
    c.args.self.now c.loop.self _ c.loop.invariant.2
    c.in-Err-VersionsSpent.field-0-is c.in-Err-VersionsSpent.ensures.err

pub returns-in-Err-NoRoom-clause-ok : goal.returns-in-Err-NoRoom-clause-ok
returns-in-Err-NoRoom-clause-ok g c = search rules

pub returns-in-Err-NoRoom-clause-err : goal.returns-in-Err-NoRoom-clause-err
returns-in-Err-NoRoom-clause-err g c =
    refused_as NoRoom c.in-Err-NoRoom.field-0 (Put c.args.key.now c.args.value.now)
    c.args.self.now c.loop.self _ c.loop.invariant.2
    c.in-Err-NoRoom.field-0-is c.in-Err-NoRoom.ensures.err
