use Rattle.mst_load.proofs.Names.{rules, IsNewOf}
use Rattle.mst_load.proofs.Working.{still_worker}
use Rattle.mst_load.proofs.worker.work.Goals as goal

pub invariant_of-result-clause-own : goal.invariant_of-result-clause-own
invariant_of-result-clause-own g c =
    let was : IsNewOf g.C.Course.store c.args.newcomer.pass = search rules in
    still_worker g.C.Course.store g.C.Course.writers g.C.Course.calls c.args.plan
    c.args.newcomer.pass c.make_calls-falls.new.pass c.make_calls-falls.result c.requires.plan.0
    c.requires.plan.1
    c.make_calls-falls.ensures.worked was
