use Rattle.mst_theorem.proofs.Chains.{heard_after}
use Rattle.mst_theorem.proofs.Whole.{one_order, settled_order, moment_holds, order_is_run, pair_kept}
use Rattle.mst_theorem.proofs.laws.headline.Goals as goal

pub returns-clause-one_order : goal.returns-clause-one_order
returns-clause-one_order c = one_order

pub returns-clause-settled : goal.returns-clause-settled
returns-clause-settled c = settled_order

pub returns-clause-moment : goal.returns-clause-moment
returns-clause-moment c = moment_holds

pub returns-clause-told : goal.returns-clause-told
returns-clause-told c a b honest heard =
    heard_after b.operation b.old b.new honest a heard

pub returns-clause-linear : goal.returns-clause-linear
returns-clause-linear c = order_is_run

pub returns-clause-pair : goal.returns-clause-pair
returns-clause-pair c store run order log picked a b o is honest heard =
    pair_kept store run order log picked a b o is
    (heard_after b.operation b.old b.new honest a heard)
