use Rattle.mst_store.proofs.Names.{rules}
use Rattle.mst_store.proofs.store.Store.deal.Goals as goal

pub overflow_cast-count : goal.overflow_cast-count
overflow_cast-count g c = search rules

pub returns-in-Err-clause-ok : goal.returns-in-Err-clause-ok
returns-in-Err-clause-ok g c = search rules

pub returns-in-Err-clause-count : goal.returns-in-Err-clause-count
returns-in-Err-clause-count g c = search rules

pub returns-in-Err-clause-err : goal.returns-in-Err-clause-err
returns-in-Err-clause-err g c = search rules

pub loop-index-init : goal.loop-index-init
loop-index-init g c = search rules

pub deal-seat-requires-clause-own : goal.deal-seat-requires-clause-own
deal-seat-requires-clause-own g c = search rules

pub deal-seat-requires-clause-wide : goal.deal-seat-requires-clause-wide
deal-seat-requires-clause-wide g c = search rules

pub deal-seat-requires-clause-dealer : goal.deal-seat-requires-clause-dealer
deal-seat-requires-clause-dealer g c = search rules

pub overflow_add-index : goal.overflow_add-index
overflow_add-index g c = search rules

pub invariant_of-push_reserved : goal.invariant_of-push_reserved
invariant_of-push_reserved g c = search rules

pub push_reserved-requires : goal.push_reserved-requires
push_reserved-requires g c = search rules

pub loop-index-preserved : goal.loop-index-preserved
loop-index-preserved g c = search rules

pub returns-clause-ok : goal.returns-clause-ok
returns-clause-ok g c = search rules

pub returns-clause-count : goal.returns-clause-count
returns-clause-count g c = search rules

pub returns-clause-err : goal.returns-clause-err
returns-clause-err g c = search rules
