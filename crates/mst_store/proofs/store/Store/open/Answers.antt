use Rattle.mst_store.proofs.Names.{rules}
use Rattle.mst_store.proofs.store.Store.open.Goals as goal

pub returns-then-not-is_shape-clause-shape : goal.returns-then-not-is_shape-clause-shape
returns-then-not-is_shape-clause-shape g c = search rules

pub returns-then-not-is_shape-clause-limits : goal.returns-then-not-is_shape-clause-limits
returns-then-not-is_shape-clause-limits g c = search rules

pub returns-then-not-is_shape-clause-store : goal.returns-then-not-is_shape-clause-store
returns-then-not-is_shape-clause-store g c = search rules

pub returns-then-not-is_shape-clause-seats : goal.returns-then-not-is_shape-clause-seats
returns-then-not-is_shape-clause-seats g c = search rules

pub overflow_add-shape : goal.overflow_add-shape
overflow_add-shape g c = search rules

pub new-requires-clause-some_rows : goal.new-requires-clause-some_rows
new-requires-clause-some_rows g c = search rules

pub new-requires-clause-few_rows : goal.new-requires-clause-few_rows
new-requires-clause-few_rows g c = search rules

pub new-requires-clause-some_records : goal.new-requires-clause-some_records
new-requires-clause-some_records g c = search rules

pub new-requires-clause-few_records : goal.new-requires-clause-few_records
new-requires-clause-few_records g c = search rules

pub new-requires-clause-first : goal.new-requires-clause-first
new-requires-clause-first g c = search rules

pub returns-in-Err-clause-shape : goal.returns-in-Err-clause-shape
returns-in-Err-clause-shape g c = search rules

pub returns-in-Err-clause-limits : goal.returns-in-Err-clause-limits
returns-in-Err-clause-limits g c = search rules

pub returns-in-Err-clause-store : goal.returns-in-Err-clause-store
returns-in-Err-clause-store g c = search rules

pub returns-in-Err-clause-seats : goal.returns-in-Err-clause-seats
returns-in-Err-clause-seats g c = search rules

pub open-requires-clause-some_rows : goal.open-requires-clause-some_rows
open-requires-clause-some_rows g c = search rules

pub open-requires-clause-few_rows : goal.open-requires-clause-few_rows
open-requires-clause-few_rows g c = search rules

pub open-requires-clause-some_passes : goal.open-requires-clause-some_passes
open-requires-clause-some_passes g c = search rules

pub open-requires-clause-few_passes : goal.open-requires-clause-few_passes
open-requires-clause-few_passes g c = search rules

pub open-requires-clause-fresh : goal.open-requires-clause-fresh
open-requires-clause-fresh g c = search rules

pub invariant_of-result : goal.invariant_of-result
invariant_of-result g c = search rules

pub invariant_of-result-in-Ok-open : goal.invariant_of-result-in-Ok-open
invariant_of-result-in-Ok-open g c = search rules

pub returns-in-Ok-open-clause-shape : goal.returns-in-Ok-open-clause-shape
returns-in-Ok-open-clause-shape g c = search rules

pub returns-in-Ok-open-clause-limits : goal.returns-in-Ok-open-clause-limits
returns-in-Ok-open-clause-limits g c = search rules

pub returns-in-Ok-open-clause-store : goal.returns-in-Ok-open-clause-store
returns-in-Ok-open-clause-store g c = search rules

pub returns-in-Ok-open-clause-seats : goal.returns-in-Ok-open-clause-seats
returns-in-Ok-open-clause-seats g c = search rules

pub returns-in-Err-open-clause-shape : goal.returns-in-Err-open-clause-shape
returns-in-Err-open-clause-shape g c = search rules

pub returns-in-Err-open-clause-limits : goal.returns-in-Err-open-clause-limits
returns-in-Err-open-clause-limits g c = search rules

pub returns-in-Err-open-clause-store : goal.returns-in-Err-open-clause-store
returns-in-Err-open-clause-store g c = search rules

pub returns-in-Err-open-clause-seats : goal.returns-in-Err-open-clause-seats
returns-in-Err-open-clause-seats g c = search rules
