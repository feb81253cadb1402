use Rattle.mst_node.proofs.Names.{arith, rules, tests, common_steps}
use Rattle.mst_node.specs.Reading.{node_at}
use Rattle.mst_node.proofs.flat.flat_of.Goals as goal

pub bounds-text-0 : goal.bounds-text-0
bounds-text-0 c = search rules

pub slice_bounds-body-count : goal.slice_bounds-body-count
slice_bounds-body-count c = search rules

pub bounds-text-1 : goal.bounds-text-1
bounds-text-1 c = search rules

pub bounds-text-2 : goal.bounds-text-2
bounds-text-2 c = search rules

pub bounds-text-3 : goal.bounds-text-3
bounds-text-3 c = search rules

pub slice_bounds-body-start : goal.slice_bounds-body-start
slice_bounds-body-start c = search rules

pub slice_bounds-body-end : goal.slice_bounds-body-end
slice_bounds-body-end c = search rules

pub overflow_cast-count : goal.overflow_cast-count
overflow_cast-count c = search rules

pub invariant_of-result : goal.invariant_of-result
invariant_of-result c = search rules

pub returns-then-has_body : goal.returns-then-has_body
unfolding node_at
returns-then-has_body c = grind (arith, common_steps)

pub returns-else-first_byte-format_byte : goal.returns-else-first_byte-format_byte
unfolding node_at
returns-else-first_byte-format_byte c = grind (arith, common_steps)

pub returns-in_default : goal.returns-in_default
unfolding node_at
returns-in_default c = search (tests, rules)
