use Rattle.mst_node.proofs.Names.{arith, rules, tests, common_steps}
use Rattle.mst_node.specs.Reading.{first_text_at}
use Rattle.mst_node.proofs.framing.first_text.Goals as goal

pub bounds-proof-1 : goal.bounds-proof-1
bounds-proof-1 c = search rules

pub bounds-proof-1-2 : goal.bounds-proof-1-2
bounds-proof-1-2 c = search rules

pub slice_bounds-rest-count : goal.slice_bounds-rest-count
slice_bounds-rest-count c = search rules

pub bounds-proof-2 : goal.bounds-proof-2
bounds-proof-2 c = search rules

pub bounds-proof-3 : goal.bounds-proof-3
bounds-proof-3 c = search rules

pub bounds-proof-4 : goal.bounds-proof-4
bounds-proof-4 c = search rules

pub bounds-proof-5 : goal.bounds-proof-5
bounds-proof-5 c = search rules

pub slice_bounds-rest-start : goal.slice_bounds-rest-start
slice_bounds-rest-start c = search rules

pub slice_bounds-rest-end : goal.slice_bounds-rest-end
slice_bounds-rest-end c = search rules

pub overflow_cast-size : goal.overflow_cast-size
overflow_cast-size c = search rules

pub returns-in-len6-up : goal.returns-in-len6-up
unfolding first_text_at
returns-in-len6-up c = grind (arith, common_steps)

pub returns-in-0 : goal.returns-in-0
unfolding first_text_at
returns-in-0 c = search (tests, rules)

pub returns-in_default : goal.returns-in_default
unfolding first_text_at
returns-in_default c = search (tests, rules)
