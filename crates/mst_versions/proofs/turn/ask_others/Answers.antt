use Rattle.mst_versions.proofs.Names.{rules}
use Rattle.mst_versions.proofs.turn.ask_others.Goals as goal

pub new-live-requires : goal.new-live-requires
new-live-requires g c = search rules

pub push-requires : goal.push-requires
push-requires g c = search rules

pub overflow_add-which-end : goal.overflow_add-which-end
overflow_add-which-end g c = search rules

pub loop-which-init : goal.loop-which-init
loop-which-init g c = search rules

pub ask-requires-clause-asked : goal.ask-requires-clause-asked
ask-requires-clause-asked g c = search rules

pub ask-requires-clause-there : goal.ask-requires-clause-there
ask-requires-clause-there g c = search rules

pub loop-which-preserved : goal.loop-which-preserved
loop-which-preserved g c = search rules

pub returns-clause-same : goal.returns-clause-same
returns-clause-same g c = search rules

pub returns-clause-kept : goal.returns-clause-kept
returns-clause-kept g c = search rules

pub returns-clause-counted : goal.returns-clause-counted
returns-clause-counted g c = search rules
