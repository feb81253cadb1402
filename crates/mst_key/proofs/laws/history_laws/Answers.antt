use Rattle.mst_key.proofs.HistoryLaws.{IsMap-after, after-push, map_get-after_last_put, map_get-after_last_remove, format_after-push, format_after_last, format_after_none, map_get-after_alone, IsPrefix-itself, IsPrefix-chain, IsPrefix-both_ways, IsPrefix-compare, events_of-append, events_of-between}
use Rattle.mst_key.proofs.laws.history_laws.Goals as goal

pub returns-clause-map : goal.returns-clause-map
returns-clause-map c = IsMap-after

pub returns-clause-step : goal.returns-clause-step
returns-clause-step c = after-push

pub returns-clause-last_put : goal.returns-clause-last_put
returns-clause-last_put c = map_get-after_last_put

pub returns-clause-last_remove : goal.returns-clause-last_remove
returns-clause-last_remove c = map_get-after_last_remove

pub returns-clause-format_step : goal.returns-clause-format_step
returns-clause-format_step c = format_after-push

pub returns-clause-last_migration : goal.returns-clause-last_migration
returns-clause-last_migration c = format_after_last

pub returns-clause-no_migration : goal.returns-clause-no_migration
returns-clause-no_migration c = format_after_none

pub returns-clause-no_change : goal.returns-clause-no_change
returns-clause-no_change c = map_get-after_alone

pub returns-clause-begins_itself : goal.returns-clause-begins_itself
returns-clause-begins_itself c = IsPrefix-itself

pub returns-clause-begins_chain : goal.returns-clause-begins_chain
returns-clause-begins_chain c = IsPrefix-chain

pub returns-clause-begins_both_ways : goal.returns-clause-begins_both_ways
returns-clause-begins_both_ways c = IsPrefix-both_ways

pub returns-clause-begins_one : goal.returns-clause-begins_one
returns-clause-begins_one c = IsPrefix-compare

pub returns-clause-events_append : goal.returns-clause-events_append
returns-clause-events_append c = events_of-append

pub returns-clause-events_between : goal.returns-clause-events_between
returns-clause-events_between c = events_of-between
