use Rattle.mst_key.proofs.Names.{refl, Batch}
use Rattle.mst_key.proofs.BatchOrder.{batched-any_order}
use Rattle.mst_key.proofs.Batches.{map_get-batched, batched_alike}
use Rattle.mst_key.proofs.HistoryLaws.{after-singles, format_after-push, batched-append, IsMap-batched, batched-last_put, batched-last_remove, map_get-batched_other}
use Rattle.mst_key.proofs.laws.batch_laws.Goals as goal

pub returns-clause-one_by_one : goal.returns-clause-one_by_one
returns-clause-one_by_one c = after-singles

pub returns-clause-format : goal.returns-clause-format
returns-clause-format c first h pass es =
    format_after-push first h (record { pass = pass; change = Batch es })

pub returns-clause-joined : goal.returns-clause-joined
returns-clause-joined c = batched-append

pub returns-clause-map : goal.returns-clause-map
returns-clause-map c = IsMap-batched

pub returns-clause-last_put : goal.returns-clause-last_put
returns-clause-last_put c = batched-last_put

pub returns-clause-last_remove : goal.returns-clause-last_remove
returns-clause-last_remove c = batched-last_remove

pub returns-clause-other : goal.returns-clause-other
returns-clause-other c = map_get-batched_other

pub returns-clause-looked : goal.returns-clause-looked
returns-clause-looked c = map_get-batched

pub returns-clause-alike : goal.returns-clause-alike
returns-clause-alike c m es fs map = batched_alike m es fs map.ascending

pub returns-clause-empty : goal.returns-clause-empty
returns-clause-empty c m = refl

pub returns-clause-any_order : goal.returns-clause-any_order
returns-clause-any_order c m es fs map = batched-any_order m es fs map.ascending

pub returns-clause-worked : goal.returns-clause-worked
returns-clause-worked c = refl
