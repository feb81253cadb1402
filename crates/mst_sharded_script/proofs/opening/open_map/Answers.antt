use Rattle.mst_sharded_script.proofs.Names.{vec_items, Opens}
use Rattle.mst_sharded_script.proofs.Opened.{count_readers, if_is}
use Rattle.mst_sharded_script.proofs.opening.open_map.Goals as goal

pub returns-in-Some-2-clause-count : goal.returns-in-Some-2-clause-count
returns-in-Some-2-clause-count g c =
    count_readers c.args.splits.now c.args.shape c.in-Some-2.roles.0
    (vec_items c.in-Some-2.roles.1)
    (if_is (λ roles. Opens c.args.splits.now c.args.shape roles.0 (vec_items roles.1))
    c.in_ok-roles.field-0 c.in-Some-2.roles c.in-Some-2.is c.in_ok-roles.ensures.opened)
