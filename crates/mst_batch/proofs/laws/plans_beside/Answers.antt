use Rattle.mst_batch.proofs.Besides.{plan_is}
use Rattle.mst_batch.proofs.BatchPlans.{its_rows, is_plan}
use Rattle.mst_batch.proofs.Homes.{key_of_entry, match_kept, other_made}
use Rattle.mst_batch.proofs.laws.plans_beside.Goals as goal
use Rattle.mst_batch.proofs.Names.{rises}

pub returns-clause-tree : goal.returns-clause-tree
returns-clause-tree c format content root m stands t mst =
    plan_is format content stands.tree.placed stands.tree.rows t mst

pub returns-clause-rows : goal.returns-clause-rows
returns-clause-rows c format content root m stands es = its_rows format content root es m stands

pub returns-clause-plan : goal.returns-clause-plan
returns-clause-plan c format content s root marks es m stands old small only =
    is_plan format content root es m stands s marks old small only

pub returns-clause-stays : goal.returns-clause-stays
returns-clause-stays c format content root m stands l es q has mst match =
    match_kept format content stands.tree.placed stands.tree.rows
    (rises format content root m stands) l es q (key_of_entry es q has) mst match

pub returns-clause-made : goal.returns-clause-made
returns-clause-made c format content root m stands l es q has mst other =
    other_made format content stands.tree.placed stands.tree.rows
    (rises format content root m stands) l es q (key_of_entry es q has) mst other
