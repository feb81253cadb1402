use Rattle.mst_devices.proofs.Putting.{on_err}
use Rattle.mst_arguments.proofs.usage.task_of.Goals as goal

pub returns-in-None-clause-other : goal.returns-in-None-clause-other
returns-in-None-clause-other c = on_err c.other_task.result c.in-None.ensures.plain
