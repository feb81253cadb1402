use Rattle.mst_replay.proofs.FaultLines.{no_command, before_the_core, fault_at_core}
use Rattle.mst_replay.proofs.laws.fault_lines.Goals as goal

pub returns-clause-other : goal.returns-clause-other
returns-clause-other c = no_command

pub returns-clause-early : goal.returns-clause-early
returns-clause-early c = before_the_core

pub returns-clause-only : goal.returns-clause-only
returns-clause-only c = fault_at_core
