use Rattle.std.proofs.Common.{rules}
use Rattle.mst.proofs.progress.Watch.of.Goals as goal

pub returns-then-ask_load-clause-silent : goal.returns-then-ask_load-clause-silent
returns-then-ask_load-clause-silent g c = search rules

pub returns-then-ask_load-clause-shown : goal.returns-then-ask_load-clause-shown
returns-then-ask_load-clause-shown g c = search rules

pub returns-else-is_terminal-clause-silent : goal.returns-else-is_terminal-clause-silent
returns-else-is_terminal-clause-silent g c = search rules

pub returns-else-is_terminal-clause-shown : goal.returns-else-is_terminal-clause-shown
returns-else-is_terminal-clause-shown g c = search rules
