use Rattle.std.proofs.Common.{rules}
use Rattle.mst_arguments.proofs.words.ask_text.Goals as goal

pub returns-then-ask_help : goal.returns-then-ask_help
returns-then-ask_help c = search rules

pub returns-else-ask_help : goal.returns-else-ask_help
returns-else-ask_help c = search rules
