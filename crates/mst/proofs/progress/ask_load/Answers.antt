use Rattle.std.proofs.Common.{rules}
use Rattle.mst.proofs.progress.ask_load.Goals as goal

pub bounds-words-1 : goal.bounds-words-1
bounds-words-1 c = search rules

pub returns-in_default : goal.returns-in_default
returns-in_default c = search rules

pub returns-in-len2-up : goal.returns-in-len2-up
returns-in-len2-up c = search rules
