use Rattle.std.proofs.Common.{rules}
use Rattle.mst_arguments.proofs.usage.answer_words.Goals as goal

pub returns-in-Some-clause-help : goal.returns-in-Some-clause-help
returns-in-Some-clause-help c = search rules

pub returns-in-Some-clause-refused : goal.returns-in-Some-clause-refused
returns-in-Some-clause-refused c = search rules

pub returns-in-Err-clause-help : goal.returns-in-Err-clause-help
returns-in-Err-clause-help c = search rules

pub returns-in-Err-clause-refused : goal.returns-in-Err-clause-refused
returns-in-Err-clause-refused c = search rules

pub returns-then-use_stderr-clause-help : goal.returns-then-use_stderr-clause-help
returns-then-use_stderr-clause-help c = search rules

pub returns-then-use_stderr-clause-refused : goal.returns-then-use_stderr-clause-refused
returns-then-use_stderr-clause-refused c = search rules

pub returns-clause-help : goal.returns-clause-help
returns-clause-help c = search rules

pub returns-clause-refused : goal.returns-clause-refused
returns-clause-refused c = search rules
