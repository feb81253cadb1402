use Rattle.std.proofs.Common.{rules}
use Rattle.mst_arguments.proofs.PlainWords.{other_plain}
use Rattle.std.proofs.Common.{◌∙◌, sym}
use Rattle.std.proofs.lemmas.Option.{none-some}
use Rattle.mst_arguments.proofs.plain.plain_task.Goals as goal

pub script_task-requires : goal.script_task-requires
script_task-requires c = search rules

pub returns-in-None-clause-plain : goal.returns-in-None-clause-plain
returns-in-None-clause-plain c = other_plain c.args.words.now c.plain_other.result
    (λ size of. none-some size (sym c.in-None.is ∙ c.plain_run.ensures.only size of))
    c.plain_other.ensures.plain

pub returns-in-Some-clause-asked : goal.returns-in-Some-clause-asked
returns-in-Some-clause-asked c = search rules

pub returns-in-Some-clause-plain : goal.returns-in-Some-clause-plain
returns-in-Some-clause-plain c = search rules

pub returns-in-None-clause-asked : goal.returns-in-None-clause-asked
returns-in-None-clause-asked c = search rules
