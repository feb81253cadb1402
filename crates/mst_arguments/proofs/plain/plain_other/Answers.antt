use Rattle.std.proofs.Common.{rules}
use Rattle.std.proofs.Common.{◌∙◌, sym}
use Rattle.std.proofs.lemmas.Option.{none-some}
use Rattle.mst_arguments.proofs.PlainWords.{load_asked, plain_none}
use Rattle.mst_arguments.proofs.plain.plain_other.Goals as goal

pub returns-in-Some-clause-asked : goal.returns-in-Some-clause-asked
returns-in-Some-clause-asked c = load_asked c.args.words.now c.in-Some.size
    c.in-Some.ensures.some

pub returns-in-None-clause-plain : goal.returns-in-None-clause-plain
returns-in-None-clause-plain c = plain_none c.args.words.now c.plain_reader.result
    (λ size of. none-some size (sym c.in-None.is ∙ c.plain_load.ensures.only size of))
    c.plain_reader.ensures.plain

pub returns-in-Some-clause-plain : goal.returns-in-Some-clause-plain
returns-in-Some-clause-plain c = search rules

pub returns-in-None-clause-asked : goal.returns-in-None-clause-asked
returns-in-None-clause-asked c = search rules
