use Rattle.std.proofs.Common.{rules}
use Rattle.std.proofs.Common.{◌∙◌, sym}
use Rattle.std.proofs.lemmas.Option.{none-some}
use Rattle.mst_arguments.proofs.PlainWords.{found}
use Rattle.mst_arguments.proofs.plain.size_in.Goals as goal

pub returns-in_err-rows-clause-only : goal.returns-in_err-rows-clause-only
returns-in_err-rows-clause-only c =
    λ size is. absurd
    (none-some size.rows
    (sym c.in_err-rows.was ∙ c.number.ensures.only size.rows is.rows))

pub returns-in_err-passes-clause-only : goal.returns-in_err-passes-clause-only
returns-in_err-passes-clause-only c =
    λ size is. absurd
    (none-some size.passes
    (sym c.in_err-passes.was ∙ c.number-2.ensures.only size.passes is.passes))

pub returns-clause-only : goal.returns-clause-only
returns-clause-only c = λ size is. found c.number.result c.number-2.result c.in_ok-rows.rows
    c.in_ok-passes.passes size c.in_ok-rows.was c.in_ok-passes.was
    (c.number.ensures.only size.rows is.rows)
    (c.number-2.ensures.only size.passes is.passes)

pub returns-in_err-rows-clause-some : goal.returns-in_err-rows-clause-some
returns-in_err-rows-clause-some c = search rules

pub returns-in_err-passes-clause-some : goal.returns-in_err-passes-clause-some
returns-in_err-passes-clause-some c = search rules

pub returns-clause-some : goal.returns-clause-some
returns-clause-some c = search rules
