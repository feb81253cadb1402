use Rattle.std.proofs.Common.{rules}
use Rattle.std.proofs.Common.{◌∙◌, sym}
use Rattle.std.proofs.lemmas.Option.{none-some}
use Rattle.mst_arguments.proofs.PlainWords.{load_found}
use Rattle.mst_arguments.proofs.numbers.load_in.Goals as goal

pub returns-in_err-readers-clause-only : goal.returns-in_err-readers-clause-only
returns-in_err-readers-clause-only c =
    λ size is. absurd
    (none-some size.readers
    (sym c.in_err-readers.was ∙ c.number.ensures.only size.readers is.readers))

pub returns-in_err-writers-clause-only : goal.returns-in_err-writers-clause-only
returns-in_err-writers-clause-only c =
    λ size is. absurd
    (none-some size.writers
    (sym c.in_err-writers.was ∙ c.number-2.ensures.only size.writers is.writers))

pub returns-in_err-calls-clause-only : goal.returns-in_err-calls-clause-only
returns-in_err-calls-clause-only c =
    λ size is. absurd
    (none-some size.calls (sym c.in_err-calls.was ∙ c.number-3.ensures.only size.calls is.calls))

pub returns-clause-only : goal.returns-clause-only
returns-clause-only c = λ size is. load_found c.number.result c.number-2.result c.number-3.result
    c.in_ok-readers.readers c.in_ok-writers.writers c.in_ok-calls.calls size c.in_ok-readers.was
    c.in_ok-writers.was c.in_ok-calls.was
    (c.number.ensures.only size.readers is.readers)
    (c.number-2.ensures.only size.writers is.writers)
    (c.number-3.ensures.only size.calls is.calls)

pub returns-in_err-readers-clause-some : goal.returns-in_err-readers-clause-some
returns-in_err-readers-clause-some c = search rules

pub returns-in_err-writers-clause-some : goal.returns-in_err-writers-clause-some
returns-in_err-writers-clause-some c = search rules

pub returns-in_err-calls-clause-some : goal.returns-in_err-calls-clause-some
returns-in_err-calls-clause-some c = search rules

pub returns-clause-some : goal.returns-clause-some
returns-clause-some c = search rules
