use Rattle.std.proofs.Common.{pos, ◌∙◌, sym}
use Rattle.std.proofs.lemmas.Option.{none-some}
use Rattle.mst_arguments.proofs.PlainWords.{only_spelt, parsed, spelt, wide}
use Rattle.mst_arguments.proofs.plain.number.Goals as goal

pub returns-in_err-n-clause-only : goal.returns-in_err-n-clause-only
returns-in_err-n-clause-only c = λ n is. absurd
    (none-some (pos n) (sym c.in_err-n.was ∙ c.ok.ensures.value ∙ parsed c.args.word.now
    c.parse.result n c.parse.ensures.value.0 is))

pub returns-clause-some : goal.returns-clause-some
returns-clause-some c = spelt c.args.word.now c.in_ok-n.n _ c.parse.result c.try_from.result
    c.ok-2.result c.parse.ensures.value.0 (sym c.ok.ensures.value ∙ c.in_ok-n.was)
    (wide c.in_ok-n.n) c.try_from.ensures c.ok-2.ensures.value

pub returns-clause-only : goal.returns-clause-only
returns-clause-only c = only_spelt c.args.word.now c.in_ok-n.n _ c.parse.result c.try_from.result
    c.ok-2.result c.parse.ensures.value.0 (sym c.ok.ensures.value ∙ c.in_ok-n.was)
    (wide c.in_ok-n.n) c.try_from.ensures c.ok-2.ensures.value
