use Rattle.mst_replay.proofs.Names.{◌∙◌, sym}
use Rattle.mst_replay.proofs.Numbers.{cancel, strip_none, strip_some, if_some_prefixed}
use Rattle.mst_replay.proofs.number.number_after.Goals as goal

pub returns-in_err-strip_prefix-clause-only : goal.returns-in_err-strip_prefix-clause-only
returns-in_err-strip_prefix-clause-only c =
    λ n l e. absurd
    (strip_none c.args.line.now c.args.word.now c.strip_prefix.result c.strip_prefix.ensures.cases
    c.in_err-strip_prefix.was _ e)

pub returns-clause-some : goal.returns-clause-some
returns-clause-some c = if_some_prefixed c.args.line.now c.args.word.now
    c.in_ok-strip_prefix.field-0.now c.number.result
    (strip_some c.args.line.now c.args.word.now c.strip_prefix.result c.strip_prefix.ensures.cases
    c.in_ok-strip_prefix.field-0 c.in_ok-strip_prefix.was) c.number.ensures.some

pub returns-clause-only : goal.returns-clause-only
returns-clause-only c = λ n l e. c.number.ensures.only n l (cancel c.args.word.now _ _
    (sym (strip_some c.args.line.now c.args.word.now c.strip_prefix.result
    c.strip_prefix.ensures.cases c.in_ok-strip_prefix.field-0 c.in_ok-strip_prefix.was) ∙ e))
