use Rattle.std.proofs.Common.{◌∙◌, rules, sym}
use Rattle.mst_arguments.proofs.WordByWord.{no_value, value_at_end, value_behind, value_joined, value_later}
use Rattle.mst_arguments.proofs.options.+value_of.Goals as goal

pub returns-in_default : goal.returns-in_default
returns-in_default t c = no_value c.args.option.now c.args.words.now c.in_default.len_below

pub returns-then-eq : goal.returns-then-eq
returns-then-eq t c = value_at_end c.args.option.now c.args.words.now c.in-len1-up.len_at_least
    (sym c.eq.ensures ∙ c.if-eq.true)

pub returns-then-eq-2 : goal.returns-then-eq-2
returns-then-eq-2 t c = value_behind c.args.option.now c.args.words.now c.in-len1-up.len_at_least
    (sym c.eq.ensures ∙ c.if-eq.false) _ (sym c.eq-2.ensures ∙ c.if-eq-2.true) (search rules)

pub returns-in-Some : goal.returns-in-Some
returns-in-Some t c = value_joined c.args.option.now c.args.words.now c.in-len1-up.len_at_least
    (sym c.eq.ensures ∙ c.if-eq.false) (sym c.eq-2.ensures ∙ c.if-eq-2.false) _ (search rules)

pub returns-in-None : goal.returns-in-None
returns-in-None t c = value_later c.args.option.now c.args.words.now c.in-len1-up.len_at_least
    (sym c.eq.ensures ∙ c.if-eq.false) (sym c.eq-2.ensures ∙ c.if-eq-2.false) _ (search rules)
    (search rules)
