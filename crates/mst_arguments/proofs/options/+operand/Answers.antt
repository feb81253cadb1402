use Rattle.std.proofs.Common.{◌∙◌, rules, sym}
use Rattle.mst_arguments.proofs.WordByWord.{no_operand, operand_value, operand_at_end, operand_format, operand_switch, operand_joined, operand_first, operand_later}
use Rattle.mst_arguments.proofs.options.+operand.Goals as goal

pub returns-in_default : goal.returns-in_default
returns-in_default t c =
    no_operand c.args.is_value c.args.words.now c.args.place c.in_default.len_below

pub returns-then-is_value : goal.returns-then-is_value
returns-then-is_value t c =
    operand_value c.args.is_value c.args.words.now c.args.place c.in-len1-up.len_at_least _
    c.if-is_value.true (search rules)

pub returns-then-eq : goal.returns-then-eq
returns-then-eq t c =
    operand_at_end c.args.is_value c.args.words.now c.args.place c.in-len1-up.len_at_least
    c.if-is_value.false _
    (sym c.eq.ensures ∙ c.if-eq.true) (search rules)

pub returns-then-eq-2 : goal.returns-then-eq-2
returns-then-eq-2 t c =
    operand_format c.args.is_value c.args.words.now c.args.place c.in-len1-up.len_at_least
    c.if-is_value.false
    (sym c.eq.ensures ∙ c.if-eq.false) _ (sym c.eq-2.ensures ∙ c.if-eq-2.true) (search rules)

pub returns-then-eq-3 : goal.returns-then-eq-3
returns-then-eq-3 t c =
    operand_switch c.args.is_value c.args.words.now c.args.place c.in-len1-up.len_at_least
    c.if-is_value.false
    (sym c.eq.ensures ∙ c.if-eq.false) (sym c.eq-2.ensures ∙ c.if-eq-2.false) _
    (sym c.eq-3.ensures ∙ c.if-eq-3.true) (search rules)

pub returns-in-Some : goal.returns-in-Some
returns-in-Some t c =
    operand_joined c.args.is_value c.args.words.now c.args.place c.in-len1-up.len_at_least
    c.if-is_value.false
    (sym c.eq.ensures ∙ c.if-eq.false) (sym c.eq-2.ensures ∙ c.if-eq-2.false)
    (sym c.eq-3.ensures ∙ c.if-eq-3.false) _ (search rules) (search rules)

pub returns-in-None : goal.returns-in-None
returns-in-None t c =
    operand_first c.args.is_value c.args.words.now c.args.place c.in-len1-up.len_at_least
    c.if-is_value.false
    (sym c.eq.ensures ∙ c.if-eq.false) (sym c.eq-2.ensures ∙ c.if-eq-2.false)
    (sym c.eq-3.ensures ∙ c.if-eq-3.false) (search rules) (search rules)

pub returns-in-None-2 : goal.returns-in-None-2
returns-in-None-2 t c =
    operand_later c.args.is_value c.args.words.now c.args.place c.in-len1-up.len_at_least
    c.if-is_value.false
    (sym c.eq.ensures ∙ c.if-eq.false) (sym c.eq-2.ensures ∙ c.if-eq-2.false)
    (sym c.eq-3.ensures ∙ c.if-eq-3.false) (search rules) _ (search rules) (search rules)
