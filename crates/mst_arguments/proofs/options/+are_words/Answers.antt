use Rattle.std.proofs.Common.{◌∙◌, rules, sym}
use Rattle.mst_arguments.proofs.WordByWord.{no_value_due, value_due, value_and_more, value_a_flag, end_and_operands, switch_and_more, switch_again, option_and_more, option_again, operand_and_more, operand_too_many}
use Rattle.mst_arguments.proofs.options.+are_words.Goals as goal

pub returns-then-not-is_value : goal.returns-then-not-is_value
returns-then-not-is_value t c =
    no_value_due c.args.command c.args.is_value c.args.count c.args.words.now c.in_default.len_below
    c.if-not-is_value.true

pub returns-else-not-is_value : goal.returns-else-not-is_value
returns-else-not-is_value t c =
    value_due c.args.command c.args.is_value c.args.count c.args.words.now c.in_default.len_below
    c.if-not-is_value.false

pub returns-then-eq : goal.returns-then-eq
returns-then-eq t c =
    end_and_operands c.args.command c.args.is_value c.args.count c.args.words.now
    c.in-len1-up.len_at_least c.if-is_value.false (sym c.eq.ensures ∙ c.if-eq.true)

pub returns-then-not-is_flag : goal.returns-then-not-is_flag
returns-then-not-is_flag t c =
    value_and_more c.args.command c.args.is_value c.args.count c.args.words.now
    c.in-len1-up.len_at_least _ _ c.if-is_value.true c.is_flag.ensures c.if-not-is_flag.true
    (search rules)

pub returns-else-not-is_flag : goal.returns-else-not-is_flag
returns-else-not-is_flag t c =
    value_a_flag c.args.command c.args.is_value c.args.count c.args.words.now
    c.in-len1-up.len_at_least _ c.if-is_value.true c.is_flag.ensures c.if-not-is_flag.false

pub returns-then-is_new_switch : goal.returns-then-is_new_switch
returns-then-is_new_switch t c =
    switch_and_more c.args.command c.args.is_value c.args.count c.args.words.now
    c.in-len1-up.len_at_least c.if-is_value.false (sym c.eq.ensures ∙ c.if-eq.false) _ _
    (sym c.is_switch.ensures ∙ c.if-is_switch.true) c.is_new_switch.ensures
    c.if-is_new_switch.true (search rules)

pub returns-else-is_new_switch : goal.returns-else-is_new_switch
returns-else-is_new_switch t c =
    switch_again c.args.command c.args.is_value c.args.count c.args.words.now
    c.in-len1-up.len_at_least c.if-is_value.false (sym c.eq.ensures ∙ c.if-eq.false) _
    (sym c.is_switch.ensures ∙ c.if-is_switch.true) c.is_new_switch.ensures
    c.if-is_new_switch.false

pub returns-then-is_new_option : goal.returns-then-is_new_option
returns-then-is_new_option t c =
    option_and_more c.args.command c.args.is_value c.args.count c.args.words.now
    c.in-len1-up.len_at_least c.if-is_value.false (sym c.eq.ensures ∙ c.if-eq.false)
    (sym c.is_switch.ensures ∙ c.if-is_switch.false) _ _
    (sym c.is_flag-2.ensures ∙ c.if-is_flag.true) (search rules) c.if-is_new_option.true
    (search rules)

pub returns-else-is_new_option : goal.returns-else-is_new_option
returns-else-is_new_option t c =
    option_again c.args.command c.args.is_value c.args.count c.args.words.now
    c.in-len1-up.len_at_least c.if-is_value.false (sym c.eq.ensures ∙ c.if-eq.false)
    (sym c.is_switch.ensures ∙ c.if-is_switch.false) _
    (sym c.is_flag-2.ensures ∙ c.if-is_flag.true) (search rules) c.if-is_new_option.false

pub returns-then-count-gt0 : goal.returns-then-count-gt0
returns-then-count-gt0 t c =
    operand_and_more c.args.command c.args.is_value c.args.count c.args.words.now
    c.in-len1-up.len_at_least c.if-is_value.false (sym c.eq.ensures ∙ c.if-eq.false)
    (sym c.is_switch.ensures ∙ c.if-is_switch.false)
    (sym c.is_flag-2.ensures ∙ c.if-is_flag.false) _ (search rules) (search rules)

pub returns-else-count-gt0 : goal.returns-else-count-gt0
returns-else-count-gt0 t c =
    operand_too_many c.args.command c.args.is_value c.args.count c.args.words.now
    c.in-len1-up.len_at_least c.if-is_value.false (sym c.eq.ensures ∙ c.if-eq.false)
    (sym c.is_switch.ensures ∙ c.if-is_switch.false)
    (sym c.is_flag-2.ensures ∙ c.if-is_flag.false) (search rules)
