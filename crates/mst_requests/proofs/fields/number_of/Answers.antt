use Rattle.mst_requests.proofs.Names.{common_steps, ◌≡◌, ◌+◌, ◌-◌, ◌*◌, get_or, drop, sym, ◌∙◌, arith, true, rules, is_ascii_digit}
use Rattle.mst_requests.proofs.Numbers.{too_much, one_digit}
use Rattle.mst_requests.proofs.fields.number_of.Goals as goal

pub returns-then-number-from : goal.returns-then-number-from
returns-then-number-from c =
    let digits = c.args.digits.now in let i = c.loop-digit.digit-index in
    let next = c.loop-digit.number * 10 + c.from.result in
    let is : next ≡ c.loop-digit.number * 10 + (get_or digits i 0 - 48) = search rules in
    let is_digit : is_ascii_digit (get_or digits i 0) ≡ true = search rules in
    sym (c.loop-digit.invariant.same ∙ one_digit c.args.most c.loop-digit.number next i digits
    c.loop-digit-test.true is_digit is ∙ too_much c.args.most next (drop (i + 1) digits)
    (omega arith))

pub loop-digit-preserved : goal.loop-digit-preserved
loop-digit-preserved c =
    let digits = c.args.digits.now in let i = c.loop-digit.digit-index in
    let next = c.loop-digit.number * 10 + c.from.result in
    let is : next ≡ c.loop-digit.number * 10 + (get_or digits i 0 - 48) = search rules in
    let is_digit : is_ascii_digit (get_or digits i 0) ≡ true = search rules in record {
      small = omega arith;
      same = c.loop-digit.invariant.same ∙ one_digit c.args.most c.loop-digit.number next i digits
          c.loop-digit-test.true is_digit is;
    }

pub loop-digit-init : goal.loop-digit-init
loop-digit-init c = search rules

pub returns-then-not-is_ascii_digit : goal.returns-then-not-is_ascii_digit
returns-then-not-is_ascii_digit c = grind (arith, common_steps)

pub overflow_mul-number : goal.overflow_mul-number
overflow_mul-number c = search rules

pub overflow_sub-digit : goal.overflow_sub-digit
overflow_sub-digit c = search rules

pub overflow_add-number : goal.overflow_add-number
overflow_add-number c = search rules

pub overflow_cast-result : goal.overflow_cast-result
overflow_cast-result c = search rules

pub returns : goal.returns
returns c = grind (arith, common_steps)
