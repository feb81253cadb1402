use Rattle.mst_replay.proofs.Names.{◌≡◌, Some, None, ◌∙◌, sym, true, false}
use Rattle.mst_replay.proofs.Numbers.{parsed, text_of_decimal, err_of, ok_of, ap_decimal}
use Rattle.mst_replay.proofs.number.number.Goals as goal

pub returns-in_err-text-clause-only : goal.returns-in_err-text-clause-only
returns-in_err-text-clause-only c = λ n l e. let h =
    err_of c.from_utf8.result _ _ c.from_utf8.ensures.cases
    (sym c.ok.ensures.value ∙ c.in_err-text.was) in
    absurd (h.1.0 (text_of_decimal n c.args.digits.now e l))

pub returns-in_err-n-clause-only : goal.returns-in_err-n-clause-only
returns-in_err-n-clause-only c = λ n l e. let t = ok_of c.from_utf8.result _ _ c.in_ok-text.text
    c.from_utf8.ensures.cases (sym c.ok.ensures.value ∙ c.in_ok-text.was) in
    let h = parsed n c.in_ok-text.text.now c.args.digits.now c.parse.result c.parse.ensures.value.0
    t.0 e l in
    absurd (let f : None ≡ Some n = sym c.in_err-n.was ∙ c.ok-2.ensures.value ∙ h in cc)

pub returns-then-is_numeral-clause-only : goal.returns-then-is_numeral-clause-only
returns-then-is_numeral-clause-only c = λ n l e. let t =
    ok_of c.from_utf8.result _ _ c.in_ok-text.text c.from_utf8.ensures.cases
    (sym c.ok.ensures.value ∙ c.in_ok-text.was) in
    c.in_ok-n.ensures.value ∙ parsed n c.in_ok-text.text.now c.args.digits.now c.parse.result
    c.parse.ensures.value.0 t.0 e l

pub returns-else-is_numeral-clause-only : goal.returns-else-is_numeral-clause-only
returns-else-is_numeral-clause-only c = λ n l e. let t =
    ok_of c.from_utf8.result _ _ c.in_ok-text.text c.from_utf8.ensures.cases
    (sym c.ok.ensures.value ∙ c.in_ok-text.was) in
    let h : Some c.in_ok-n.n ≡ Some n = c.in_ok-n.ensures.value ∙ parsed n c.in_ok-text.text.now
    c.args.digits.now c.parse.result c.parse.ensures.value.0 t.0 e l in
    let same : c.in_ok-n.n ≡ n = cc in
    let yes = c.is_numeral.ensures.1 (e ∙ ap_decimal n c.in_ok-n.n (sym same)) in
    absurd (let f : true ≡ false = sym yes ∙ c.if-is_numeral.false in cc)
