use Rattle.mst_replay.proofs.Names.{◌≡◌, ℕ, List, [], ◌∷◌, ◌++◌, ◌∙◌, sym, ap, decimal, rest_text}
use Rattle.mst_replay.proofs.Numbers.{strip_none, strip_some, if_none, tail_same, empty_of}
use Rattle.mst_replay.proofs.rows.after_row.Goals as goal

pub returns-in_err-strip_prefix-clause-none : goal.returns-in_err-strip_prefix-clause-none
returns-in_err-strip_prefix-clause-none c = let list : List ℕ = c.in_ok-rest.field-0.now in
    let numeral : List ℕ = c.as_bytes.result.now in
    let is : numeral ≡ decimal c.args.row = c.as_bytes.ensures.value ∙ c.format.ensures.text in
    let whole : rest_text c.args.rest ≡ 44 ∷ list = ap rest_text c.in_ok-rest.was in
    if_none c.from_residual-in_err-strip_prefix.result _
    (λ after rest e. strip_none list numeral c.strip_prefix.result c.strip_prefix.ensures.cases
    c.in_err-strip_prefix.was after
    (tail_same 44 list (decimal c.args.row ++ after) (sym whole ∙ e)
    ∙ ap (λ (z : List ℕ). z ++ after) (sym is)))

pub returns-in-empty-clause-some : goal.returns-in-empty-clause-some
returns-in-empty-clause-some c = let list : List ℕ = c.in_ok-rest.field-0.now in
    let numeral : List ℕ = c.as_bytes.result.now in
    let is : numeral ≡ decimal c.args.row = c.as_bytes.ensures.value ∙ c.format.ensures.text in
    let whole : rest_text c.args.rest ≡ 44 ∷ list = ap rest_text c.in_ok-rest.was in
    let parts = strip_some list numeral c.strip_prefix.result c.strip_prefix.ensures.cases
    c.in_ok-strip_prefix.field-0 c.in_ok-strip_prefix.was in
    let none : c.in_ok-strip_prefix.field-0.now ≡ [] =
    empty_of c.in_ok-strip_prefix.field-0.now c.in-empty.len_below in
    whole ∙ ap (λ (z : List ℕ). 44 ∷ z)
    (parts ∙ ap (λ (z : List ℕ). numeral ++ z) none ∙ ap (λ (z : List ℕ). z ++ []) is)
