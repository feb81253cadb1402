use Rattle.mst_requests.proofs.Names.{refl, arith, ap, length, fields_behind}
use Rattle.mst_requests.proofs.Blanks.{some_field}
use Rattle.mst_requests.proofs.fields.no_field.Goals as goal

pub returns-in-Some : goal.returns-in-Some
returns-in-Some c = (
  refl,
  λ none. omega (
    arith,
    none,
    ap (λ r. length (fields_behind r)) c.in-Some.is,
    some_field c.in-Some.field-0.now,
  ),
)
