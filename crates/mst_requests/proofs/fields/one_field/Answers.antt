use Rattle.mst_requests.proofs.Names.{refl, arith, ap, length, fields_behind}
use Rattle.mst_requests.proofs.Blanks.{some_field}
use Rattle.mst_requests.proofs.fields.one_field.Goals as goal

pub returns-in-Some-rest-clause-fields : goal.returns-in-Some-rest-clause-fields
returns-in-Some-rest-clause-fields c = (
  refl,
  λ one. omega (
    arith,
    one,
    ap (λ r. length (fields_behind r)) c.in-Some.is,
    ap length c.first_field.ensures.fields,
    ap (λ r. length (fields_behind r)) c.in-Some-rest.is,
    some_field c.in-Some-rest.field-0.now,
  ),
)
