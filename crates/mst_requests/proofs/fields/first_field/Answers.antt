use Rattle.mst_requests.proofs.Blanks.{fields_cut, fields_one}
use Rattle.mst_requests.proofs.fields.first_field.Goals as goal

pub returns-in-Some-clause-fields : goal.returns-in-Some-clause-fields
returns-in-Some-clause-fields c = fields_cut c.in-Some.first.now c.in-Some.rest.now c.args.line.now
    c.in-Some.ensures.0 c.in-Some.ensures.1

pub returns-in-None-clause-fields : goal.returns-in-None-clause-fields
returns-in-None-clause-fields c = fields_one c.args.line.now c.in-None.ensures
