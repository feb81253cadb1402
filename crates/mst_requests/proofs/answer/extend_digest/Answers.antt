use Rattle.mst_requests.proofs.Names.{rules}
use Rattle.mst_requests.proofs.answer.extend_digest.Goals as goal

pub as_slice-requires : goal.as_slice-requires
as_slice-requires c = search rules

pub extend_digits-requires-clause-few : goal.extend_digits-requires-clause-few
extend_digits-requires-clause-few c = search rules

pub extend_digits-requires-clause-room : goal.extend_digits-requires-clause-room
extend_digits-requires-clause-room c = search rules

pub returns-clause-digits : goal.returns-clause-digits
returns-clause-digits c = search rules

pub returns-clause-small : goal.returns-clause-small
returns-clause-small c = search rules
