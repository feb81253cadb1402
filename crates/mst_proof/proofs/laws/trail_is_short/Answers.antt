use Rattle.mst_proof.proofs.Names.{One, Two}
use Rattle.mst_proof.proofs.Heights.{trail_few}
use Rattle.mst_proof.proofs.laws.trail_is_short.Goals as goal

pub returns-clause-few : goal.returns-clause-few
returns-clause-few c = trail_few One

pub returns-clause-few_in_format_2 : goal.returns-clause-few_in_format_2
returns-clause-few_in_format_2 c = trail_few Two
