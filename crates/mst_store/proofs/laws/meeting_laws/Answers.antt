use Rattle.mst_store.proofs.Lawful.{met_one, met_either, met_two}
use Rattle.mst_store.proofs.laws.meeting_laws.Goals as goal

pub returns-clause-one : goal.returns-clause-one
returns-clause-one c = met_one

pub returns-clause-either : goal.returns-clause-either
returns-clause-either c = met_either

pub returns-clause-two : goal.returns-clause-two
returns-clause-two c = met_two
