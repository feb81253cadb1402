use Rattle.mst_batch.proofs.Names.{refl}
use Rattle.mst_batch.proofs.SmallPlans.{marks_of, keeps_all, plants_one}
use Rattle.mst_batch.proofs.laws.plans_can_be_met.Goals as goal

pub returns-clause-marks : goal.returns-clause-marks
returns-clause-marks c link = marks_of link

pub returns-clause-kept : goal.returns-clause-kept
returns-clause-kept c format content s root marks one only =
    keeps_all format content s root marks one.0 one.1 one.2 only

pub returns-clause-planted : goal.returns-clause-planted
returns-clause-planted c format content s root marks k v stands key value =
    plants_one format content s root marks k v stands key value

pub returns-clause-planted_rows : goal.returns-clause-planted_rows
returns-clause-planted_rows c layer k v = refl
