use Rattle.mst_theorem.proofs.Points.{points_kept}
use Rattle.mst_theorem.proofs.Times.{log_later, pin_whole, write_whole, pin_seen, write_seen}
use Rattle.mst_theorem.proofs.Within.{write_point}
use Rattle.mst_theorem.proofs.laws.time_laws.Goals as goal

pub returns-clause-later : goal.returns-clause-later
returns-clause-later c = log_later

pub returns-clause-pin : goal.returns-clause-pin
returns-clause-pin c = pin_whole

pub returns-clause-write : goal.returns-clause-write
returns-clause-write c = write_whole

pub returns-clause-seen : goal.returns-clause-seen
returns-clause-seen c = pin_seen

pub returns-clause-followed : goal.returns-clause-followed
returns-clause-followed c = write_seen

pub returns-clause-points : goal.returns-clause-points
returns-clause-points c = points_kept

pub returns-clause-within : goal.returns-clause-within
returns-clause-within c = write_point
