use Rattle.mst_pin.proofs.Pinned.{since_pin, not_written, stays_lost}
use Rattle.mst_pin.proofs.laws.pinned_rows_stay.Goals as goal

pub returns-clause-pinned : goal.returns-clause-pinned
returns-clause-pinned c = λ p r events answers s t u pinned kept ran.
    let is = since_pin p r events answers s t u pinned kept ran in (is.0, is.1.pin)

pub returns-clause-rows : goal.returns-clause-rows
returns-clause-rows c = λ p r events answers s t u pinned kept ran.
    (since_pin p r events answers s t u pinned kept ran).1.rows_are

pub returns-clause-unwritten : goal.returns-clause-unwritten
returns-clause-unwritten c = λ p r events answers s t u pinned kept ran x v step.
    not_written p r (s.rows r) x u v (since_pin p r events answers s t u pinned kept ran).1 step

pub returns-clause-lost : goal.returns-clause-lost
returns-clause-lost c = stays_lost
