use Rattle.mst_words.proofs.Doable.{can, can_publish}
use Rattle.mst_words.proofs.Moves.{goes_on, publication, seats_change}
use Rattle.mst_words.proofs.Led.{opened, led, one_current, one_due, one_pin}
use Rattle.mst_words.proofs.laws.path_laws.Goals as goal

pub returns-clause-opens : goal.returns-clause-opens
returns-clause-opens c = opened

pub returns-clause-can : goal.returns-clause-can
returns-clause-can c z s a deed id i me at may small = can z s a id me at deed i may small

pub returns-clause-can_publish : goal.returns-clause-can_publish
returns-clause-can_publish c z s a id into me e d used at ready small =
    can_publish z s a id me at into e d used ready small

pub returns-clause-deed : goal.returns-clause-deed
returns-clause-deed c = goes_on

pub returns-clause-publication : goal.returns-clause-publication
returns-clause-publication c = publication

pub returns-clause-seats : goal.returns-clause-seats
returns-clause-seats c = seats_change

pub returns-clause-run : goal.returns-clause-run
returns-clause-run c = led

pub returns-clause-current : goal.returns-clause-current
returns-clause-current c = one_current

pub returns-clause-due : goal.returns-clause-due
returns-clause-due c = one_due

pub returns-clause-pin : goal.returns-clause-pin
returns-clause-pin c = one_pin
