use Rattle.mst_pin.proofs.Asks.{drained_at_yes, pinned_at_no, one_or_other, asks_change_nothing, drained_may_be_published, pinned_may_not}
use Rattle.mst_pin.proofs.EndedPins.{yes_where_ended}
use Rattle.mst_pin.proofs.laws.asks_tell_pins.Goals as goal

pub returns-clause-yes : goal.returns-clause-yes
returns-clause-yes c = drained_at_yes

pub returns-clause-no : goal.returns-clause-no
returns-clause-no c = pinned_at_no

pub returns-clause-either : goal.returns-clause-either
returns-clause-either c = one_or_other

pub returns-clause-same : goal.returns-clause-same
returns-clause-same c = asks_change_nothing

pub returns-clause-publish : goal.returns-clause-publish
returns-clause-publish c = drained_may_be_published

pub returns-clause-pinned : goal.returns-clause-pinned
returns-clause-pinned c = pinned_may_not

pub returns-clause-ended : goal.returns-clause-ended
returns-clause-ended c = yes_where_ended
