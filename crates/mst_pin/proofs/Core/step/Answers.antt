use Rattle.mst_pin.proofs.Names.{rules}
use Rattle.mst_pin.proofs.Core.step.Goals as goal

pub returns-then-not-is_taken-clause-step : goal.returns-then-not-is_taken-clause-step
returns-then-not-is_taken-clause-step c = search rules

pub returns-then-not-is_taken-clause-unchanged : goal.returns-then-not-is_taken-clause-unchanged
returns-then-not-is_taken-clause-unchanged c = search rules

pub pin-requires : goal.pin-requires
pin-requires c = search rules

pub unpin-requires : goal.unpin-requires
unpin-requires c = search rules

pub publish-requires : goal.publish-requires
publish-requires c = search rules

pub transfer-requires : goal.transfer-requires
transfer-requires c = search rules

pub ask-requires : goal.ask-requires
ask-requires c = search rules

pub returns-in-Pin-clause-step : goal.returns-in-Pin-clause-step
returns-in-Pin-clause-step c = search rules

pub returns-in-Pin-clause-unchanged : goal.returns-in-Pin-clause-unchanged
returns-in-Pin-clause-unchanged c = search rules

pub returns-in-Unpin-clause-step : goal.returns-in-Unpin-clause-step
returns-in-Unpin-clause-step c = search rules

pub returns-in-Unpin-clause-unchanged : goal.returns-in-Unpin-clause-unchanged
returns-in-Unpin-clause-unchanged c = search rules

pub returns-in-Write-clause-step : goal.returns-in-Write-clause-step
returns-in-Write-clause-step c = search rules

pub returns-in-Write-clause-unchanged : goal.returns-in-Write-clause-unchanged
returns-in-Write-clause-unchanged c = search rules

pub returns-in-Publish-clause-step : goal.returns-in-Publish-clause-step
returns-in-Publish-clause-step c = search rules

pub returns-in-Publish-clause-unchanged : goal.returns-in-Publish-clause-unchanged
returns-in-Publish-clause-unchanged c = search rules

pub returns-in-Transfer-clause-step : goal.returns-in-Transfer-clause-step
returns-in-Transfer-clause-step c = search rules

pub returns-in-Transfer-clause-unchanged : goal.returns-in-Transfer-clause-unchanged
returns-in-Transfer-clause-unchanged c = search rules

pub returns-in-Ask-clause-step : goal.returns-in-Ask-clause-step
returns-in-Ask-clause-step c = search rules

pub returns-in-Ask-clause-unchanged : goal.returns-in-Ask-clause-unchanged
returns-in-Ask-clause-unchanged c = search rules
