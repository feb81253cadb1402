use Rattle.mst_pin.proofs.Names.{rules}
use Rattle.mst_pin.proofs.Core.is_taken.Goals as goal

pub is_blank-requires-clause-settled : goal.is_blank-requires-clause-settled
is_blank-requires-clause-settled c = search rules

pub is_blank-requires-clause-row_in : goal.is_blank-requires-clause-row_in
is_blank-requires-clause-row_in c = search rules

pub is_drained-requires-clause-settled : goal.is_drained-requires-clause-settled
is_drained-requires-clause-settled c = search rules

pub is_drained-requires-clause-record_in : goal.is_drained-requires-clause-record_in
is_drained-requires-clause-record_in c = search rules

pub is_drained-requires-clause-spare : goal.is_drained-requires-clause-spare
is_drained-requires-clause-spare c = search rules

pub are_usable-requires : goal.are_usable-requires
are_usable-requires c = search rules

pub returns-then-has_pass : goal.returns-then-has_pass
returns-then-has_pass c = search rules

pub returns-else-has_pass : goal.returns-else-has_pass
returns-else-has_pass c = search rules

pub returns-in-Unpin : goal.returns-in-Unpin
returns-in-Unpin c = search rules

pub returns-then-not-transfer_waits : goal.returns-then-not-transfer_waits
returns-then-not-transfer_waits c = search rules

pub returns-else-not-transfer_waits : goal.returns-else-not-transfer_waits
returns-else-not-transfer_waits c = search rules

pub returns-then-is_drained : goal.returns-then-is_drained
returns-then-is_drained c = search rules

pub returns-else-is_drained : goal.returns-else-is_drained
returns-else-is_drained c = search rules

pub returns-in-Transfer : goal.returns-in-Transfer
returns-in-Transfer c = search rules

pub returns-then-not-transfer_waits-3 : goal.returns-then-not-transfer_waits-3
returns-then-not-transfer_waits-3 c = search rules

pub returns-else-not-transfer_waits-3 : goal.returns-else-not-transfer_waits-3
returns-else-not-transfer_waits-3 c = search rules
