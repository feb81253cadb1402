use Rattle.std.proofs.Common.{rules}
use Rattle.mst_command.proofs.verify.read_report.Goals as goal

pub read_up_to-requires : goal.read_up_to-requires
read_up_to-requires g c = search rules

pub returns-in_err-text-clause-report : goal.returns-in_err-text-clause-report
returns-in_err-text-clause-report g c = search rules

pub returns-in_err-text-clause-steady : goal.returns-in_err-text-clause-steady
returns-in_err-text-clause-steady g c = search rules

pub returns-in_err-text-clause-device : goal.returns-in_err-text-clause-device
returns-in_err-text-clause-device g c = search rules

pub returns-in_err-text-clause-memory : goal.returns-in_err-text-clause-memory
returns-in_err-text-clause-memory g c = search rules

pub returns-in_default-clause-report : goal.returns-in_default-clause-report
returns-in_default-clause-report g c = search rules

pub returns-in_default-clause-steady : goal.returns-in_default-clause-steady
returns-in_default-clause-steady g c = search rules

pub returns-in_default-clause-device : goal.returns-in_default-clause-device
returns-in_default-clause-device g c = search rules

pub returns-in_default-clause-memory : goal.returns-in_default-clause-memory
returns-in_default-clause-memory g c = search rules

pub returns-in-Ok-clause-report : goal.returns-in-Ok-clause-report
returns-in-Ok-clause-report g c = search rules

pub returns-in-Ok-clause-steady : goal.returns-in-Ok-clause-steady
returns-in-Ok-clause-steady g c = search rules

pub returns-in-Ok-clause-device : goal.returns-in-Ok-clause-device
returns-in-Ok-clause-device g c = search rules

pub returns-in-Ok-clause-memory : goal.returns-in-Ok-clause-memory
returns-in-Ok-clause-memory g c = search rules

pub returns-clause-report : goal.returns-clause-report
returns-clause-report g c = search rules

pub returns-clause-steady : goal.returns-clause-steady
returns-clause-steady g c = search rules

pub returns-clause-device : goal.returns-clause-device
returns-clause-device g c = search rules

pub returns-clause-memory : goal.returns-clause-memory
returns-clause-memory g c = search rules
