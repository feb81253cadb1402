use Rattle.mst_script.proofs.Told.{lone_write, lone_migration, lone_batch, lone_count, fault_told, put_told, batch_told}
use Rattle.mst_script.proofs.laws.script_laws.Goals as goal

pub returns-clause-lone_write : goal.returns-clause-lone_write
returns-clause-lone_write c = lone_write

pub returns-clause-lone_migration : goal.returns-clause-lone_migration
returns-clause-lone_migration c = lone_migration

pub returns-clause-lone_batch : goal.returns-clause-lone_batch
returns-clause-lone_batch c = lone_batch

pub returns-clause-lone_count : goal.returns-clause-lone_count
returns-clause-lone_count c = lone_count

pub returns-clause-fault : goal.returns-clause-fault
returns-clause-fault c = fault_told

pub returns-clause-told : goal.returns-clause-told
returns-clause-told c = put_told

pub returns-clause-told_by_batch : goal.returns-clause-told_by_batch
returns-clause-told_by_batch c = batch_told
