-- What the calls of a pass return, as answers to lines.
use Rattle.std.specs.Prelude.{ℕ, List, Option, Result, Ok, Err}
use Rattle.mst_versions.specs.declared.faults.WriteFault.{WriteFault}
use Rattle.mst_versions.specs.declared.faults.WriteFault.TheVariants as write
use Rattle.mst_versions.specs.declared.faults.MigrateFault.{MigrateFault}
use Rattle.mst_versions.specs.declared.faults.MigrateFault.TheVariants as migrate
use Rattle.mst_batching.specs.declared.faults.ApplyFault.{ApplyFault}
use Rattle.mst_batching.specs.declared.faults.ApplyFault.TheVariants as apply
use Rattle.mst_key.specs.declared.format.Format.{Format}
use Rattle.mst_requests.specs.declared.answer.Answer.{Answer}
use Rattle.mst_requests.specs.declared.answer.Answer.TheVariants.{Value, Rows, Was, Done, Busy, Spent, NoRoom, Memory}

abbrev pub rows_answer : {A E : Type 0} → Result (Option ℕ) E → Answer A
rows_answer (Ok found) = Rows found
rows_answer (Err fault) = Busy

abbrev pub write_answer : {A : Type 0} → Result (Option (List ℕ)) WriteFault → Answer A
write_answer (Ok old) = Value old
write_answer (Err write.Busy) = Busy
write_answer (Err write.VersionsSpent) = Spent
write_answer (Err write.NoRoom) = NoRoom

abbrev pub migration_answer : {A : Type 0} → Result Format MigrateFault → Answer A
migration_answer (Ok format) = Was format
migration_answer (Err migrate.Busy) = Busy
migration_answer (Err migrate.VersionsSpent) = Spent
migration_answer (Err (migrate.Memory refused)) = Memory refused
migration_answer (Err migrate.NoRoom) = NoRoom

abbrev pub batch_answer : {A U : Type 0} → Result U ApplyFault → Answer A
batch_answer (Ok made) = Done
batch_answer (Err apply.Busy) = Busy
batch_answer (Err apply.VersionsSpent) = Spent
batch_answer (Err (apply.Memory refused)) = Memory refused
batch_answer (Err apply.NoRoom) = NoRoom
