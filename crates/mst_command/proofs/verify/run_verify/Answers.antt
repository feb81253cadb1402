use Rattle.std.proofs.Common.{rules}
use Rattle.mst_command.proofs.verify.run_verify.Goals as goal

pub returns-in_default-clause-ran : goal.returns-in_default-clause-ran
returns-in_default-clause-ran g c = search rules

pub returns-in_default-clause-steady : goal.returns-in_default-clause-steady
returns-in_default-clause-steady g c = search rules

pub returns-in_default-clause-device : goal.returns-in_default-clause-device
returns-in_default-clause-device g c = search rules

pub returns-in_default-clause-stopped : goal.returns-in_default-clause-stopped
returns-in_default-clause-stopped g c = search rules

pub returns-in_default-clause-unread : goal.returns-in_default-clause-unread
returns-in_default-clause-unread g c = search rules

pub returns-in_default-clause-unwritten : goal.returns-in_default-clause-unwritten
returns-in_default-clause-unwritten g c = search rules

pub returns-in_default-clause-ends : goal.returns-in_default-clause-ends
returns-in_default-clause-ends g c = search rules

pub returns-in_default-clause-root : goal.returns-in_default-clause-root
returns-in_default-clause-root g c = search rules

pub returns-in_default-clause-key : goal.returns-in_default-clause-key
returns-in_default-clause-key g c = search rules

pub returns-in_default-key_in-clause-ran : goal.returns-in_default-key_in-clause-ran
returns-in_default-key_in-clause-ran g c = search rules

pub returns-in_default-key_in-clause-steady : goal.returns-in_default-key_in-clause-steady
returns-in_default-key_in-clause-steady g c = search rules

pub returns-in_default-key_in-clause-device : goal.returns-in_default-key_in-clause-device
returns-in_default-key_in-clause-device g c = search rules

pub returns-in_default-key_in-clause-stopped : goal.returns-in_default-key_in-clause-stopped
returns-in_default-key_in-clause-stopped g c = search rules

pub returns-in_default-key_in-clause-unread : goal.returns-in_default-key_in-clause-unread
returns-in_default-key_in-clause-unread g c = search rules

pub returns-in_default-key_in-clause-unwritten : goal.returns-in_default-key_in-clause-unwritten
returns-in_default-key_in-clause-unwritten g c = search rules

pub returns-in_default-key_in-clause-ends : goal.returns-in_default-key_in-clause-ends
returns-in_default-key_in-clause-ends g c = search rules

pub returns-in_default-key_in-clause-root : goal.returns-in_default-key_in-clause-root
returns-in_default-key_in-clause-root g c = search rules

pub returns-in_default-key_in-clause-key : goal.returns-in_default-key_in-clause-key
returns-in_default-key_in-clause-key g c = search rules

pub read_report-requires : goal.read_report-requires
read_report-requires g c = search rules

pub returns-in-Err-Device-clause-ran : goal.returns-in-Err-Device-clause-ran
returns-in-Err-Device-clause-ran g c = search rules

pub returns-in-Err-Device-clause-steady : goal.returns-in-Err-Device-clause-steady
returns-in-Err-Device-clause-steady g c = search rules

pub returns-in-Err-Device-clause-device : goal.returns-in-Err-Device-clause-device
returns-in-Err-Device-clause-device g c = search rules

pub returns-in-Err-Device-clause-stopped : goal.returns-in-Err-Device-clause-stopped
returns-in-Err-Device-clause-stopped g c = search rules

pub returns-in-Err-Device-clause-unread : goal.returns-in-Err-Device-clause-unread
returns-in-Err-Device-clause-unread g c = search rules

pub returns-in-Err-Device-clause-unwritten : goal.returns-in-Err-Device-clause-unwritten
returns-in-Err-Device-clause-unwritten g c = search rules

pub returns-in-Err-Device-clause-ends : goal.returns-in-Err-Device-clause-ends
returns-in-Err-Device-clause-ends g c = search rules

pub returns-in-Err-Device-clause-root : goal.returns-in-Err-Device-clause-root
returns-in-Err-Device-clause-root g c = search rules

pub returns-in-Err-Device-clause-key : goal.returns-in-Err-Device-clause-key
returns-in-Err-Device-clause-key g c = search rules

pub returns-in-Err-Memory-clause-ran : goal.returns-in-Err-Memory-clause-ran
returns-in-Err-Memory-clause-ran g c = search rules

pub returns-in-Err-Memory-clause-steady : goal.returns-in-Err-Memory-clause-steady
returns-in-Err-Memory-clause-steady g c = search rules

pub returns-in-Err-Memory-clause-device : goal.returns-in-Err-Memory-clause-device
returns-in-Err-Memory-clause-device g c = search rules

pub returns-in-Err-Memory-clause-stopped : goal.returns-in-Err-Memory-clause-stopped
returns-in-Err-Memory-clause-stopped g c = search rules

pub returns-in-Err-Memory-clause-unread : goal.returns-in-Err-Memory-clause-unread
returns-in-Err-Memory-clause-unread g c = search rules

pub returns-in-Err-Memory-clause-unwritten : goal.returns-in-Err-Memory-clause-unwritten
returns-in-Err-Memory-clause-unwritten g c = search rules

pub returns-in-Err-Memory-clause-ends : goal.returns-in-Err-Memory-clause-ends
returns-in-Err-Memory-clause-ends g c = search rules

pub returns-in-Err-Memory-clause-root : goal.returns-in-Err-Memory-clause-root
returns-in-Err-Memory-clause-root g c = search rules

pub returns-in-Err-Memory-clause-key : goal.returns-in-Err-Memory-clause-key
returns-in-Err-Memory-clause-key g c = search rules

pub as_slice-requires : goal.as_slice-requires
as_slice-requires g c = search rules

pub write_all-requires : goal.write_all-requires
write_all-requires g c = search rules

pub returns-in-Ok-write_all-clause-ran : goal.returns-in-Ok-write_all-clause-ran
returns-in-Ok-write_all-clause-ran g c = search rules

pub returns-in-Ok-write_all-clause-steady : goal.returns-in-Ok-write_all-clause-steady
returns-in-Ok-write_all-clause-steady g c = search rules

pub returns-in-Ok-write_all-clause-device : goal.returns-in-Ok-write_all-clause-device
returns-in-Ok-write_all-clause-device g c = search rules

pub returns-in-Ok-write_all-clause-stopped : goal.returns-in-Ok-write_all-clause-stopped
returns-in-Ok-write_all-clause-stopped g c = search rules

pub returns-in-Ok-write_all-clause-unread : goal.returns-in-Ok-write_all-clause-unread
returns-in-Ok-write_all-clause-unread g c = search rules

pub returns-in-Ok-write_all-clause-unwritten : goal.returns-in-Ok-write_all-clause-unwritten
returns-in-Ok-write_all-clause-unwritten g c = search rules

pub returns-in-Ok-write_all-clause-ends : goal.returns-in-Ok-write_all-clause-ends
returns-in-Ok-write_all-clause-ends g c = search rules

pub returns-in-Ok-write_all-clause-root : goal.returns-in-Ok-write_all-clause-root
returns-in-Ok-write_all-clause-root g c = search rules

pub returns-in-Ok-write_all-clause-key : goal.returns-in-Ok-write_all-clause-key
returns-in-Ok-write_all-clause-key g c = search rules

pub returns-in-Err-clause-ran : goal.returns-in-Err-clause-ran
returns-in-Err-clause-ran g c = search rules

pub returns-in-Err-clause-steady : goal.returns-in-Err-clause-steady
returns-in-Err-clause-steady g c = search rules

pub returns-in-Err-clause-device : goal.returns-in-Err-clause-device
returns-in-Err-clause-device g c = search rules

pub returns-in-Err-clause-stopped : goal.returns-in-Err-clause-stopped
returns-in-Err-clause-stopped g c = search rules

pub returns-in-Err-clause-unread : goal.returns-in-Err-clause-unread
returns-in-Err-clause-unread g c = search rules

pub returns-in-Err-clause-unwritten : goal.returns-in-Err-clause-unwritten
returns-in-Err-clause-unwritten g c = search rules

pub returns-in-Err-clause-ends : goal.returns-in-Err-clause-ends
returns-in-Err-clause-ends g c = search rules

pub returns-in-Err-clause-root : goal.returns-in-Err-clause-root
returns-in-Err-clause-root g c = search rules

pub returns-in-Err-clause-key : goal.returns-in-Err-clause-key
returns-in-Err-clause-key g c = search rules
