use Rattle.mst_replay.proofs.Names.{rules}
use Rattle.mst_replay.proofs.command.read_command.Goals as goal

pub returns-then-passes-le32-clause-some : goal.returns-then-passes-le32-clause-some
returns-then-passes-le32-clause-some c = search rules

pub returns-then-passes-le32-clause-only : goal.returns-then-passes-le32-clause-only
returns-then-passes-le32-clause-only c = search rules

pub returns-else-passes-gt0-clause-some : goal.returns-else-passes-gt0-clause-some
returns-else-passes-gt0-clause-some c = search rules

pub returns-else-passes-gt0-clause-only : goal.returns-else-passes-gt0-clause-only
returns-else-passes-gt0-clause-only c = search rules

pub returns-in-Some-number_after-clause-some : goal.returns-in-Some-number_after-clause-some
returns-in-Some-number_after-clause-some c = search rules

pub returns-in-Some-number_after-clause-only : goal.returns-in-Some-number_after-clause-only
returns-in-Some-number_after-clause-only c = search rules

pub returns-in-Some-number_after-2-clause-some : goal.returns-in-Some-number_after-2-clause-some
returns-in-Some-number_after-2-clause-some c = search rules

pub returns-in-Some-number_after-2-clause-only : goal.returns-in-Some-number_after-2-clause-only
returns-in-Some-number_after-2-clause-only c = search rules

pub returns-then-row-lt64-clause-some : goal.returns-then-row-lt64-clause-some
returns-then-row-lt64-clause-some c = search rules

pub returns-then-row-lt64-clause-only : goal.returns-then-row-lt64-clause-only
returns-then-row-lt64-clause-only c = search rules

pub returns-else-row-lt64-clause-some : goal.returns-else-row-lt64-clause-some
returns-else-row-lt64-clause-some c = search rules

pub returns-else-row-lt64-clause-only : goal.returns-else-row-lt64-clause-only
returns-else-row-lt64-clause-only c = search rules

pub returns-in-Some-number_after-4-clause-some : goal.returns-in-Some-number_after-4-clause-some
returns-in-Some-number_after-4-clause-some c = search rules

pub returns-in-Some-number_after-4-clause-only : goal.returns-in-Some-number_after-4-clause-only
returns-in-Some-number_after-4-clause-only c = search rules

pub as_slice-requires : goal.as_slice-requires
as_slice-requires c = search rules

pub returns-then-eq-clause-some : goal.returns-then-eq-clause-some
returns-then-eq-clause-some c = search rules

pub returns-then-eq-clause-only : goal.returns-then-eq-clause-only
returns-then-eq-clause-only c = search rules

pub returns-in_err-into-clause-some : goal.returns-in_err-into-clause-some
returns-in_err-into-clause-some c = search rules

pub returns-in_err-into-clause-only : goal.returns-in_err-into-clause-only
returns-in_err-into-clause-only c = search rules

pub returns-clause-some : goal.returns-clause-some
returns-clause-some c = search rules

pub returns-clause-only : goal.returns-clause-only
returns-clause-only c = search rules
