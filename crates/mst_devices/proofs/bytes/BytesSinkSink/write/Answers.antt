use Rattle.std.proofs.Common.{rules}
use Rattle.mst_devices.proofs.bytes.BytesSinkSink.write.Goals as goal

pub overflow_add-self : goal.overflow_add-self
overflow_add-self g c = search rules

pub invariant_of-self : goal.invariant_of-self
invariant_of-self g c = search rules

pub returns-then-blank-eq0-clause-ok : goal.returns-then-blank-eq0-clause-ok
returns-then-blank-eq0-clause-ok g c = search rules

pub returns-then-blank-eq0-clause-steady : goal.returns-then-blank-eq0-clause-steady
returns-then-blank-eq0-clause-steady g c = search rules

pub returns-then-blank-eq0-clause-err : goal.returns-then-blank-eq0-clause-err
returns-then-blank-eq0-clause-err g c = search rules

pub returns-then-blank-eq0-clause-failed : goal.returns-then-blank-eq0-clause-failed
returns-then-blank-eq0-clause-failed g c = search rules

pub slice_bounds-extend_from_slice-end : goal.slice_bounds-extend_from_slice-end
slice_bounds-extend_from_slice-end g c = search rules

pub invariant_of-self-2 : goal.invariant_of-self-2
invariant_of-self-2 g c = search rules

pub returns-clause-ok : goal.returns-clause-ok
returns-clause-ok g c = search rules

pub returns-clause-steady : goal.returns-clause-steady
returns-clause-steady g c = search rules

pub returns-clause-err : goal.returns-clause-err
returns-clause-err g c = search rules

pub returns-clause-failed : goal.returns-clause-failed
returns-clause-failed g c = search rules
