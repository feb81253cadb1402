use Rattle.mst_requests.proofs.Names.{rules}
use Rattle.mst_requests.proofs.fields.bound_in.Goals as goal

pub bytes_of-requires : goal.bytes_of-requires
bytes_of-requires c = search rules

pub returns-in_err-count : goal.returns-in_err-count
returns-in_err-count c = search rules

pub returns-then-count-eq0 : goal.returns-then-count-eq0
returns-then-count-eq0 c = search rules

pub slice_bounds-room-end : goal.slice_bounds-room-end
slice_bounds-room-end c = search rules

pub slice_bounds-new-end : goal.slice_bounds-new-end
slice_bounds-new-end c = search rules

pub returns-in-Ok : goal.returns-in-Ok
returns-in-Ok c = search rules

pub returns-in-Err : goal.returns-in-Err
returns-in-Err c = search rules
