use Rattle.mst_requests.proofs.Names.{rules}
use Rattle.mst_requests.proofs.fields.bytes_of.Goals as goal

pub as_slice-requires : goal.as_slice-requires
as_slice-requires c = search rules

pub split_at_mut-front-requires : goal.split_at_mut-front-requires
split_at_mut-front-requires c = search rules

pub both_followed-room : goal.both_followed-room
both_followed-room c = search rules

pub way_back_joined-room : goal.way_back_joined-room
way_back_joined-room c = search rules
