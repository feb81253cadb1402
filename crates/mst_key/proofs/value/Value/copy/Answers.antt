use Rattle.mst_key.proofs.Names.{rules}
use Rattle.mst_key.proofs.value.Value.copy.Goals as goal

pub new-bytes-requires : goal.new-bytes-requires
new-bytes-requires c = search rules

pub as_slice-requires : goal.as_slice-requires
as_slice-requires c = search rules

pub try_extend_from_slice-requires : goal.try_extend_from_slice-requires
try_extend_from_slice-requires c = search rules

pub invariant_of-result : goal.invariant_of-result
invariant_of-result c = search rules

pub returns : goal.returns
returns c = search rules
