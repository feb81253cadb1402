use Rattle.mst_key.proofs.Names.{rules}
use Rattle.mst_key.proofs.key.Key.bytes.Goals as goal

pub as_slice-requires : goal.as_slice-requires
as_slice-requires c = search rules

pub returns-clause-bytes : goal.returns-clause-bytes
returns-clause-bytes c = search rules

pub returns-clause-size : goal.returns-clause-size
returns-clause-size c = search rules

pub returns-clause-range : goal.returns-clause-range
returns-clause-range c = search rules
