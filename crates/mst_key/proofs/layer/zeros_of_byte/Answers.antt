use Rattle.mst_key.proofs.Names.{rules}
use Rattle.mst_key.proofs.layer.zeros_of_byte.Goals as goal

pub returns-in-0-clause-zeros : goal.returns-in-0-clause-zeros
returns-in-0-clause-zeros c = search rules

pub returns-in-0-clause-range : goal.returns-in-0-clause-range
returns-in-0-clause-range c = search rules

pub returns-in-1-to-15-clause-zeros : goal.returns-in-1-to-15-clause-zeros
returns-in-1-to-15-clause-zeros c = search rules

pub returns-in-1-to-15-clause-range : goal.returns-in-1-to-15-clause-range
returns-in-1-to-15-clause-range c = search rules

pub returns-in_default-clause-zeros : goal.returns-in_default-clause-zeros
returns-in_default-clause-zeros c = search rules

pub returns-in_default-clause-range : goal.returns-in_default-clause-range
returns-in_default-clause-range c = search rules
