use Rattle.std.proofs.Common.{rules}
use Rattle.mst_verifier.proofs.question.answer.Goals as goal

pub as_array-requires : goal.as_array-requires
as_array-requires c = search rules

pub returns-in_default : goal.returns-in_default
returns-in_default c = search rules

pub returns-in_default-new : goal.returns-in_default-new
returns-in_default-new c = search rules

pub returns : goal.returns
returns c = search rules
