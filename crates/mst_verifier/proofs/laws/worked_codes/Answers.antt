use Rattle.std.proofs.Common.{refl}
use Rattle.mst_verifier.proofs.WorkedCodes.{left_over, no_node, other_digest, unfinished, text_behind, other_value}
use Rattle.mst_verifier.proofs.laws.worked_codes.Goals as goal

pub returns-clause-format : goal.returns-clause-format
returns-clause-format c = refl

pub returns-clause-root : goal.returns-clause-root
returns-clause-root c = refl

pub returns-clause-key : goal.returns-clause-key
returns-clause-key c = refl

pub returns-clause-format_byte : goal.returns-clause-format_byte
returns-clause-format_byte c = refl

pub returns-clause-cut_short : goal.returns-clause-cut_short
returns-clause-cut_short c = refl

pub returns-clause-left_over : goal.returns-clause-left_over
returns-clause-left_over c = left_over

pub returns-clause-no_node : goal.returns-clause-no_node
returns-clause-no_node c = no_node

pub returns-clause-other_digest : goal.returns-clause-other_digest
returns-clause-other_digest c = other_digest

pub returns-clause-unfinished : goal.returns-clause-unfinished
returns-clause-unfinished c = unfinished

pub returns-clause-text_behind : goal.returns-clause-text_behind
returns-clause-text_behind c = text_behind

pub returns-clause-other_value : goal.returns-clause-other_value
returns-clause-other_value c = other_value
