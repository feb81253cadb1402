use Rattle.mst_proof.proofs.Names.{rules}
use Rattle.mst_proof.proofs.verifier.follow.Goals as goal

pub eq-requires : goal.eq-requires
eq-requires c = search rules

pub returns-then-eq : goal.returns-then-eq
returns-then-eq c = search rules

pub returns-else-eq : goal.returns-else-eq
returns-else-eq c = search rules

pub loop-text-init : goal.loop-text-init
loop-text-init c = search rules

pub returns-in_err-next : goal.returns-in_err-next
returns-in_err-next c = search rules

pub loop-text-smaller : goal.loop-text-smaller
loop-text-smaller c = search rules

pub loop-text-preserved : goal.loop-text-preserved
loop-text-preserved c = search rules

pub returns-then-is_empty-2 : goal.returns-then-is_empty-2
returns-then-is_empty-2 c = search rules

pub returns-else-is_empty-2 : goal.returns-else-is_empty-2
returns-else-is_empty-2 c = search rules

pub returns : goal.returns
returns c = search rules
