use Rattle.mst_proof.proofs.Names.{◌≡◌, length, judgement, followed}
use Rattle.mst_proof.proofs.verifier.follow.Given as goal

-- what the texts to come give is the judgement
abbrev pub invariant-loop-text : goal.invariant-loop-text
invariant-loop-text l = followed l.format l.key l.expected l.texts ≡ judgement l.format l.root l.key
    l.fn.texts

abbrev pub decreases-loop-text : goal.decreases-loop-text
decreases-loop-text l = length l.texts
