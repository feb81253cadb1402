use Rattle.mst_sharded_proof.proofs.Names.{take, AllByRecursion, IsKey}
use Rattle.mst_sharded_proof.proofs.audit.keys_within_limits.Given as goal

-- the keys so far are within their limits
abbrev pub invariant-loop-pair : goal.invariant-loop-pair
invariant-loop-pair l = AllByRecursion (λ p. IsKey p.0) (take l.pair-index l.pairs)
