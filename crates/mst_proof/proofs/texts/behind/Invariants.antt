use Rattle.mst_proof.proofs.Names.{◌≡◌, ◌-◌, rest_at}
use Rattle.mst_proof.proofs.texts.behind.Given as goal

-- what lies after the texts to come lies after all
abbrev pub invariant-loop : goal.invariant-loop
invariant-loop l = rest_at (l.count - l.counter) l.rest ≡ rest_at l.count l.bytes
