use Rattle.mst_node.proofs.Names.{◌≡◌, ◌-◌, behind_at}
use Rattle.mst_node.proofs.reading.behind.Given as goal

-- what lies after the entries to come lies after all
abbrev pub invariant-loop : goal.invariant-loop
invariant-loop l = behind_at l.format (l.count - l.counter) l.rest ≡ behind_at l.format l.count
    l.bytes
