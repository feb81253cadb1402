use Rattle.mst_node.proofs.Names.{◌≡◌, ◌≤◌, ◌-◌, length, scan_at, scan_from, passing_from}
use Rattle.mst_node.proofs.finding.pass.Given as goal

-- to scan the entries to come gives what scanning all gives
abbrev pub invariant-loop-passed : goal.invariant-loop-passed
invariant-loop-passed l =
    (scan_at l.format l.layer l.key (passing_from l.last l.stop) (l.coming.left - l.passed) l.rest
    ≡ scan_from l.format l.layer l.key l.stop l.coming) × (length l.last ≤ 32)
