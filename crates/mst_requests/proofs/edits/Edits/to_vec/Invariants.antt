use Rattle.mst_requests.proofs.Names.{◌≤◌, length, IfSome, longest_line, fields_behind, edits_in}
use Rattle.mst_requests.proofs.Batching.{left, IsRead}
use Rattle.mst_requests.proofs.edits.Edits.to_vec.Given as goal

abbrev pub invariant-loop-rest : goal.invariant-loop-rest
invariant-loop-rest g l = record {
  small : IfSome l.rest (λ rest. length rest.now ≤ longest_line);
  read : IsRead l.self l.edits.items (edits_in (fields_behind l.rest));
}

abbrev pub decreases-loop-rest : goal.decreases-loop-rest
decreases-loop-rest g l = left l.rest
