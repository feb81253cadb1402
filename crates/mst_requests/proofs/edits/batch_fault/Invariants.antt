use Rattle.mst_requests.proofs.Names.{◌≡◌, ◌≤◌, length, IfSome, result_err, longest_line, fields_behind, edits_in, edits_read}
use Rattle.mst_requests.proofs.Batching.{left, comes_to}
use Rattle.mst_requests.proofs.edits.batch_fault.Given as goal

-- what is left decides
abbrev pub invariant-loop-rest : goal.invariant-loop-rest
invariant-loop-rest l = record {
  small : IfSome l.rest (λ rest. length rest.now ≤ longest_line);
  same : result_err (edits_read (fields_behind l.fn.fields))
      ≡ comes_to l.fault (edits_in (fields_behind l.rest));
}

abbrev pub decreases-loop-rest : goal.decreases-loop-rest
decreases-loop-rest l = left l.rest
