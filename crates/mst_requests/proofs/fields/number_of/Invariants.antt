use Rattle.mst_requests.proofs.Names.{◌≡◌, ◌≤◌, drop, number_up_to}
use Rattle.mst_requests.proofs.fields.number_of.Given as goal

-- what is left decides
abbrev pub invariant-loop-digit : goal.invariant-loop-digit
invariant-loop-digit l = record {
  small : l.number ≤ l.most;
  same : number_up_to l.most 0 l.digits ≡ number_up_to l.most l.number
      (drop l.digit-index l.digits);
}
