use Rattle.mst_requests.proofs.Names.{Some, subst, sym, Result, IfOk, Fault, IsDealt}
use Rattle.mst_requests.specs.declared.request.Request.{Request}
use Rattle.mst_requests.proofs.Dealing.{asked_dealt}
use Rattle.mst_requests.proofs.parse.request_in.Goals as goal

pub returns-in-Some-clause-dealt : goal.returns-in-Some-clause-dealt
returns-in-Some-clause-dealt c =
    subst (λ (r : Result Request Fault). IfOk r (IsDealt c.args.passes)) (sym c.request_of.ensures)
    (asked_dealt c.args.passes (Some c.in-Some.bytes.now))
