use Rattle.mst_theorem.proofs.Calls.{by_contract}
use Rattle.mst_theorem.proofs.laws.call_laws.Goals as goal

pub returns : goal.returns
returns c = record { honest = by_contract }
