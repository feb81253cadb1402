use Rattle.mst_store.proofs.Names.{◌≤◌, rules}
use Rattle.mst_store.proofs.FewPairs.{counted_pinned}
use Rattle.mst_store.proofs.pass.Pass.len.Goals as goal

pub len-len-requires-clause-few : goal.len-len-requires-clause-few
len-len-requires-clause-few g c =
    let rows : c.self.inside.seat.me.0.rows ≤ 65535 = search rules in
    counted_pinned c.self.inside.seat.me c.pin-at.new.seat.me c.pin-at.result
    c.pin-at.ensures.pinned rows

pub returns-clause-answers : goal.returns-clause-answers
returns-clause-answers g c = search rules
