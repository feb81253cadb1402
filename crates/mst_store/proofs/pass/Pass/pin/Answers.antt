use Rattle.mst_store.proofs.Names.{◌≤◌, rules}
use Rattle.mst_store.proofs.FewPairs.{few_pinned}
use Rattle.mst_store.proofs.pass.Pass.pin.Goals as goal

pub pin-at-requires-clause-rest : goal.pin-at-requires-clause-rest
pin-at-requires-clause-rest g c = search rules

pub pin-at-requires-clause-few : goal.pin-at-requires-clause-few
pin-at-requires-clause-few g c = search rules

pub invariant_of-result : goal.invariant_of-result
invariant_of-result g c = search rules

pub returns-clause-looks : goal.returns-clause-looks
returns-clause-looks g c = search rules

pub returns-clause-once : goal.returns-clause-once
returns-clause-once g c = search rules

pub returns-clause-map : goal.returns-clause-map
returns-clause-map g c = search rules

pub returns-clause-few : goal.returns-clause-few
returns-clause-few g c =
    let rows : c.self.inside.seat.me.0.rows ≤ 65535 = search rules in
    few_pinned c.self.inside.seat.me c.pin-at.new.seat.me c.pin-at.result c.pin-at.ensures.pinned
    rows
