use Rattle.mst_store.proofs.Names.{length-append, set, refl, ap, ◌∙◌, arith, set-get_or, Known}
use Rattle.mst_store.proofs.Courier.{beside_front, beside_back, some_in}
use Rattle.mst_store.proofs.settling.first_courier.Goals as goal

pub returns-then-not-is_empty-clause-same : goal.returns-then-not-is_empty-clause-same
returns-then-not-is_empty-clause-same g c =
    let p : Known = c.index-free-0.result in (
      ap (λ (q : Known). set c.args.free.now 0 q) c.send_courier.ensures.same
          ∙ set-get_or c.args.free.now 0 p,
      refl,
    )

pub returns-then-not-is_empty-clause-some : goal.returns-then-not-is_empty-clause-some
returns-then-not-is_empty-clause-some g c =
    let some = some_in c.args.free.now c.is_empty.result c.is_empty.ensures c.if-not-is_empty.true
    in
    let both = length-append c.args.free.now c.args.held.now in
    omega (arith, some, both)

pub returns-then-not-is_empty-clause-own : goal.returns-then-not-is_empty-clause-own
returns-then-not-is_empty-clause-own g c =
    let courier = c.send_courier.result in
    beside_front courier.table courier.me.0.passes c.args.free.now c.args.held.now
    c.index-free-0.result c.requires.whole
    (some_in c.args.free.now c.is_empty.result c.is_empty.ensures c.if-not-is_empty.true)
    c.send_courier.ensures.own

pub returns-then-not-is_empty-2-clause-same : goal.returns-then-not-is_empty-2-clause-same
returns-then-not-is_empty-2-clause-same g c =
    let p : Known = c.index-held-0.result in (
      refl,
      ap (λ (q : Known). set c.args.held.now 0 q) c.send_pinned_courier.ensures.same
          ∙ set-get_or c.args.held.now 0 p,
    )

pub returns-then-not-is_empty-2-clause-some : goal.returns-then-not-is_empty-2-clause-some
returns-then-not-is_empty-2-clause-some g c =
    let some = some_in c.args.held.now c.is_empty-2.result c.is_empty-2.ensures
    c.if-not-is_empty-2.true in
    let both = length-append c.args.free.now c.args.held.now in
    omega (arith, some, both)

pub returns-then-not-is_empty-2-clause-own : goal.returns-then-not-is_empty-2-clause-own
returns-then-not-is_empty-2-clause-own g c =
    let courier = c.send_pinned_courier.result in
    beside_back courier.table courier.me.0.passes c.args.free.now c.args.held.now
    c.index-held-0.result c.requires.whole
    (some_in c.args.held.now c.is_empty-2.result c.is_empty-2.ensures c.if-not-is_empty-2.true)
    c.send_pinned_courier.ensures.own
