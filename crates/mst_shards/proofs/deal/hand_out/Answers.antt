use Rattle.mst_shards.proofs.Names.{◌≡◌, ℕ, ◌<◌, ◌∷◌, ◌++◌, [], List, length, vec_items, rules, arith, ap, ◌∙◌, length-append, length-set, into_iter_items, Known, Dealt, dealt_more}
use Rattle.mst_shards.proofs.HandingOut.{goes_on, next_at}
use Rattle.mst_shards.proofs.Dealing.{lot_more, lots_done, lots_left}
use Rattle.mst_shards.proofs.deal.hand_out.Goals as goal

pub loop-pass-preserved : goal.loop-pass-preserved
loop-pass-preserved g c =
    let was = c.loop-pass.invariant in
    let n : ℕ = c.loop-pass.place in
    let p : Known = c.in-Some.pass in
    let lots : List Dealt = vec_items c.loop-pass.lots in
    let olds : List Dealt = vec_items c.args.lots.now in
    let all : List Known = vec_items c.args.passes in
    let lot : Dealt = c.index_mut.result.now in
    let grown : Dealt = c.push.new.self in
    let low : c.loop-pass.place < length (vec_items c.loop-pass.lots) = search rules in
    let rest : into_iter_items c.loop-pass.pass-iterator
    ≡ c.in-Some.pass ∷ into_iter_items c.next.new.self =
    c.in-Some.ensures.steps.0 in
    let pushed : c.push.new.self ≡ dealt_more c.index_mut.result.now c.in-Some.pass =
    c.in_ok-push.ensures.pushed in
    let step = c.in-Some.ensures.steps.1 in
    let left = was.0 in
    let front : List Known = was.2.0 in
    let long = length-append front (p ∷ []) in
    let is_long : length front ≡ n = was.2.2 in
    let one = lot_more lots olds all n p lot grown low c.index_mut.ensures.value
    (λ d. was.4 n d (omega arith))
    (λ e. next_at all front (into_iter_items c.next.new.self) p n e
    (was.2.1 ∙ ap (λ (l : List Known). front ++ l) rest) is_long) pushed in (
      omega (arith, step, left),
      length-set lots n grown ∙ was.1,
      (
        front ++ p ∷ [],
        goes_on all front (into_iter_items c.loop-pass.pass-iterator)
            (into_iter_items c.next.new.self) p was.2.1 rest,
        omega (arith, long, is_long),
      ),
      lots_done lots olds all n grown low one was.3,
      lots_left lots olds n grown was.4,
    )
