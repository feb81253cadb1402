use Rattle.mst_sharded_script.proofs.Names.{◌≡◌, ◌∷◌, ◌++◌, [], ◌<◌, List, length, vec_items, vec_len, rules, refl, sym, ap, ◌∙◌, arith, append-nil, into_iter_items, into_iter_len, deque_items, Whole, goes_on, all_gone, PassState, with_readers}
use Rattle.std.proofs.Common.{length-append}
use Rattle.mst_sharded_script.proofs.Giving.{gives_more, all_given}
use Rattle.mst_sharded_script.proofs.state.give_readers.Goals as goal

pub loop-reader-init : goal.loop-reader-init
loop-reader-init g c =
    let gives = c.into_iter-reader-iterator.ensures.into_iter_gives in
    let long : into_iter_len c.into_iter-reader-iterator.result ≡ vec_len c.args.readers =
    search rules in
    let count = c.requires.count in
    let passes = c.args.passes.ok in
    let queue = c.from_vec-given.ensures.len in
    let room = c.from_vec-given.ensures.capacity in (
      [],
      [],
      vec_items c.args.passes,
      sym gives.0,
      refl,
      c.from_vec-given.ensures.items ∙ sym (append-nil (vec_items c.args.passes)),
      refl,
      omega (arith, long, count, passes.0),
      queue,
      omega (arith, queue, room, passes.1),
      omega (arith, long, count),
    )

pub loop-reader-preserved : goal.loop-reader-preserved
loop-reader-preserved g c =
    let was = c.loop-reader.invariant in
    let done : List Whole = was.0 in
    let front : List PassState = was.1 in
    let rest : List PassState = was.2 in
    let r : Whole = c.in-Some.reader in
    let p : PassState = c.in-Some-pop_front.pass in
    let step = c.in-Some.ensures.steps in
    let waits = was.7 in
    let some : 0 < length rest = omega (arith, waits, step.1) in
    let popped = c.in-Some-pop_front.ensures.cases in
    let kept = c.in-Some-pop_front.ensures.capacity in
    let pushed = c.push_back_reserved.ensures.len in
    let room = c.push_back_reserved.ensures.capacity in
    let queue = was.8 in
    let fits = was.9 in
    let count = was.10 in
    let same = was.6 in
    let more = gives_more (vec_items c.args.passes) (deque_items c.loop-reader.given)
    (deque_items c.pop_front.new.self) (deque_items c.push_back_reserved.new.self) done front rest
    r p c.with_reader.result same was.4 was.5 some c.in-Some-pop_front.ensures.items
    c.with_reader.ensures c.push_back_reserved.ensures.items in
    let done_more = length-append done (r ∷ []) in
    let front_more = length-append front (p ∷ []) in
    let fewer = more.3 in (
      done ++ r ∷ [],
      front ++ p ∷ [],
      more.0,
      goes_on (vec_items c.args.readers) done (into_iter_items c.loop-reader.reader-iterator)
          (into_iter_items c.next.new.self) r was.3 step.0,
      more.1,
      more.2,
      omega (arith, same, done_more, front_more),
      omega (arith, fewer, waits, step.1),
      omega (arith, popped, pushed, queue),
      omega (arith, popped, pushed, kept, room, fits),
      omega (arith, count, step.1, done_more),
    )

pub returns-clause-given : goal.returns-clause-given
returns-clause-given g c =
    let was = c.loop-reader.invariant in
    let none : into_iter_len c.loop-reader.reader-iterator ≡ 0 = search rules in
    let waits = was.7 in
    let all = all_gone (vec_items c.args.readers) was.0
    (into_iter_items c.loop-reader.reader-iterator) was.3 (search rules) in
    c.into_vec.ensures.items
    ∙ all_given (vec_items c.args.passes) (deque_items c.loop-reader.given) was.0 was.1 was.2 was.4
    was.5 (omega (arith, none, waits))
    ∙ ap (λ (l : List Whole). with_readers l (vec_items c.args.passes)) all

pub returns-clause-len : goal.returns-clause-len
returns-clause-len g c = c.into_vec.ensures.len ∙ c.loop-reader.invariant.8
