use Rattle.mst_c.proofs.Names.{rules, arith, ◌≡◌, ◌+◌, ◌<◌, [], ◌∷◌, ◌++◌, length, length-append, Edit}
use Rattle.std.proofs.Common.{◌^◌}
use Rattle.mst_c.proofs.Readings.{begins, next, bad, ends}
use Rattle.mst_c.proofs.packing.count_edits.Goals as goal

pub loop-rest-init : goal.loop-rest-init
loop-rest-init c = ([], search rules, begins c.args.packed.now, omega arith)

pub returns-in-Err-clause-bad : goal.returns-in-Err-clause-bad
returns-in-Err-clause-bad c =
    let was = c.loop-rest.invariant in
    let some : 0 < length c.loop-rest.rest.now = search rules in
    search (
      rules,
      bad c.args.packed.now was.0 c.loop-rest.rest.now was.2 c.in-Err.fault
          c.in-Err.ensures.fault some,
    )

pub loop-rest-smaller : goal.loop-rest-smaller
loop-rest-smaller c = c.in-Ok.ensures.less

pub overflow_add-count : goal.overflow_add-count
overflow_add-count c =
    let low : length c.args.packed.now < 2 ^ 64 = search rules in
    omega (arith, low, c.loop-rest.invariant.3, c.in-Ok.ensures.less)

pub loop-rest-preserved : goal.loop-rest-preserved
loop-rest-preserved c =
    let was = c.loop-rest.invariant in
    let e : Edit = c.in-Ok._edit in
    let more : length (was.0 ++ e ∷ []) ≡ length was.0 + 1 = length-append was.0 (e ∷ []) in (
      was.0 ++ e ∷ [],
      omega (arith, more, was.1),
      next c.args.packed.now was.0 c.loop-rest.rest.now was.2 e c.in-Ok.behind.now
          c.in-Ok.ensures.ok c.in-Ok.ensures.less,
      omega (arith, was.3, c.in-Ok.ensures.less),
    )

pub returns-clause-ok : goal.returns-clause-ok
returns-clause-ok c =
    let was = c.loop-rest.invariant in
    let none : length c.loop-rest.rest.now ≡ 0 = search rules in
    (was.0, ends c.args.packed.now was.0 c.loop-rest.rest.now was.2 none, was.1)
