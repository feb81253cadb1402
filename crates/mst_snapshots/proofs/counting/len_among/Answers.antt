use Rattle.mst_snapshots.proofs.Names.{◌≡◌, List, vec_items, vec_len, ◌∙◌, arith, Known}
use Rattle.mst_snapshots.proofs.Lengths.{counts_on, counts_few, all_counted}
use Rattle.mst_snapshots.proofs.counting.len_among.Goals as goal

pub overflow_add-len : goal.overflow_add-len
overflow_add-len g c =
    let was = c.loop-place.invariant in
    let ps : List Known = vec_items c.args.pins.now in
    let end : c.len-place-end.result ≡ vec_len c.args.pins.now = c.len-place-end.ensures in
    let test = c.loop-place-test.true in
    let few = counts_few ps (vec_items c.loop-place.pins) c.loop-place.place
    (vec_len c.args.pins.now) c.loop-place.len c.len_at-len.result was.0 c.args.pins.now.ok.0
    (omega (arith, test, end)) was.1 c.len_at-len.ensures.found c.requires.few c.requires.most in
    omega (arith, few)

pub loop-place-preserved : goal.loop-place-preserved
loop-place-preserved g c =
    let was = c.loop-place.invariant in
    let ps : List Known = vec_items c.args.pins.now in
    let end : c.len-place-end.result ≡ vec_len c.args.pins.now = c.len-place-end.ensures in
    let test = c.loop-place-test.true in (
      c.len_at-len.ensures.same ∙ was.0,
      counts_on ps (vec_items c.loop-place.pins) c.loop-place.place (vec_len c.args.pins.now)
          c.loop-place.len c.len_at-len.result was.0 c.args.pins.now.ok.0
          (omega (arith, test, end)) was.1 c.len_at-len.ensures.found,
    )

pub returns-clause-sum : goal.returns-clause-sum
returns-clause-sum g c =
    let was = c.loop-place.invariant in
    let end : c.len-place-end.result ≡ vec_len c.args.pins.now = c.len-place-end.ensures in
    let test = c.loop-place-test.false in
    all_counted (vec_items c.args.pins.now) c.loop-place.place (vec_len c.args.pins.now)
    c.loop-place.len c.args.pins.now.ok.0 (omega (arith, test, end)) was.1

pub returns-clause-same : goal.returns-clause-same
returns-clause-same g c = c.loop-place.invariant.0
