use Rattle.mst_snapshots.proofs.Names.{◌≡◌, ◌+◌, ◌≤◌, ◌&&◌, ℕ, List, Some, find, length, slice_get, vec_items, rules, arith, ◌∙◌, subst, option_copied, after, Pair, from_on, below, Known, union_from, pass_at}
use Rattle.mst_shards.proofs.Steps.{first_some, first_none, first_end}
use Rattle.mst_snapshots.proofs.Staying.{read_at, low_at_place, there_is, own_still}
use Rattle.mst_snapshots.proofs.ranging.first_behind.Goals as goal

pub first_within_at-found-requires-clause-there : goal.first_within_at-found-requires-clause-there
first_within_at-found-requires-clause-there g c =
    there_is c.args.splits.now (vec_items c.args.pins.now) (vec_items c.loop-next.pins)
    c.loop-next.next _ c.requires.sharding c.loop-next.invariant.0 c.loop-next.pins.ok.0
    (search rules)

pub first_within_at-found-requires-clause-own : goal.first_within_at-found-requires-clause-own
first_within_at-found-requires-clause-own g c =
    own_still c.args.stores.now (vec_items c.args.pins.now) (vec_items c.loop-next.pins)
    c.loop-next.invariant.0 c.requires.own

pub returns-in-Some-clause-found : goal.returns-in-Some-clause-found
returns-in-Some-clause-found g c =
    let was = c.loop-next.invariant in
    let ps : List Known = vec_items c.args.pins.now in
    let i : ℕ = c.loop-next.next in
    let more : c.loop-next.next ≤ length c.args.splits.now = search rules in
    let low = low_at_place c.args.splits.now ps i c.requires.sharding more in
    first_some c.args.splits.now ps i c.index-splits-next.result (option_copied c.high_key.result)
    (pass_at ps i) c.first_within_at-found.result
    (slice_get (union_from (c.args.place + 1) c.args.splits.now ps) 0) c.in-Some.pair
    c.requires.sharding was.2 low c.index-splits-next.is c.high_key.ensures.high (read_at ps i low)
    (subst (λ (qs : List Known). c.first_within_at-found.result
    ≡ find (λ (q : Pair). from_on (Some c.index-splits-next.result) q.0
    && below (option_copied c.high_key.result) q.0) (after (pass_at qs i).seen)) was.0
    c.first_within_at-found.ensures.found) c.in-Some.is was.1

pub returns-in-Some-clause-same : goal.returns-in-Some-clause-same
returns-in-Some-clause-same g c =
    c.first_within_at-found.ensures.same ∙ c.loop-next.invariant.0

pub loop-next-preserved : goal.loop-next-preserved
loop-next-preserved g c =
    let was = c.loop-next.invariant in
    let ps : List Known = vec_items c.args.pins.now in
    let i : ℕ = c.loop-next.next in
    let more : c.loop-next.next ≤ length c.args.splits.now = search rules in
    let low = low_at_place c.args.splits.now ps i c.requires.sharding more in (
      c.first_within_at-found.ensures.same ∙ was.0,
      first_none c.args.splits.now ps i c.index-splits-next.result (option_copied c.high_key.result)
          (pass_at ps i) c.first_within_at-found.result
          (slice_get (union_from (c.args.place + 1) c.args.splits.now ps) 0)
          c.requires.sharding was.2 low c.index-splits-next.is c.high_key.ensures.high
          (read_at ps i low)
          (subst (λ (qs : List Known). c.first_within_at-found.result
          ≡ find (λ (q : Pair). from_on (Some c.index-splits-next.result) q.0
          && below (option_copied c.high_key.result) q.0) (after (pass_at qs i).seen)) was.0
          c.first_within_at-found.ensures.found) c.in_default.is was.1,
      omega arith,
    )

pub returns-clause-found : goal.returns-clause-found
returns-clause-found g c =
    let was = c.loop-next.invariant in
    let ps : List Known = vec_items c.args.pins.now in
    let count : length ps ≡ length c.args.splits.now + 1 = c.requires.sharding.count in
    let past : length c.args.splits.now + 1 ≤ c.loop-next.next = search rules in
    first_end c.args.splits.now ps c.loop-next.next
    (slice_get (union_from (c.args.place + 1) c.args.splits.now ps) 0)
    (omega (arith, count, past)) was.1
