use Rattle.mst_snapshots.proofs.Names.{◌≡◌, ◌-◌, ◌<◌, ◌≤◌, ◌++◌, ℕ, List, length, vec_items, rules, arith, refl, ◌∙◌, subst, option_copied, after, map_range, Known, pass_at}
use Rattle.mst_shards.proofs.Steps.{ranged_none, ranged_more, ranged_done}
use Rattle.mst_snapshots.proofs.Staying.{read_at, low_at_place, there_is, own_still}
use Rattle.mst_snapshots.proofs.ranging.range_among.Goals as goal

pub loop-place-init : goal.loop-place-init
loop-place-init g c = (
  refl,
  ranged_none c.args.limit c.args.splits.now (vec_items c.args.pins.now)
      (option_copied c.args.from) (option_copied c.args.to) c.new-found.result.items
      c.first_place-place.result c.requires.sharding c.first_place-place.ensures.place
      c.new-found.ensures.items,
)

pub append_between_at-requires-clause-there : goal.append_between_at-requires-clause-there
append_between_at-requires-clause-there g c =
    let last = c.last_place-last.ensures.within in
    let go_on : c.loop-place.place ≤ c.last_place-last.result = search rules in
    there_is c.args.splits.now (vec_items c.args.pins.now) (vec_items c.loop-place.pins)
    c.loop-place.place _ c.requires.sharding c.loop-place.invariant.0 c.loop-place.pins.ok.0
    (omega (arith, last, go_on))

pub append_between_at-requires-clause-own : goal.append_between_at-requires-clause-own
append_between_at-requires-clause-own g c =
    own_still c.args.stores.now (vec_items c.args.pins.now) (vec_items c.loop-place.pins)
    c.loop-place.invariant.0 c.requires.own

pub loop-place-preserved : goal.loop-place-preserved
loop-place-preserved g c =
    let was = c.loop-place.invariant in
    let ps : List Known = vec_items c.args.pins.now in
    let i : ℕ = c.loop-place.place in
    let last = c.last_place-last.ensures.within in
    let go_on : c.loop-place.place ≤ c.last_place-last.result = search rules in
    let within : c.loop-place.place ≤ length c.args.splits.now = omega (arith, last, go_on) in
    let low = low_at_place c.args.splits.now ps i c.requires.sharding within in (
      c.in_ok-append_between_at.ensures.same ∙ was.0,
      ranged_more c.args.limit c.args.splits.now ps (option_copied c.args.from)
          (option_copied c.args.to) (option_copied c.greater-low.result)
          (option_copied c.lesser-high.result) (option_copied c.high_key.result)
          c.loop-place.found.items c.append_between_at.new.found.items i (pass_at ps i)
          c.requires.sharding c.requires.maps within c.high_key.ensures.high (search rules)
          (search rules) (read_at ps i low) was.1
          (subst (λ (qs : List Known). c.append_between_at.new.found.items
          ≡ c.loop-place.found.items ++ map_range (after (pass_at qs i).seen)
          (option_copied c.greater-low.result) (option_copied c.lesser-high.result)
          (c.args.limit - length c.loop-place.found.items)) was.0
          c.in_ok-append_between_at.ensures.appended),
    )

pub returns-clause-found : goal.returns-clause-found
returns-clause-found g c =
    let was = c.loop-place.invariant in
    let past : c.last_place-last.result < c.loop-place.place = search rules in
    ranged_done c.args.limit c.args.splits.now (vec_items c.args.pins.now)
    (option_copied c.args.from) (option_copied c.args.to) c.loop-place.found.items
    c.loop-place.place c.last_place-last.result c.requires.sharding
    c.last_place-last.ensures.place past was.1
