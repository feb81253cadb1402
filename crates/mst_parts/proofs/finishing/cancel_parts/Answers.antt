use Rattle.mst_parts.proofs.Names.{◌≡◌, List, ◌∷◌, ◌++◌, [], length, sym, ap, ◌∙◌, subst, arith, deque_items, length-map, Known, AllStep, MakesNothing, Origin, passes_of, goes_on, all_gone, all_step_length}
use Rattle.mst_parts.proofs.Coming.{part_low, part_own}
use Rattle.mst_parts.proofs.Rooms.{room_for_all, room_for_one, one_fewer}
use Rattle.mst_shards.proofs.PinningAll.{all_step_more}
use Rattle.mst_parts.proofs.finishing.cancel_parts.Goals as goal

pub loop-part-init : goal.loop-part-init
loop-part-init g c = (
  room_for_all _ _ _ _ _ c.args.room.ok.0 c.requires.empty c.from_vec-left.ensures.len
      c.requires.fits,
  (
    [],
    sym (ap passes_of c.from_vec-left.ensures.items),
    subst (λ ps. AllStep MakesNothing [] ps) (sym c.requires.empty) tt,
  ),
)

pub bounds-stores-place : goal.bounds-stores-place
bounds-stores-place g c =
    let was = c.loop-part.invariant.1 in
    let long = all_step_length MakesNothing was.0 c.loop-part.passes.items was.2 in
    part_low c.args.stores.now (passes_of c.args.parts.items) was.0
    (deque_items c.loop-part.left) (deque_items c.pop_front.new.self) c.in-Some.part
    c.len-place.result c.requires.own was.1 c.in-Some.ensures.items
    (c.len-place.ensures ∙ c.loop-part.passes.ok.0 ∙ long)

pub offset_bounds-stores-place : goal.offset_bounds-stores-place
offset_bounds-stores-place g c =
    let was = c.loop-part.invariant.1 in
    let long = all_step_length MakesNothing was.0 c.loop-part.passes.items was.2 in
    let low = part_low c.args.stores.now (passes_of c.args.parts.items) was.0
    (deque_items c.loop-part.left) (deque_items c.pop_front.new.self) c.in-Some.part
    c.len-place.result c.requires.own was.1 c.in-Some.ensures.items
    (c.len-place.ensures ∙ c.loop-part.passes.ok.0 ∙ long) in
    omega (arith, low)

pub cancel_part-requires : goal.cancel_part-requires
cancel_part-requires g c =
    let was = c.loop-part.invariant.1 in
    let long = all_step_length MakesNothing was.0 c.loop-part.passes.items was.2 in
    record {
      own = part_own c.args.stores.now (passes_of c.args.parts.items) was.0
          (deque_items c.loop-part.left) (deque_items c.pop_front.new.self) c.in-Some.part
          c.len-place.result c.index-stores-place.result c.requires.own was.1
          c.in-Some.ensures.items (c.len-place.ensures ∙ c.loop-part.passes.ok.0 ∙ long)
          c.index-stores-place.is;
    }

pub push_reserved-requires : goal.push_reserved-requires
push_reserved-requires g c =
    room_for_one _ _ _ _ c.loop-part.invariant.0 c.in-Some.ensures.cases

pub loop-part-smaller : goal.loop-part-smaller
loop-part-smaller g c = one_fewer _ _ c.in-Some.ensures.cases

pub loop-part-preserved : goal.loop-part-preserved
loop-part-preserved g c =
    let fits = c.loop-part.invariant.0 in
    let was = c.loop-part.invariant.1 in
    let popped = c.in-Some.ensures.cases in
    let pushed = c.push_reserved.ensures.len in
    let room = c.push_reserved.ensures.capacity in
    let o : Origin = c.in-Some.part in (
      omega (arith, fits, popped, pushed, room),
      (
        was.0 ++ o.pass ∷ [],
        goes_on (passes_of c.args.parts.items) was.0 (passes_of (deque_items c.loop-part.left))
            (passes_of (deque_items c.pop_front.new.self)) o.pass was.1
            (ap passes_of c.in-Some.ensures.items),
        subst (λ qs. AllStep MakesNothing (was.0 ++ o.pass ∷ []) qs)
            (sym c.push_reserved.ensures.items)
            (all_step_more MakesNothing was.0 c.loop-part.passes.items o.pass c.cancel_part.result
            was.2 c.cancel_part.ensures.nothing),
      ),
    )

pub returns : goal.returns
returns g c =
    let was = c.loop-part.invariant.1 in
    let left : List Origin = deque_items c.loop-part.left in
    let none-left : length left ≡ 0 = sym c.loop-part.left.ok.0
    ∙ c.in_default.ensures.cases.0 in
    record {
      nothing = subst (λ (ps : List Known). AllStep MakesNothing ps c.loop-part.passes.items)
          (all_gone (passes_of c.args.parts.items) was.0 (passes_of left) was.1
          (length-map left (λ (o : Origin). o.pass) ∙ none-left)) was.2;
    }
