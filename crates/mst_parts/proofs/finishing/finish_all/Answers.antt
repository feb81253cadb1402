use Rattle.mst_parts.proofs.Names.{◌≡◌, List, ◌∷◌, ◌++◌, [], length, map, refl, sym, ap, ◌∙◌, subst, arith, deque_items, length-map, Edit, Known, AllStep, MakesNothing, Origin, edits_of, passes_of, AllStaged, canceled_stage, Stops, goes_on, all_gone, all_step_length}
use Rattle.std.proofs.lemmas.List.{length-append}
use Rattle.mst_blocks.specs.Staging.{IsStaged}
use Rattle.mst_parts.proofs.Coming.{part_low, part_own}
use Rattle.mst_parts.proofs.Rooms.{room_for_all, room_for_one, one_fewer}
use Rattle.mst_blocks.proofs.Committing.{staged_more, nothing_more, canceled_more, stops_more}
use Rattle.mst_parts.proofs.finishing.finish_all.Goals as goal

pub loop-part-init : goal.loop-part-init
loop-part-init g c = (
  room_for_all _ _ _ _ _ c.args.room.ok.0 c.requires.empty c.from_vec-left.ensures.len
      c.requires.fits,
  (
    [],
    [],
    sym (ap edits_of c.from_vec-left.ensures.items),
    sym (ap passes_of c.from_vec-left.ensures.items),
    (λ none. subst (λ ts. AllStaged [] [] ts) (sym c.requires.empty) tt),
    subst (λ ts. AllStep MakesNothing [] (map canceled_stage ts)) (sym c.requires.empty) tt,
    tt,
    refl,
  ),
)

pub bounds-stores-place : goal.bounds-stores-place
bounds-stores-place g c =
    let was = c.loop-part.invariant.1 in
    let ts = c.loop-part.stages.items in
    let long = all_step_length MakesNothing was.1 (map canceled_stage ts) was.5 in
    let mapped = length-map ts canceled_stage in
    part_low c.args.stores.now (passes_of c.args.parts.items) was.1
    (deque_items c.loop-part.left) (deque_items c.pop_front.new.self) c.in-Some.part
    c.len-place.result c.requires.own was.3 c.in-Some.ensures.items
    (c.len-place.ensures ∙ c.loop-part.stages.ok.0 ∙ sym mapped ∙ long)

pub offset_bounds-stores-place : goal.offset_bounds-stores-place
offset_bounds-stores-place g c =
    let was = c.loop-part.invariant.1 in
    let ts = c.loop-part.stages.items in
    let long = all_step_length MakesNothing was.1 (map canceled_stage ts) was.5 in
    let mapped = length-map ts canceled_stage in
    let low = part_low c.args.stores.now (passes_of c.args.parts.items) was.1
    (deque_items c.loop-part.left) (deque_items c.pop_front.new.self) c.in-Some.part
    c.len-place.result c.requires.own was.3 c.in-Some.ensures.items
    (c.len-place.ensures ∙ c.loop-part.stages.ok.0 ∙ sym mapped ∙ long) in
    omega (arith, low)

pub finish_next-requires : goal.finish_next-requires
finish_next-requires g c =
    let was = c.loop-part.invariant.1 in
    let ts = c.loop-part.stages.items in
    let long = all_step_length MakesNothing was.1 (map canceled_stage ts) was.5 in
    let mapped = length-map ts canceled_stage in
    record {
      own = part_own c.args.stores.now (passes_of c.args.parts.items) was.1
          (deque_items c.loop-part.left) (deque_items c.pop_front.new.self) c.in-Some.part
          c.len-place.result c.index-stores-place.result c.requires.own was.3
          c.in-Some.ensures.items
          (c.len-place.ensures ∙ c.loop-part.stages.ok.0 ∙ sym mapped ∙ long)
          c.index-stores-place.is;
    }

pub push_reserved-requires : goal.push_reserved-requires
push_reserved-requires g c =
    room_for_one _ _ _ _ c.loop-part.invariant.0 c.in-Some.ensures.cases

pub loop-part-smaller : goal.loop-part-smaller
loop-part-smaller g c = one_fewer _ _ c.in-Some.ensures.cases

pub loop-part-preserved : goal.loop-part-preserved
loop-part-preserved g c =
    let fits = c.loop-part.invariant.0 in
    let was = c.loop-part.invariant.1 in
    let popped = c.in-Some.ensures.cases in
    let pushed = c.push_reserved.ensures.len in
    let room = c.push_reserved.ensures.capacity in
    let gone : List (List Edit) = was.0 in
    let front : List Known = was.1 in
    let o : Origin = c.in-Some.part in
    let is = c.push_reserved.ensures.items in
    let same = was.7 in
    let ts = c.loop-part.stages.items in
    let canceled_long : length (map canceled_stage ts) ≡ length front =
    all_step_length MakesNothing front (map canceled_stage ts) was.5 in
    let mapped = length-map ts canceled_stage in
    let place_is : c.len-place.result ≡ length front =
    c.len-place.ensures ∙ c.loop-part.stages.ok.0 ∙ sym mapped ∙ canceled_long in (
      omega (arith, fits, popped, pushed, room),
      (
        gone ++ o.edits ∷ [],
        front ++ o.pass ∷ [],
        goes_on (edits_of c.args.parts.items) gone (edits_of (deque_items c.loop-part.left))
            (edits_of (deque_items c.pop_front.new.self)) o.edits was.2
            (ap edits_of c.in-Some.ensures.items),
        goes_on (passes_of c.args.parts.items) front (passes_of (deque_items c.loop-part.left))
            (passes_of (deque_items c.pop_front.new.self)) o.pass was.3
            (ap passes_of c.in-Some.ensures.items),
        (λ none. subst (λ xs. AllStaged (gone ++ o.edits ∷ []) (front ++ o.pass ∷ []) xs) (sym is)
            (staged_more gone front ts o.edits o.pass c.finish_next.result
            (was.4 (c.finish_next.ensures.none none)) (c.finish_next.ensures.staged none))),
        subst (λ xs. AllStep MakesNothing (front ++ o.pass ∷ []) (map canceled_stage xs)) (sym is)
            (nothing_more front ts o.pass c.finish_next.result was.5 c.finish_next.ensures.left),
        subst (λ xs. Stops c.finish_next.new.stopped (gone ++ o.edits ∷ []) (front ++ o.pass ∷ [])
            (map canceled_stage xs)) (sym is)
            (subst (λ (qs : List Known). Stops c.finish_next.new.stopped (gone ++ o.edits ∷ [])
            (front ++ o.pass ∷ []) qs) (sym (canceled_more ts c.finish_next.result))
            (stops_more c.loop-part.stopped c.finish_next.new.stopped gone front
            (map canceled_stage ts) o.edits o.pass (canceled_stage c.finish_next.result)
            c.len-place.result was.7 canceled_long place_is was.6 c.finish_next.ensures.kept
            c.finish_next.ensures.refused)),
        omega (arith, same, length-append gone (o.edits ∷ []), length-append front (o.pass ∷ [])),
      ),
    )

pub returns : goal.returns
returns g c =
    let was = c.loop-part.invariant.1 in
    let empty = c.in_default.ensures.cases.0 in
    let left : List Origin = deque_items c.loop-part.left in
    let none-left : length left ≡ 0 = sym c.loop-part.left.ok.0 ∙ empty in
    let parts : was.0 ≡ edits_of c.args.parts.items =
    all_gone (edits_of c.args.parts.items) was.0 (edits_of left) was.2
    (length-map left (λ (o : Origin). o.edits) ∙ none-left) in
    let passes : was.1 ≡ passes_of c.args.parts.items =
    all_gone (passes_of c.args.parts.items) was.1 (passes_of left) was.3
    (length-map left (λ (o : Origin). o.pass) ∙ none-left) in
    record {
      staged = subst (λ (ps : List (List Edit)).
          IsStaged c.loop-part.stopped ps (passes_of c.args.parts.items) c.loop-part.stages.items)
          parts
          (subst (λ (qs : List Known).
          IsStaged c.loop-part.stopped was.0 qs c.loop-part.stages.items) passes
          (record { all = was.4; refused = was.6; left = was.5 }));
    }
