use Rattle.mst_blocks.proofs.Names.{◌≡◌, List, ◌∷◌, ◌++◌, [], length, map, refl, sym, ◌∙◌, subst, arith, rules, deque_items, length-append, length-map, Edit, Known, AllStep, MakesNothing, AllStaged, canceled_stage, all_step_length}
use Rattle.mst_blocks.proofs.Committing.{staged_more, nothing_more, canceled_more, Stops, stops_more}
use Rattle.mst_shards.proofs.HandingOut.{goes_on, all_gone}
use Rattle.mst_blocks.proofs.blocks.prepare_all.Goals as goal

pub loop-pass-init : goal.loop-pass-init
loop-pass-init g c = (
  search rules,
  search rules,
  c.from_vec-waiting.ensures.len ∙ c.requires.count ∙ sym c.from_vec-left.ensures.len,
  (
    [],
    [],
    sym c.from_vec-waiting.ensures.items,
    sym c.from_vec-left.ensures.items,
    (λ none. subst (λ ts. AllStaged [] [] ts) (sym c.requires.empty) tt),
    subst (λ ts. AllStep MakesNothing [] (map canceled_stage ts)) (sym c.requires.empty) tt,
    tt,
    refl,
  ),
)

pub loop-pass-preserved : goal.loop-pass-preserved
loop-pass-preserved g c =
    let was = c.loop-pass.invariant in
    let fits = was.0 in
    let back = was.1 in
    let many = was.2 in
    let popped = c.in-Some.ensures.cases in
    let kept = c.in-Some.ensures.capacity in
    let other = c.in-Some-pop_front.ensures.cases in
    let pushed = c.push_reserved.ensures.len in
    let room = c.push_reserved.ensures.capacity in
    let gone : List (List Edit) = was.3.0 in
    let front : List Known = was.3.1 in
    let p : Known = c.in-Some.pass in
    let part : List Edit = c.in-Some-pop_front.part in
    let is = c.push_reserved.ensures.items in
    let same = was.3.7 in
    let canceled_long : length (map canceled_stage c.loop-pass.stages.items) ≡ length front =
    all_step_length MakesNothing front (map canceled_stage c.loop-pass.stages.items) was.3.5 in
    let mapped = length-map c.loop-pass.stages.items canceled_stage in
    let place_is : c.len-place.result ≡ length front =
    omega (arith, canceled_long, mapped, c.loop-pass.stages.ok.0) in (
      omega (arith, fits, popped, pushed, room),
      omega (arith, back, popped, pushed, kept),
      omega (arith, many, popped, other),
      (
        gone ++ part ∷ [],
        front ++ p ∷ [],
        goes_on c.args.parts.items gone (deque_items c.loop-pass.waiting)
            (deque_items c.pop_front-in-Some.new.self) part was.3.2
            c.in-Some-pop_front.ensures.items,
        goes_on c.args.passes.items front (deque_items c.loop-pass.left)
            (deque_items c.pop_front.new.self) p was.3.3 c.in-Some.ensures.items,
        (λ none. subst (λ ts. AllStaged (gone ++ part ∷ []) (front ++ p ∷ []) ts) (sym is)
            (staged_more gone front c.loop-pass.stages.items part p c.stage_next.result
            (was.3.4 (c.stage_next.ensures.none none)) (c.stage_next.ensures.staged none))),
        subst (λ ts. AllStep MakesNothing (front ++ p ∷ []) (map canceled_stage ts)) (sym is)
            (nothing_more front c.loop-pass.stages.items p c.stage_next.result was.3.5
            c.stage_next.ensures.left),
        subst (λ ts. Stops c.stage_next.new.stopped (gone ++ part ∷ []) (front ++ p ∷ [])
            (map canceled_stage ts)) (sym is)
            (subst (λ (qs : List Known). Stops c.stage_next.new.stopped (gone ++ part ∷ [])
            (front ++ p ∷ []) qs) (sym (canceled_more c.loop-pass.stages.items c.stage_next.result))
            (stops_more c.loop-pass.stopped c.stage_next.new.stopped gone front
            (map canceled_stage c.loop-pass.stages.items) part p
            (canceled_stage c.stage_next.result) c.len-place.result was.3.7 canceled_long
            place_is was.3.6 c.stage_next.ensures.kept c.stage_next.ensures.refused)),
        omega (arith, same, length-append gone (part ∷ []), length-append front (p ∷ [])),
      ),
    )

pub returns-clause-all : goal.returns-clause-all
returns-clause-all g c none =
    let was = c.loop-pass.invariant in
    let empty = c.in_default.ensures.cases.0 in
    let parts = all_gone c.args.parts.items was.3.0 (deque_items c.loop-pass.waiting) was.3.2
    (sym c.loop-pass.waiting.ok.0 ∙ was.2 ∙ empty) in
    let passes = all_gone c.args.passes.items was.3.1 (deque_items c.loop-pass.left) was.3.3
    (sym c.loop-pass.left.ok.0 ∙ empty) in
    subst (λ (ps : List (List Edit)). AllStaged ps c.args.passes.items c.loop-pass.stages.items)
    parts
    (subst (λ (qs : List Known). AllStaged was.3.0 qs c.loop-pass.stages.items) passes
    (was.3.4 none))

pub returns-clause-left : goal.returns-clause-left
returns-clause-left g c =
    let was = c.loop-pass.invariant in
    let empty = c.in_default.ensures.cases.0 in
    let passes = all_gone c.args.passes.items was.3.1 (deque_items c.loop-pass.left) was.3.3
    (sym c.loop-pass.left.ok.0 ∙ empty) in
    subst (λ (qs : List Known). AllStep MakesNothing qs (map canceled_stage
    c.loop-pass.stages.items)) passes was.3.5

pub returns-clause-refused : goal.returns-clause-refused
returns-clause-refused g c =
    let was = c.loop-pass.invariant in
    let empty = c.in_default.ensures.cases.0 in
    let parts = all_gone c.args.parts.items was.3.0 (deque_items c.loop-pass.waiting) was.3.2
    (sym c.loop-pass.waiting.ok.0 ∙ was.2 ∙ empty) in
    let passes = all_gone c.args.passes.items was.3.1 (deque_items c.loop-pass.left) was.3.3
    (sym c.loop-pass.left.ok.0 ∙ empty) in
    subst (λ (ps : List (List Edit)). Stops c.loop-pass.stopped ps c.args.passes.items
    (map canceled_stage c.loop-pass.stages.items)) parts
    (subst (λ (qs : List Known). Stops c.loop-pass.stopped was.3.0 qs
    (map canceled_stage c.loop-pass.stages.items)) passes was.3.6)
