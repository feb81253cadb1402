use Rattle.mst_parts.proofs.Names.{◌≡◌, ◌∙◌, ◌∷◌, ◌++◌, [], List, vec_items, sym, ap, subst, arith, rules, arc_value, AllByRecursion, deque_items, length-map, Edit, Known, Shards, Origin, edits_of, passes_of, IsStoreAt, goes_on, all_gone}
use Rattle.std.proofs.lemmas.List.{nil_from_length}
use Rattle.mst_parts.proofs.Coming.{stands_at, passes_more, edits_more}
use Rattle.mst_parts.proofs.Rooms.{room_for_all, room_for_one, one_fewer, room_still}
use Rattle.mst_parts.proofs.dealing.begin_all.Goals as goal

pub loop-pass-init : goal.loop-pass-init
loop-pass-init g c = (
  room_for_all _ _ _ _ _ c.args.room.ok.0 c.requires.empty c.from_vec-left.ensures.len
      c.requires.fits,
  search rules,
  c.from_vec-waiting.ensures.len ∙ c.requires.dealt ∙ sym c.from_vec-left.ensures.len,
  c.from_vec-sharing.ensures.len ∙ c.requires.shares ∙ sym c.from_vec-left.ensures.len,
  subst (λ (parts : List Origin). vec_items c.args.passes
      ≡ passes_of parts ++ deque_items c.from_vec-left.result) (sym c.requires.empty)
      (sym c.from_vec-left.ensures.items),
  subst (λ (parts : List Origin). vec_items c.args.dealt
      ≡ edits_of parts ++ deque_items c.from_vec-waiting.result) (sym c.requires.empty)
      (sym c.from_vec-waiting.ensures.items),
  subst (AllByRecursion (λ share. arc_value share ≡ c.args.map.now))
      (sym c.from_vec-sharing.ensures.items) c.requires.same,
)

pub begin-requires : goal.begin-requires
begin-requires g c =
    let was = c.loop-pass.invariant in
    let mapped = length-map (vec_items c.loop-pass.parts) (λ (o : Origin). o.pass) in
    let shares = subst (AllByRecursion (λ share. arc_value share ≡ c.args.map.now))
    c.in-Some-pop_front-2.ensures.items was.6 in
    record {
      own = subst (λ (s : Shards). IsStoreAt s.stores c.len-place.result c.in-Some.pass.store)
          (sym shares.0)
          (stands_at c.args.map.now.stores (vec_items c.args.passes)
          (passes_of (vec_items c.loop-pass.parts)) (deque_items c.pop_front.new.self)
          (deque_items c.loop-pass.left) c.in-Some.pass c.len-place.result c.requires.own was.4
          c.in-Some.ensures.items (c.len-place.ensures ∙ c.loop-pass.parts.ok.0 ∙ sym mapped));
    }

pub push_reserved-requires : goal.push_reserved-requires
push_reserved-requires g c =
    room_for_one _ _ _ _ c.loop-pass.invariant.0 c.in-Some.ensures.cases

pub loop-pass-smaller : goal.loop-pass-smaller
loop-pass-smaller g c = one_fewer _ _ c.in-Some.ensures.cases

pub loop-pass-preserved : goal.loop-pass-preserved
loop-pass-preserved g c =
    let was = c.loop-pass.invariant in
    let fits = was.0 in
    let back = was.1 in
    let many = was.2 in
    let shared = was.3 in
    let popped = c.in-Some.ensures.cases in
    let kept = c.in-Some.ensures.capacity in
    let other = c.in-Some-pop_front.ensures.cases in
    let third = c.in-Some-pop_front-2.ensures.cases in
    let pushed = c.push_reserved.ensures.len in
    let room = c.push_reserved.ensures.capacity in
    let parts : List Origin = vec_items c.loop-pass.parts in
    let now : List Origin = vec_items c.push_reserved.new.self in
    let b : Origin = c.begin.result in
    let p : Known = c.in-Some.pass in
    let part : List Edit = c.in-Some-pop_front.part in
    let is : now ≡ parts ++ b ∷ [] = c.push_reserved.ensures.items in
    let left : List Known = deque_items c.pop_front.new.self in
    let waiting : List (List Edit) = deque_items c.pop_front-in-Some.new.self in
    let passes : passes_of now ≡ passes_of parts ++ p ∷ [] =
    ap passes_of is ∙ passes_more parts b
    ∙ ap (λ (o : Origin). passes_of parts ++ o.pass ∷ []) c.begin.ensures.begun in
    let edits : edits_of now ≡ edits_of parts ++ part ∷ [] =
    ap edits_of is ∙ edits_more parts b
    ∙ ap (λ (o : Origin). edits_of parts ++ o.edits ∷ []) c.begin.ensures.begun in (
      omega (arith, fits, popped, pushed, room),
      omega (arith, back, popped, pushed, kept),
      omega (arith, many, popped, other),
      omega (arith, shared, popped, third),
      goes_on (vec_items c.args.passes) (passes_of parts) (deque_items c.loop-pass.left) left p
          was.4 c.in-Some.ensures.items
          ∙ ap (λ (l : List Known). l ++ left) (sym passes),
      goes_on (vec_items c.args.dealt) (edits_of parts) (deque_items c.loop-pass.waiting) waiting
          part was.5 c.in-Some-pop_front.ensures.items
          ∙ ap (λ (l : List (List Edit)). l ++ waiting) (sym edits),
      (subst (AllByRecursion (λ share. arc_value share ≡ c.args.map.now))
          c.in-Some-pop_front-2.ensures.items was.6).1,
    )

pub returns-clause-passes : goal.returns-clause-passes
returns-clause-passes g c =
    let was = c.loop-pass.invariant in
    let empty = c.in_default.ensures.cases.0 in
    all_gone (vec_items c.args.passes) (passes_of (vec_items c.loop-pass.parts))
    (deque_items c.loop-pass.left) was.4 (sym c.loop-pass.left.ok.0 ∙ empty)

pub returns-clause-edits : goal.returns-clause-edits
returns-clause-edits g c =
    let was = c.loop-pass.invariant in
    let empty = c.in_default.ensures.cases.0 in
    all_gone (vec_items c.args.dealt) (edits_of (vec_items c.loop-pass.parts))
    (deque_items c.loop-pass.waiting) was.5 (sym c.loop-pass.waiting.ok.0 ∙ was.2 ∙ empty)

pub returns-clause-empty : goal.returns-clause-empty
returns-clause-empty g c =
    c.into_vec.ensures.items ∙ sym c.in_default.ensures.items
    ∙ nil_from_length (deque_items c.loop-pass.left)
    (sym c.loop-pass.left.ok.0 ∙ c.in_default.ensures.cases.0)

pub returns-clause-room : goal.returns-clause-room
returns-clause-room g c =
    room_still _ _ _ _ c.loop-pass.invariant.1
    (c.into_vec.ensures.capacity ∙ c.in_default.ensures.capacity)
