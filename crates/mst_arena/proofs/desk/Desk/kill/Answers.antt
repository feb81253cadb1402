use Rattle.mst_arena.proofs.Names.{◌≡◌, ◌+◌, ◌∙◌, ap, sym, arith, ℕ, Some, Option, rules, common_steps, elements, slice_get, Life, Born, Dead, State, next, version, with_life}
use Rattle.mst_arena.specs.Lives.{ended_life}
use Rattle.mst_arena.proofs.DeskLemmas.{desk_kill, kill_room, read_is, read_index}
use Rattle.mst_arena.proofs.desk.Desk.kill.Goals as goal

pub push_reserved-requires : goal.push_reserved-requires
push_reserved-requires g c =
    let i = c.self.inside in
    let at : slice_get i.lives.items c.args.row ≡ Some (Born c.requires.born.0) =
    ap (λ (s : State). slice_get s.lives c.args.row) c.self.view_is ∙ c.requires.born.1 in
    omega (
      arith,
      kill_room _ _ _ _ _ _ _ _ _ _ _ _ c.self.invariant c.args.row c.requires.born.0 0
          at,
    )

pub invariant_of-self : goal.invariant_of-self
invariant_of-self g c =
    let i = c.self.inside in
    let at : slice_get i.lives.items c.args.row ≡ Some (Born c.requires.born.0) =
    ap (λ (s : State). slice_get s.lives c.args.row) c.self.view_is ∙ c.requires.born.1 in
    let same : Born c.requires.born.0 ≡ Born c.in-Born.birth =
    sym (read_is i.lives.items c.args.row (Born c.requires.born.0) c.index-2.result.now
    c.index-2.ensures at) ∙ c.in-Born.is in
    let k = desk_kill _ _ _ _ _ _ _ _ _ _ _ _ c.self.invariant c.args.row c.in-Born.birth
    (c.index.result.now + 1) (at ∙ ap Some same) in
    rw (c.push_reserved.ensures.items, c.push_reserved.ensures.capacity) k

pub unreachable-requires : goal.unreachable-requires
unreachable-requires g c =
    let i = c.self.inside in
    let at : slice_get i.lives.items c.args.row ≡ Some (Born c.requires.born.0) =
    ap (λ (s : State). slice_get s.lives c.args.row) c.self.view_is ∙ c.requires.born.1 in
    c.in_default.not-Born c.requires.born.0
    (read_is i.lives.items c.args.row (Born c.requires.born.0) c.index-2.result.now
    c.index-2.ensures at)

pub returns : goal.returns
returns g c =
    let i = c.self.inside in
    let b = c.requires.born.0 in
    let at : slice_get i.lives.items c.args.row ≡ Some (Born b) =
    ap (λ (s : State). slice_get s.lives c.args.row) c.self.view_is ∙ c.requires.born.1 in
    let same : Born c.in-Born.birth ≡ Born b = sym c.in-Born.is ∙ read_is i.lives.items c.args.row
    (Born b) c.index-2.result.now c.index-2.ensures at in
    let birth : c.in-Born.birth ≡ b = cc in
    let dies : c.index.result.now ≡ version c.args.self.now =
    read_index i.versions.items i.current c.index.result.now c.self.invariant.there
    c.index.ensures ∙ ap version c.self.view_is in
    record {
      dead =
          ap (λ (s : State). with_life s c.args.row (Dead c.in-Born.birth (c.index.result.now + 1)))
          c.self.view_is
          ∙ ap (λ (n : ℕ). with_life c.args.self.now c.args.row (Dead n (c.index.result.now + 1)))
          birth
          ∙ ap (λ (n : ℕ). with_life c.args.self.now c.args.row (Dead b (n + 1))) dies
          ∙ ap (λ (o : Option Life). with_life c.args.self.now c.args.row
          (ended_life (next c.args.self.now) o)) (sym c.requires.born.1);
    }

pub index-requires : goal.index-requires
index-requires g c = search rules

pub overflow_add-death : goal.overflow_add-death
overflow_add-death g c = grind (arith, common_steps)

pub index-requires-2 : goal.index-requires-2
index-requires-2 g c = grind (arith, elements)

pub index_mut-requires : goal.index_mut-requires
index_mut-requires g c = grind (arith, elements)

pub same-self : goal.same-self
same-self g c = search rules

pub unreachable-unreachable : goal.unreachable-unreachable
unreachable-unreachable g c = search rules
