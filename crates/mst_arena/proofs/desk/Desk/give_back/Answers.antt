use Rattle.mst_arena.proofs.Names.{◌≡◌, ◌∙◌, ap, refl, true, Some, arith, rules, elements, slice_get, Free, Born, State, next}
use Rattle.mst_arena.proofs.DeskLemmas.{desk_life}
use Rattle.mst_arena.proofs.desk.Desk.give_back.Goals as goal

pub invariant_of-self : goal.invariant_of-self
invariant_of-self g c =
    let at : slice_get c.self.inside.lives.items c.args.row ≡ Some (Born (next c.args.self.now)) =
    ap (λ (s : State). slice_get s.lives c.args.row) c.self.view_is ∙ c.requires.taken in
    rw c.put.ensures.put
    (desk_life _ _ _ _ _ _ _ _ _ _ _ _ c.self.invariant c.args.row (Born (next c.args.self.now))
    Free
    true at refl refl refl)

pub index_mut-requires : goal.index_mut-requires
index_mut-requires g c = grind (arith, elements)

pub put-requires : goal.put-requires
put-requires g c = grind (arith, elements)

pub returns : goal.returns
returns g c = search rules
