use Rattle.mst_arena.proofs.Names.{◌≡◌, ◌∙◌, ap, sym, subst, arith, List, length, inl, inr, Life, swept_life, StayBut, AllOlder}
use Rattle.std.specs.Prelude.{map, vec_capacity}
use Rattle.mst_arena.proofs.SetLemmas.{written}
use Rattle.mst_arena.proofs.DeskLemmas.{move_room, stay_but, held_older, desk_swept, desk_forgot, length_mapped}
use Rattle.mst_arena.proofs.desk.Desk.sweep.Goals as goal

pub look_again-requires : goal.look_again-requires
look_again-requires g c =
    record { room = omega (arith, move_room _ _ _ _ _ _ _ _ _ _ _ _ c.self.invariant) }

pub sweep_dead-requires-clause-others : goal.sweep_dead-requires-clause-others
sweep_dead-requires-clause-others g c =
    let i = c.self.inside in
    let stays : StayBut c.args.live.now i.lives.items c.look_again.new.dead.items =
    stay_but _ _ _ _ _ _ _ _ _ _ _ _ c.self.invariant c.args.live.now c.look_again.new.dead.items
    c.look_again.new.held.items c.look_again.ensures.times
    (rw c.deref.ensures.value at c.look_again.ensures.held) in
    subst (λ (ls : List Life). StayBut c.args.live.now ls c.look_again.new.dead.items)
    (sym c.deref_mut.ensures.value) stays

pub sweep_dead-requires-clause-held : goal.sweep_dead-requires-clause-held
sweep_dead-requires-clause-held g c =
    let i = c.self.inside in
    let older : AllOlder c.args.live.now i.lives.items c.look_again.new.held.items =
    held_older _ _ _ _ _ _ _ _ _ _ _ _ c.self.invariant c.args.live.now c.look_again.new.held.items
    (rw c.deref.ensures.value at c.look_again.ensures.held) in
    subst (λ (ls : List Life). AllOlder c.args.live.now ls c.look_again.new.held.items)
    (sym c.deref_mut.ensures.value) older

pub invariant_of-self : goal.invariant_of-self
invariant_of-self g c =
    let i = c.self.inside in
    let live = c.args.live.now in
    let new = c.sweep_dead.new in
    let is : new.lives ≡ map (swept_life live) i.lives.items = c.sweep_dead.ensures.swept
    ∙ ap (map (swept_life live)) c.deref_mut.ensures.value in
    let len : length new.lives ≡ length i.lives.items = ap (λ (ls : List Life). length ls) is
    ∙ length_mapped (swept_life live) i.lives.items in
    let lives = written i.lives.len new.lives i.lives.items (omega (arith, len)) in
    rw lives (elim c.sweep_dead.ensures.lists [
      | inl e ↦ desk_swept _ _ _ _ _ _ _ _ _ _ _ _ c.self.invariant live new.lives new.free
          new.dead.items
          new.held.items new.last.items (vec_capacity new.dead) (vec_capacity new.held)
          (vec_capacity new.last)
          is c.sweep_dead.ensures.free e.1 e.2 e.0 (e.3 ∙ c.look_again.ensures.dead_room)
          (e.4 ∙ c.look_again.ensures.held_room) c.sweep_dead.ensures.last_room
      | inr e ↦ desk_forgot _ _ _ _ _ _ _ _ _ _ _ _ c.self.invariant live new.lives new.free
          new.dead.items new.held.items new.last.items (vec_capacity new.dead)
          (vec_capacity new.held) (vec_capacity new.last)
          is c.sweep_dead.ensures.free e.0 e.1 (e.2 ∙ c.look_again.ensures.held_room)
          (e.3 ∙ c.look_again.ensures.dead_room) c.sweep_dead.ensures.last_room
    ])
