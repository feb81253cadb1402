use Rattle.mst_arena.proofs.Names.{◌≡◌, ◌+◌, ◌∙◌, ap, sym, refl, ℕ, false, arith, rules, common_steps, elements, slice_get, Free, Born, State, with_life, version}
use Rattle.mst_arena.proofs.DeskLemmas.{desk_life, free_flag, free_life, read_index}
use Rattle.mst_arena.proofs.desk.Desk.take_near.Goals as goal

pub invariant_of-self-2 : goal.invariant_of-self-2
invariant_of-self-2 g c =
    let i = c.self.inside in
    let at = free_life _ _ _ _ _ _ _ _ _ _ _ _ c.self.invariant c.in_ok-row.row
    c.in_ok-row.ensures.some.0
    in
    rw c.in_ok-row.ensures.some.1
    (desk_life _ _ _ _ _ _ _ _ _ _ _ _ c.self.invariant c.in_ok-row.row Free
    (Born (c.index.result.now + 1)) false at refl refl refl)

pub returns-clause-some : goal.returns-clause-some
returns-clause-some g c =
    let at = free_life _ _ _ _ _ _ _ _ _ _ _ _ c.self.invariant c.in_ok-row.row
    c.in_ok-row.ensures.some.0
    in
    let born : c.index.result.now ≡ version c.args.self.now =
    read_index c.self.inside.versions.items c.self.inside.current c.index.result.now
    c.self.invariant.there c.index.ensures ∙ ap version c.self.view_is in (
      ap (λ (s : State). slice_get s.lives c.in_ok-row.row) (sym c.self.view_is) ∙ at,
      ap (λ (s : State). with_life s c.in_ok-row.row (Born (c.index.result.now + 1))) c.self.view_is
          ∙ ap (λ (n : ℕ). with_life c.args.self.now c.in_ok-row.row (Born (n + 1))) born,
    )

pub returns-clause-near : goal.returns-clause-near
returns-clause-near g c is =
    c.in_ok-row.ensures.near
    (free_flag _ _ _ _ _ _ _ _ _ _ _ _ c.self.invariant c.args.row
    (ap (λ (s : State). slice_get s.lives c.args.row) c.self.view_is ∙ is))

pub index-requires : goal.index-requires
index-requires g c = search rules

pub overflow_add-birth : goal.overflow_add-birth
overflow_add-birth g c = grind (arith, common_steps)

pub invariant_of-self : goal.invariant_of-self
invariant_of-self g c = search rules

pub returns-in_err-row-clause-some : goal.returns-in_err-row-clause-some
returns-in_err-row-clause-some g c = search rules

pub returns-in_err-row-clause-none : goal.returns-in_err-row-clause-none
returns-in_err-row-clause-none g c = grind (arith, common_steps)

pub returns-in_err-row-clause-near : goal.returns-in_err-row-clause-near
returns-in_err-row-clause-near g c = search rules

pub overflow_cast-row : goal.overflow_cast-row
overflow_cast-row g c = search rules

pub index_mut-requires : goal.index_mut-requires
index_mut-requires g c = grind (arith, elements)

pub returns-clause-none : goal.returns-clause-none
returns-clause-none g c = search rules
