use Rattle.mst_words.proofs.Names.{rules, ◌≡◌, ◌∷◌, [], List, ℕ, ap, sym, ◌∙◌, Some, Option, rest}
use Rattle.mst_arena.specs.Lives.{State}
use Rattle.mst_words.proofs.seat.PassSeat.take_desk.Goals as goal

pub exchange-requires : goal.exchange-requires
exchange-requires g c =
    let h : (d : State) × (c.self.inside.token.me.1 ≡ (0, Some d) ∷ []) = search rules in (
      search rules,
      (
        Some h.0,
        h.1 ∙ ap (λ (l : List (ℕ × Option State)). (0, Some h.0) ∷ rest l) (sym h.1),
      ),
    )

pub unreachable-requires : goal.unreachable-requires
unreachable-requires g c = search rules

pub unreachable-unreachable : goal.unreachable-unreachable
unreachable-unreachable g c = search rules

pub returns-clause-same : goal.returns-clause-same
returns-clause-same g c = search rules

pub returns-clause-desk : goal.returns-clause-desk
returns-clause-desk g c = search rules

pub returns-clause-left : goal.returns-clause-left
returns-clause-left g c = search rules

pub invariant_of-self : goal.invariant_of-self
invariant_of-self g c = search rules
