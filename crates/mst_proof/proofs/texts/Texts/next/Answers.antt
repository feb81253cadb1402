use Rattle.mst_proof.proofs.Names.{◌-◌, ◌∙◌, sym, ap, arith, List, ℕ, ◌∷◌}
use Rattle.mst_proof.proofs.Frames.{is_none, texts-step, texts-first, seen_texts, holds_texts}
use Rattle.mst_proof.proofs.texts.Texts.next.Goals as goal

pub returns-then-self-eq0-clause-next : goal.returns-then-self-eq0-clause-next
returns-then-self-eq0-clause-next c =
    let none = sym c.self.view_is ∙ is_none c.self.inside.count c.self.inside.bytes.now
    c.if-self-eq0.true in
    (none, none)

pub unreachable-requires : goal.unreachable-requires
unreachable-requires c = texts-first c.self.inside.count c.self.inside.bytes.now _
    c.self.invariant.1 c.if-self-eq0.false c.in_default.ensures.reading

pub invariant_of-self : goal.invariant_of-self
invariant_of-self c =
    let step = texts-step c.self.inside.count (c.self.inside.count - 1) c.self.inside.bytes.now _
    (c.in-Some.text.now, c.in-Some.rest.now) c.self.invariant.1 (omega arith)
    c.in-Some.ensures.reading in (
      c.self.invariant.0,
      holds_texts (c.self.inside.count - 1) c.in-Some.rest.now step.0
          c.self.invariant.0 step.2,
    )

pub returns-clause-next : goal.returns-clause-next
returns-clause-next c =
    let step = texts-step c.self.inside.count (c.self.inside.count - 1) c.self.inside.bytes.now _
    (c.in-Some.text.now, c.in-Some.rest.now) c.self.invariant.1 (omega arith)
    c.in-Some.ensures.reading in
    let seen = seen_texts (c.self.inside.count - 1) c.in-Some.rest.now step.0 c.self.invariant.0
    step.2 in
    sym c.self.view_is ∙ step.1 ∙ ap (λ (ts : List (List ℕ)). c.in-Some.text.now ∷ ts) (sym seen)

pub returns-clause-bytes : goal.returns-clause-bytes
returns-clause-bytes c = c.in-Some.ensures.bytes
