use Rattle.mst_parts.proofs.Names.{sym, subst, Origin}
use Rattle.mst_parts.specs.Origins.{ComesFrom}
use Rattle.mst_parts.proofs.part.BlockPart.prepare.Goals as goal

pub invariant_of-self : goal.invariant_of-self
invariant_of-self g c =
    let was = c.self.invariant in
    let inside = c.self.inside in
    let origin : Origin = record { pass = inside.pass.value; edits = inside.edits.value } in (
      was.0,
      c.prepare_stage.ensures.comes origin
          (subst (λ t. ComesFrom origin t) (sym c.replace-stage.ensures.value) was.1),
    )
