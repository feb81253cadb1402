use Rattle.mst_snapshots.proofs.Names.{◌≡◌, vec_items, rules, sym, ap, subst, ◌∙◌, arc_value, Format, Known, Whole, whole, AllIn, IsSnapshot}
use Rattle.mst_snapshots.proofs.Shown.{format_shown}
use Rattle.mst_snapshots.proofs.snapshot.Snapshot.format.Goals as goal

pub format-requires : goal.format-requires
format-requires g c =
    let are : c.directory.result.now ≡ (arc_value c.self.inside.map).directory = search rules in
    record { own = c.self.invariant.0.directory ∙ sym are }

pub invariant_of-self : goal.invariant_of-self
invariant_of-self g c =
    let was = c.self.invariant in (
      subst (λ (d : Known). IsSnapshot (arc_value c.self.inside.map)
          (vec_items c.self.inside.checks.versions) c.self.inside.checks.number
          (whole (arc_value c.self.inside.map).splits (vec_items c.self.inside.pins) d))
          (sym c.format.ensures.same) was.0,
      was.1,
      was.2,
      was.3,
      was.4,
    )

pub returns-clause-format : goal.returns-clause-format
returns-clause-format g c =
    subst (λ (w : Whole). AllIn c.format.result w.sharding) c.self.view_is
    (subst (λ (f : Format). AllIn f (whole (arc_value c.self.inside.map).splits
    (vec_items c.self.inside.pins) c.self.inside.directory).sharding)
    (sym c.format.ensures.found)
    (format_shown (whole (arc_value c.self.inside.map).splits (vec_items c.self.inside.pins)
    c.self.inside.directory) c.self.invariant.0.one))

pub returns-clause-same : goal.returns-clause-same
returns-clause-same g c =
    ap (λ (d : Known). whole (arc_value c.self.inside.map).splits (vec_items c.self.inside.pins) d)
    c.format.ensures.same ∙ c.self.view_is
