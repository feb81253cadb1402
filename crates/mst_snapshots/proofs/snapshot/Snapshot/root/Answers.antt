use Rattle.mst_snapshots.proofs.Names.{◌≡◌, vec_items, rules, sym, ap, subst, ◌∙◌, arc_value, HasShardedRoot, Known, Whole, whole, OfClean, IsSnapshot}
use Rattle.mst_snapshots.proofs.Shown.{root_shown}
use Rattle.mst_snapshots.proofs.snapshot.Snapshot.root.Goals as goal

pub root-requires : goal.root-requires
root-requires g c =
    let are : c.directory.result.now ≡ (arc_value c.self.inside.map).directory = search rules in
    record { own = c.self.invariant.0.directory ∙ sym are }

pub invariant_of-self : goal.invariant_of-self
invariant_of-self g c =
    let was = c.self.invariant in (
      subst (λ (d : Known). IsSnapshot (arc_value c.self.inside.map)
          (vec_items c.self.inside.checks.versions) c.self.inside.checks.number
          (whole (arc_value c.self.inside.map).splits (vec_items c.self.inside.pins) d))
          (sym c.root.ensures.same) was.0,
      was.1,
      was.2,
      was.3,
      was.4,
    )

pub returns-clause-root : goal.returns-clause-root
returns-clause-root g c =
    subst (λ (w : Whole). OfClean (λ f m. HasShardedRoot f m w.sharding.splits c.root.result)
    w.sharding) c.self.view_is
    (root_shown (whole (arc_value c.self.inside.map).splits (vec_items c.self.inside.pins)
    c.self.inside.directory) c.root.result c.self.invariant.0.one c.root.ensures.found)

pub returns-clause-same : goal.returns-clause-same
returns-clause-same g c =
    ap (λ (d : Known). whole (arc_value c.self.inside.map).splits (vec_items c.self.inside.pins) d)
    c.root.ensures.same ∙ c.self.view_is
