use Rattle.mst_snapshots.proofs.Names.{◌-◌, vec_items, subst, arc_value, Whole, whole, IsNumber, IsOneBlock}
use Rattle.mst_snapshots.proofs.Kept.{number_is, number_some}
use Rattle.mst_snapshots.proofs.snapshot.Snapshot.number.Goals as goal

pub overflow_sub-result : goal.overflow_sub-result
overflow_sub-result g c =
    number_some (arc_value c.self.inside.map) (vec_items c.self.inside.checks.versions)
    c.self.inside.checks.number (whole (arc_value c.self.inside.map).splits
    (vec_items c.self.inside.pins) c.self.inside.directory) c.self.invariant.0

pub returns : goal.returns
returns g c = record {
  number = subst (λ (w : Whole). IsNumber (c.self.inside.checks.number - 1) w) c.self.view_is
      (number_is (arc_value c.self.inside.map) (vec_items c.self.inside.checks.versions)
      c.self.inside.checks.number (whole (arc_value c.self.inside.map).splits
      (vec_items c.self.inside.pins) c.self.inside.directory) c.self.invariant.0);
  one = subst IsOneBlock c.self.view_is c.self.invariant.0.one;
}
