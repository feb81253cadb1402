use Rattle.mst_snapshots.proofs.Names.{Option, ap, sym, ◌∙◌, unwrap_or, Known, no_pass}
use Rattle.mst_snapshots.proofs.directory_pin.lifted.Goals as goal

pub lift_pinned-requires : goal.lift_pinned-requires
lift_pinned-requires g c = record {
  own = ap (λ (o : Option Known). (unwrap_or o no_pass).store) (sym c.in-Some.is) ∙ c.requires.own;
}
