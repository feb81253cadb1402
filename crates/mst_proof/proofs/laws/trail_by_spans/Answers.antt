use Rattle.mst_proof.proofs.Names.{None, refl, sym, subst, IsAscending, tree, lies_between, between_none, pairs_tree}
use Rattle.mst_proof.proofs.Around.{met_around}
use Rattle.mst_proof.proofs.laws.trail_by_spans.Goals as goal

pub returns : goal.returns
returns c = record {
  trail = λ format m k rise.
      let t = tree format m in
      met_around k None None t refl refl
      (lies_between t None None (subst IsAscending (sym (pairs_tree format m)) rise)
      (between_none _));
}
