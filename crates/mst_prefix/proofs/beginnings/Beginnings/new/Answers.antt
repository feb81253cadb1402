use Rattle.std.proofs.Common.{[], refl, sym, subst, arith}
use Rattle.std.specs.List.{AllByRecursion}
use Rattle.mst_prefix.specs.Kept.{HasNumber}
use Rattle.mst_prefix.proofs.beginnings.Beginnings.new.Goals as goal

pub returns-clause-sound : goal.returns-clause-sound
returns-clause-sound g c = (
  λ n. [],
  record {
    some = omega arith;
    empty = refl;
    beginnings = subst (λ bs. AllByRecursion (HasNumber (λ n. []) 1) bs)
        (sym c.in_ok-new.ensures.empty) tt;
  },
)
