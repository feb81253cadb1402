-- A seat of a pass that is free, as the tests hold it.
use Rattle.std.specs.Prelude.{◌≤◌}
use Rattle.mst_words.specs.Access.{Seated}
use Rattle.mst_versions.specs.declared.parameters.PassParameters.{PassParameters}
use Rattle.mst_versions.specs.Resting.{IsResting}

-- the pass has no pin and not the turn
pub record IsFreeSeat (n : PassParameters) (s : Seated) : Type 0 where
  pub rest : IsResting n s.me
  pub low : n.number ≤ n.passes
