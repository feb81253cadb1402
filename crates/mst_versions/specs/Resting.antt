-- A pass between two calls, and the parameters that it knows.
use Rattle.std.specs.Prelude.{◌≡◌, ◌≤◌}
use Rattle.mst_words.specs.Layout.{most_passes}
use Rattle.mst_words.specs.Steps.{IsFree}
use Rattle.mst_versions.specs.declared.parameters.PassParameters.{PassParameters}
use Rattle.mst_versions.specs.Known.{most_rows}
use Rattle.mst_versions.specs.Turns.{SeatState}

-- the pass has no pin and not the turn, and its parameters are those of its seat and its store
pub record IsResting (n : PassParameters) (m : SeatState) : Type 0 where
  pub free : IsFree n.number m
  pub passes_is : m.0.passes ≡ n.passes
  pub few : n.passes ≤ most_passes
  pub rows_is : m.0.rows ≡ n.rows
  pub few_rows : n.rows ≤ most_rows
