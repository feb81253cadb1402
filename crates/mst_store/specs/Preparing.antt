-- A batch of a pass that is prepared: what the pass knows since it took the turn, and the edits.
use Rattle.std.specs.Prelude.{◌≡◌, ◌≤◌, ℕ, List, Option}
use Rattle.mst_key.specs.declared.history.Edit.{Edit}
use Rattle.mst_words.specs.Access.{Seated}
use Rattle.mst_words.specs.Layout.{most_passes}
use Rattle.mst_versions.specs.declared.parameters.PassParameters.{PassParameters}
use Rattle.mst_batching.specs.declared.preparing.Preparation.{Preparation}
use Rattle.mst_versions.specs.declared.finishing.PublishedTurn.{PublishedTurn}
use Rattle.mst_versions.specs.Known.{Known, known, most_rows}
use Rattle.mst_versions.specs.Revealing.{IsRevealed, closed}
use Rattle.mst_batching.specs.Preparing.{IsPrepared}
use Rattle.mst_store.specs.Passes.{IsAtRest}
pub use Rattle.mst_batching.specs.Preparing.{Prepares, published}

pub record Waiting : Type 0 where
  pub known : Known
  pub edits : List Edit

abbrev pub waiting : ℕ → Option ℕ → List Edit → Seated → Waiting
waiting number made edits s = record { known = known number made s; edits = edits }

-- the edits are made in the turn of the pass, and can be published
pub record IsWaiting {A : Type 0} (n : PassParameters) (edits : List Edit) (p : Preparation A)
    (s : Seated) : Type 0 where
  pub prepared : IsPrepared n.number edits p s.me
  pub passes_is : s.me.0.passes ≡ n.passes
  pub few : n.passes ≤ most_passes
  pub rows_is : s.me.0.rows ≡ n.rows
  pub few_rows : n.rows ≤ most_rows

-- the batch is published, and once the turn is given back the pass has neither that nor a pin
pub record IsClosing {A : Type 0} (n : PassParameters) (r : PublishedTurn A) (s : Seated) : Type 0
  where
    pub revealed : IsRevealed r s.me
    pub rest : IsAtRest n (record s { me = closed s.me })
