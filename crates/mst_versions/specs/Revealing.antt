-- A version that is published while its pass still has the turn.
use Rattle.std.specs.Prelude.{◌≡◌, ◌<◌, true, false, [], ◌∷◌, Option, Some, None}
use Rattle.mst_arena.specs.Lives.{State}
use Rattle.mst_words.specs.declared.view.DeskState.{DeskState}
use Rattle.mst_words.specs.Layout.{most_records}
use Rattle.mst_words.specs.Steps.{IsGiving}
use Rattle.mst_words.specs.Stored.{stored}
use Rattle.mst_versions.specs.declared.finishing.PublishedTurn.{PublishedTurn}
use Rattle.mst_versions.specs.Turns.{SeatState}

-- what the pass has once the mask is moved, and desk and turn are given back
abbrev pub closed : SeatState → SeatState
closed m = (record m.0 { due = None; turn = false }, [])

-- what it has just before it gives the turn back
abbrev pub closing : {A : Type 0} → PublishedTurn A → SeatState → SeatState
closing r m = (record m.0 { due = None }, (0, Some r.desk) ∷ [])

-- The version of the turn is published. The mask of the pins of the record before is still to be
-- moved, and the desk is out of the slot. With these given back, the turn can be too
pub record IsRevealed {A : Type 0} (r : PublishedTurn A) (m : SeatState) : Type 0 where
  pub holder : m.0.turn ≡ true
  pub there : r.old < most_records
  pub due : m.0.due ≡ Some r.old
  pub mask : r.mask ≡ m.0.mask
  pub slot : m.1 ≡ (0, None) ∷ []
  pub giving : (x : Option State) × (d : DeskState)
      × IsGiving (stored m.0.format) x d (closing r m)
