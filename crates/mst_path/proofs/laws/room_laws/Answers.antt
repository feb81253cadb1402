use Rattle.mst_path.proofs.lemmas.versions.KeptRoom.{held_free}
use Rattle.mst_path.proofs.laws.room_laws.Goals as goal

pub returns : goal.returns
returns c =
    record {
      held = λ first s h live settled now places. held_free first s h live settled now places;
    }
