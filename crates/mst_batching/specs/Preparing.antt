-- A batch that is prepared: its edits are made in free rows, and not yet published.
use Rattle.std.specs.Prelude.{◌≡◌, ◌+◌, ◌<◌, ◌≤◌, ℕ, List, [], ◌∷◌, ◌++◌, length, Some}
use Rattle.mst_key.specs.declared.history.Change.TheVariants.{Batch}
use Rattle.mst_key.specs.declared.history.Edit.{Edit}
use Rattle.mst_key.specs.declared.history.Event.{Event}
use Rattle.mst_key.specs.History.{after, format_after, events_of}
use Rattle.mst_arena.specs.Lives.{last_version}
use Rattle.mst_words.specs.Notes.{IsOfPasses}
use Rattle.mst_batching.specs.declared.preparing.Preparation.{Preparation}
use Rattle.mst_versions.specs.Known.{Known, Looks, made_by}
use Rattle.mst_versions.specs.Turns.{SeatState, HasMade, IsFilled}
use Rattle.mst_versions.specs.Writes.{HasRoom, FindsRoom}

-- the event of a batch of the pass with this number
abbrev pub batch_of : ℕ → List Edit → Event
batch_of number edits = record { pass = number; change = Batch edits }

-- The pass with this number has the turn, the edits are made in free rows, and the record of the
-- version to come is filled: that version can be published. Its events in what it has seen are its
-- own, and each event is of a pass of the store
pub record IsPrepared {A : Type 0} (number : ℕ) (edits : List Edit) (p : Preparation A)
    (m : SeatState) : Type 0 where
  pub dealt : (0 < number) × (number ≤ m.0.passes)
  pub made : HasMade p.turn p.root p.turn.format (batch_of number edits) m
  pub filled : IsFilled p.turn p.root p.turn.format m
  pub own : events_of number m.0.seen ≡ m.0.mine
  pub alone : IsOfPasses m.0.passes m.0.seen

-- A pass took the turn, after one try, and made the edits in free rows. It has now seen the whole
-- history, and nothing was added to that. The batch found room next to the versions that were found
-- pinned. Each record but the current one was asked once
pub record Prepares (edits : List Edit) (p q : Known) : Type 0 where
  pub looks : Looks p q
  pub dealt : (0 < q.number) × (q.number ≤ q.store.passes)
  pub numbered : length q.seen < last_version
  pub room : HasRoom p.store.rows (format_after p.store.format q.seen) (after q.seen) (Batch edits)
  pub beside : FindsRoom p.store.format p.store.rows p.store.passes q.seen q.found (Batch edits)
  pub asked : q.asked ≡ p.asked + p.store.passes + 2

-- What a pass knows once it has published what it prepared: the history that it had seen has the
-- batch as its next event, and no other. One step was counted, the publication
abbrev pub published : List Edit → Known → Known
published edits p = record p {
  seen = p.seen ++ made_by p (Batch edits) ∷ [];
  mine = p.mine ++ made_by p (Batch edits) ∷ [];
  asked = p.asked + 1;
  made = Some (length (p.seen ++ made_by p (Batch edits) ∷ []));
}
