-- What a write that waits for the turn says: after some tries at which another pass had the turn,
-- it is as one that tries once.
use Rattle.std.specs.Prelude.{◌≡◌, ℕ, List}
use Rattle.mst_key.specs.declared.history.Change.{Change}
use Rattle.mst_key.specs.declared.history.Edit.{Edit}
use Rattle.mst_key.specs.declared.history.Event.{Event}
use Rattle.mst_key.specs.History.{Reply}
use Rattle.mst_versions.specs.declared.faults.WriteFault.{WriteFault}
use Rattle.mst_versions.specs.declared.faults.WriteFault.TheVariants as tried
use Rattle.mst_store.specs.declared.faults.ChangeFault.{ChangeFault}
use Rattle.mst_store.specs.declared.faults.ChangeFault.TheVariants.{VersionsSpent, NoRoom}
use Rattle.mst_batching.specs.declared.faults.ApplyFault.{ApplyFault}
use Rattle.mst_batching.specs.declared.faults.ApplyFault.TheVariants as apply
use Rattle.mst_store.specs.declared.faults.BatchFault.{BatchFault}
use Rattle.mst_store.specs.declared.faults.BatchFault.TheVariants as batch
use Rattle.mst_batching.specs.Applying.{RefusesBatch}
use Rattle.mst_store.specs.Passes.{Known, having_missed, Wrote, Refuses}

-- this many tries at which another pass had the turn: in a store of one pass there are none
abbrev pub InVain : ℕ → Known → Type 0
InVain tries p = p.store.passes ≡ 1 → tries ≡ 0

-- nothing about the pass has changed but that it tried the turn this many times, and another pass
-- had it
pub record HasTried (p q : Known) : Type 0 where
  pub tries : ℕ
  pub vain : InVain tries p
  pub now : q ≡ having_missed tries p

-- after some tries in vain the event was added, as by a write that tries once
pub record WroteAfter (e : Event) (p : Known) (answered : Reply) (q : Known) : Type 0 where
  pub tries : ℕ
  pub vain : InVain tries p
  pub wrote : Wrote e (having_missed tries p) answered q

-- the same refusal of a write that tries once
abbrev pub as_tried : ChangeFault → WriteFault
as_tried VersionsSpent = tried.VersionsSpent
as_tried NoRoom = tried.NoRoom

-- after some tries in vain the change was refused, as that of a write that tries once
pub record RefusesAfter (fault : ChangeFault) (change : Change) (p q : Known) : Type 0 where
  pub tries : ℕ
  pub vain : InVain tries p
  pub refused : Refuses (as_tried fault) change (having_missed tries p) q

-- the same refusal of a batch that tries once
abbrev pub as_tried_batch : BatchFault → ApplyFault
as_tried_batch batch.VersionsSpent = apply.VersionsSpent
as_tried_batch (batch.Memory refused) = apply.Memory refused
as_tried_batch batch.NoRoom = apply.NoRoom

-- after some tries in vain the batch was refused, as one that tries once
pub record RefusesBatchAfter (fault : BatchFault) (edits : List Edit) (p q : Known) : Type 0 where
  pub tries : ℕ
  pub vain : InVain tries p
  pub refused : RefusesBatch (as_tried_batch fault) edits (having_missed tries p) q
