-- Why the holder of the turn does not make the edits of a batch, and why a batch is refused.
use Rattle.std.specs.Prelude.{◌≡◌, ◌+◌, ◌<◌, List, length}
use Rattle.mst_key.specs.declared.history.Change.TheVariants.{Batch}
use Rattle.mst_key.specs.declared.history.Edit.{Edit}
use Rattle.mst_arena.specs.Lives.{last_version}
use Rattle.mst_batch.specs.declared.faults.BatchRefusal.{BatchRefusal}
use Rattle.mst_batch.specs.declared.faults.BatchRefusal.TheVariants as batch_refusal
use Rattle.mst_batching.specs.declared.faults.ApplyFault.{ApplyFault}
use Rattle.mst_batching.specs.declared.faults.ApplyFault.TheVariants.{Busy, VersionsSpent, Memory, NoRoom}
use Rattle.mst_versions.specs.declared.faults.WriteFault.TheVariants as write
use Rattle.mst_versions.specs.declared.turn.Turn.{Turn}
use Rattle.mst_versions.specs.Known.{Known, Looks}
use Rattle.mst_versions.specs.Turns.{SeatState}
use Rattle.mst_versions.specs.Writes.{LacksRows, Refuses}

-- why the holder of the turn does not make the edits
abbrev pub LacksEdits : {A : Type 0} → BatchRefusal → List Edit → Turn A → SeatState → Type 0
LacksEdits (batch_refusal.Memory refused) edits t m = 1 < length edits
LacksEdits batch_refusal.NoRoom edits t m = LacksRows (Batch edits) t m

-- Why a batch of edits is refused. It adds nothing to the history then: no reader sees some of the
-- edits without the others. Another pass has the turn, the version numbers are spent, a growth was
-- refused, or there is no room, each as a write is refused. Memory is refused only to a batch of
-- more than one edit
abbrev pub RefusesBatch : ApplyFault → List Edit → Known → Known → Type 0
RefusesBatch Busy edits p q = Refuses write.Busy (Batch edits) p q
RefusesBatch VersionsSpent edits p q = Refuses write.VersionsSpent (Batch edits) p q
RefusesBatch (Memory refused) edits p q = Looks p q × (length q.seen < last_version)
    × (q.asked ≡ p.asked + p.store.passes + 2) × (1 < length edits)
RefusesBatch NoRoom edits p q = Refuses write.NoRoom (Batch edits) p q
