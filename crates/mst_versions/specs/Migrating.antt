-- Why the holder of the turn makes no tree of another format, and why a migration is refused.
use Rattle.std.specs.Prelude.{◌≡◌, ◌≢◌, ◌+◌, ◌<◌, length}
use Rattle.mst_key.specs.declared.format.Format.{Format}
use Rattle.mst_key.specs.declared.history.Change.TheVariants.{Migrate}
use Rattle.mst_arena.specs.Lives.{last_version}
use Rattle.mst_versions.specs.declared.faults.MigrateFault.{MigrateFault}
use Rattle.mst_versions.specs.declared.faults.MigrateFault.TheVariants.{Busy, VersionsSpent, Memory, NoRoom}
use Rattle.mst_versions.specs.declared.faults.WriteFault.TheVariants as write
use Rattle.mst_versions.specs.declared.migrating.TreeFault.{TreeFault}
use Rattle.mst_versions.specs.declared.migrating.TreeFault.TheVariants as moved
use Rattle.mst_versions.specs.declared.turn.Turn.{Turn}
use Rattle.mst_versions.specs.Known.{Known, Looks, format_seen}
use Rattle.mst_versions.specs.Turns.{SeatState}
use Rattle.mst_versions.specs.Writes.{LacksRows, Refuses}

-- why the holder of the turn makes no tree of another format
abbrev pub LacksTree : {A : Type 0} → TreeFault → Format → Turn A → SeatState → Type 0
LacksTree (moved.Memory refused) to t m = t.format ≢ to
LacksTree moved.NoRoom to t m = (t.format ≢ to) × LacksRows (Migrate to) t m

-- Why a migration is refused. It adds nothing to the history then. In the format that stands it is
-- refused neither for memory nor for room. Another pass has the turn, the version numbers are
-- spent, a growth was refused, or there is no room, each as a write is refused
abbrev pub RefusesMigration : MigrateFault → Format → Known → Known → Type 0
RefusesMigration Busy to p q = Refuses write.Busy (Migrate to) p q
RefusesMigration VersionsSpent to p q = Refuses write.VersionsSpent (Migrate to) p q
RefusesMigration (Memory refused) to p q = Looks p q × (length q.seen < last_version)
    × (q.asked ≡ p.asked + p.store.passes + 2) × (format_seen q ≢ to)
RefusesMigration NoRoom to p q = Refuses write.NoRoom (Migrate to) p q × (format_seen q ≢ to)
