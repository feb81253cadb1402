-- The numbers of formats, and what C is told of the format of a version and of a migration.
use Rattle.std.specs.Prelude.{◌≡◌, ◌==◌, if◌then◌else◌, ℕ, ℤ, pos, Option, Some, None, Result, Ok, Err}
use Rattle.mst_key.specs.declared.format.Format.{Format}
use Rattle.mst_key.specs.declared.format.Format.TheVariants.{One, Two}
use Rattle.mst_key.specs.declared.history.Change.TheVariants.{Migrate}
use Rattle.mst_key.specs.History as history
use Rattle.mst_versions.specs.declared.faults.MigrateFault.{MigrateFault}
use Rattle.mst_versions.specs.declared.faults.MigrateFault.TheVariants.{Busy, VersionsSpent, Memory, NoRoom}
use Rattle.mst_store.specs.Passes.{Known, Wrote, made_by}
use Rattle.mst_versions.specs.Migrating.{RefusesMigration}
use Rattle.mst_c.specs.Codes.{unknown_format, closed, wrong_state, memory, busy, versions_spent, no_free_rows}
use Rattle.mst_c.specs.declared.pass_box.State.{State}
use Rattle.mst_c.specs.declared.pass_box.State.TheVariants.{Away, Free, Pinned}
use Rattle.mst_c.specs.declared.pass_box.MigrateRefusal.{MigrateRefusal}
use Rattle.mst_c.specs.declared.pass_box.MigrateRefusal.TheVariants.{Pins, Store}
use Rattle.mst_c.specs.Holding.{Reads}

-- the format that has this number
abbrev pub format_named : ℕ → Option Format
format_named number =
    if number == 1 then Some One else if number == 2 then Some Two else None

-- the number of a format
abbrev pub format_code : Format → ℤ
format_code One = pos 1
format_code Two = pos 2

-- -7 for an empty hand, otherwise the number of the format of the version
abbrev pub FormatTold : Option State → ℤ → Option State → Type 0
FormatTold None code hand = (code ≡ closed) × (hand ≡ None)
FormatTold (Some s) code hand =
    (f : Format) × (t : State) × (hand ≡ Some t) × Reads (λ g _. g) s f t × (code ≡ format_code f)

-- A migration by a free pass is as the pass's contract says; a pinned pass migrates nothing
abbrev pub Moves : Format → State → Result Format MigrateRefusal → State → Type 0
Moves to Away result s = ⊥
Moves to (Free p) (Ok was) s =
    (q : Known) × (s ≡ Free q) × Wrote (made_by p (Migrate to)) p (history.was was) q
Moves to (Free p) (Err (Store fault)) s =
    (q : Known) × (s ≡ Free q) × RefusesMigration fault to p q
Moves to (Free p) (Err Pins) s = ⊥
Moves to (Pinned p) (Err Pins) s = s ≡ Pinned p
Moves to (Pinned p) (Err (Store fault)) s = ⊥
Moves to (Pinned p) (Ok was) s = ⊥

-- the code of a migration that a store was refused
abbrev pub migrate_fault_code : MigrateFault → ℤ
migrate_fault_code Busy = busy
migrate_fault_code VersionsSpent = versions_spent
migrate_fault_code (Memory refused) = memory
migrate_fault_code NoRoom = no_free_rows

abbrev pub migrate_refusal_code : MigrateRefusal → ℤ
migrate_refusal_code Pins = wrong_state
migrate_refusal_code (Store fault) = migrate_fault_code fault

abbrev pub move_code : Result Format MigrateRefusal → ℤ
move_code (Ok was) = format_code was
move_code (Err fault) = migrate_refusal_code fault

-- -7 for an empty hand, -3 for what is no format's number, otherwise what the pass did
abbrev pub MigrateTold : Option State → ℕ → ℤ → Option State → Type 0
MigrateTold None number code hand = (code ≡ closed) × (hand ≡ None)
MigrateTold (Some s) number code hand =
    (format_named number ≡ None → (code ≡ unknown_format) × (hand ≡ Some s))
    × ((to : Format) → format_named number ≡ Some to → (r : Result Format MigrateRefusal)
    × (t : State) × (hand ≡ Some t) × Moves to s r t × (code ≡ move_code r))
