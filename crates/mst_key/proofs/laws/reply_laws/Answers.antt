use Rattle.mst_key.proofs.Names.{refl, ap, Format, was}
use Rattle.mst_key.proofs.HistoryLaws.{reply_edit, reply_past_migration, format_after_last, format_after_none}
use Rattle.mst_key.proofs.laws.reply_laws.Goals as goal

pub returns-clause-edit : goal.returns-clause-edit
returns-clause-edit c = reply_edit

pub returns-clause-past_migration : goal.returns-clause-past_migration
returns-clause-past_migration c = reply_past_migration

pub returns-clause-migration : goal.returns-clause-migration
returns-clause-migration c first to h pass = refl

pub returns-clause-next_migration : goal.returns-clause-next_migration
returns-clause-next_migration c first to next g h by pass keeps =
    ap (λ (f : Format). was f) (format_after_last first to g h by keeps)

pub returns-clause-first_migration : goal.returns-clause-first_migration
returns-clause-first_migration c first to h pass keeps =
    ap (λ (f : Format). was f) (format_after_none first h keeps)

pub returns-clause-batch : goal.returns-clause-batch
returns-clause-batch c first h pass es = refl
