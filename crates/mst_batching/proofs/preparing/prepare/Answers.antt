use Rattle.std.proofs.Common.{◌≡◌, ap, subst, rules}
use Rattle.mst_key.specs.declared.history.Change.TheVariants.{Batch}
use Rattle.mst_key.specs.History.{done}
use Rattle.mst_words.specs.Access.{Seated, IsSameSeat}
use Rattle.mst_batch.specs.declared.faults.BatchRefusal.{BatchRefusal}
use Rattle.mst_batch.specs.declared.faults.BatchRefusal.TheVariants as batch_refusal
use Rattle.mst_batching.specs.Applying.{LacksEdits}
use Rattle.mst_batching.proofs.Batched.{batch_memory}
use Rattle.mst_versions.specs.Writes.{Made}
use Rattle.mst_batching.proofs.Prepared.{made_filled, prepared_is, prepared_keeps, prepared_told}
use Rattle.mst_versions.proofs.Shown.{busy_at, spent_at}
use Rattle.mst_versions.proofs.Written.{refused}
use Rattle.mst_batching.proofs.preparing.prepare.Given.{Over}
use Rattle.mst_batching.proofs.preparing.prepare.Goals.{After-fill}
use Rattle.mst_batching.proofs.preparing.prepare.Goals as goal

-- the batch stays made while its record is filled
module _ (g : Over) (c : After-fill g) where
  filled : Made (Batch c.args.edits.now) c.in-Ok.turn c.begin_write.new.seat.me
      c.in-Ok-make_batch.root done c.make_batch.new.turn c.fill.new.seat.me
  filled = made_filled c.args.edits.now c.in-Ok.turn c.make_batch.new.turn
      c.begin_write.new.seat.me c.make_batch.new.seat c.fill.new.seat c.in-Ok-make_batch.root
      c.make_batch.ensures.kept c.in-Ok-make_batch.ensures.made c.fill.ensures.made
      c.fill.ensures.kept

pub returns-in-Err-NoRoom-clause-refused : goal.returns-in-Err-NoRoom-clause-refused
returns-in-Err-NoRoom-clause-refused g c =
    let t = c.in-Ok.turn in
    let why = c.in-Err-NoRoom.ensures in
    let back = c.give_back-in-Err-NoRoom in
    let is : c.in-Err-NoRoom.field-0 ≡ batch_refusal.NoRoom = search rules in
    let lacks = subst (λ (why : BatchRefusal). LacksEdits why c.args.edits.now t
    c.begin_write.new.seat.me) is why.lacks in
    let same : IsSameSeat c.args.seat.now back.new.seat = search rules in
    refused c.args.seat.now c.begin_write.new.seat.me t c.in-Ok.ensures.begun
    c.args.parameters.number
    c.requires.rest.free.3 c.make_batch.new.seat.me back.new.seat same
    (ap (λ (z : Seated). z.me) why.untouched.1) back.ensures.gave (Batch c.args.edits.now)
    c.in-Ok.ensures.room lacks

pub begin_write-requires : goal.begin_write-requires
begin_write-requires g c = search rules

pub returns-in-Err-Busy-clause-same : goal.returns-in-Err-Busy-clause-same
returns-in-Err-Busy-clause-same g c = search rules

pub returns-in-Err-Busy-clause-pass : goal.returns-in-Err-Busy-clause-pass
returns-in-Err-Busy-clause-pass g c = search rules

pub returns-in-Err-Busy-clause-free : goal.returns-in-Err-Busy-clause-free
returns-in-Err-Busy-clause-free g c = search rules

pub returns-in-Err-Busy-clause-refused : goal.returns-in-Err-Busy-clause-refused
returns-in-Err-Busy-clause-refused g c = search (rules, busy_at)

pub returns-in-Err-VersionsSpent-clause-same : goal.returns-in-Err-VersionsSpent-clause-same
returns-in-Err-VersionsSpent-clause-same g c = search rules

pub returns-in-Err-VersionsSpent-clause-pass : goal.returns-in-Err-VersionsSpent-clause-pass
returns-in-Err-VersionsSpent-clause-pass g c = search rules

pub returns-in-Err-VersionsSpent-clause-free : goal.returns-in-Err-VersionsSpent-clause-free
returns-in-Err-VersionsSpent-clause-free g c = search rules

pub returns-in-Err-VersionsSpent-clause-refused : goal.returns-in-Err-VersionsSpent-clause-refused
returns-in-Err-VersionsSpent-clause-refused g c = search (rules, spent_at)

pub make_batch-requires-clause-turn : goal.make_batch-requires-clause-turn
make_batch-requires-clause-turn g c = search rules

pub make_batch-requires-clause-open : goal.make_batch-requires-clause-open
make_batch-requires-clause-open g c = search rules

pub give_back-requires-clause-holds : goal.give_back-requires-clause-holds
give_back-requires-clause-holds g c = search rules

pub give_back-requires-clause-settled : goal.give_back-requires-clause-settled
give_back-requires-clause-settled g c = search rules

pub give_back-requires-in-Err-NoRoom-clause-holds
    : goal.give_back-requires-in-Err-NoRoom-clause-holds
give_back-requires-in-Err-NoRoom-clause-holds g c = search rules

pub give_back-requires-in-Err-NoRoom-clause-settled
    : goal.give_back-requires-in-Err-NoRoom-clause-settled
give_back-requires-in-Err-NoRoom-clause-settled g c = search rules

pub returns-in-Ok-make_batch-clause-same : goal.returns-in-Ok-make_batch-clause-same
returns-in-Ok-make_batch-clause-same g c = search rules

pub returns-in-Ok-make_batch-clause-pass : goal.returns-in-Ok-make_batch-clause-pass
returns-in-Ok-make_batch-clause-pass g c =
    prepared_keeps c.args.seat.now c.fill.new.seat c.in-Ok.turn c.begin_write.new.seat.me
    c.in-Ok.ensures.begun c.args.parameters.number c.requires.rest.free.3 c.args.edits.now
    c.in-Ok-make_batch.root c.make_batch.new.turn
    (filled g (goal.at.returns-in-Ok-make_batch-clause-pass g c).After-fill)

pub returns-in-Ok-make_batch-clause-free : goal.returns-in-Ok-make_batch-clause-free
returns-in-Ok-make_batch-clause-free g c = search rules

pub returns-in-Ok-make_batch-clause-refused : goal.returns-in-Ok-make_batch-clause-refused
returns-in-Ok-make_batch-clause-refused g c = search rules

pub returns-in-Err-Memory-clause-same : goal.returns-in-Err-Memory-clause-same
returns-in-Err-Memory-clause-same g c = search rules

pub returns-in-Err-Memory-clause-pass : goal.returns-in-Err-Memory-clause-pass
returns-in-Err-Memory-clause-pass g c = search rules

pub returns-in-Err-Memory-clause-free : goal.returns-in-Err-Memory-clause-free
returns-in-Err-Memory-clause-free g c = search rules

pub returns-in-Err-Memory-clause-refused : goal.returns-in-Err-Memory-clause-refused
returns-in-Err-Memory-clause-refused g c =
    let t = c.in-Ok.turn in
    let why = c.in-Err-Memory.ensures in
    let back = c.give_back in
    let same : IsSameSeat c.args.seat.now back.new.seat = search rules in
    let several = subst (λ (why : BatchRefusal). LacksEdits why c.args.edits.now t
    c.begin_write.new.seat.me) c.in-Err-Memory.field-0-is why.lacks in
    batch_memory c.args.seat.now c.begin_write.new.seat.me t c.in-Ok.ensures.begun
    c.args.parameters.number
    c.requires.rest.free.3 c.make_batch.new.seat.me back.new.seat same
    (ap (λ (z : Seated). z.me) why.untouched.1) back.ensures.gave c.args.edits.now
    c.in-Err-Memory.refused c.in-Ok.ensures.room several

pub returns-in-Err-NoRoom-clause-same : goal.returns-in-Err-NoRoom-clause-same
returns-in-Err-NoRoom-clause-same g c = search rules

pub returns-in-Err-NoRoom-clause-pass : goal.returns-in-Err-NoRoom-clause-pass
returns-in-Err-NoRoom-clause-pass g c = search rules

pub returns-in-Err-NoRoom-clause-free : goal.returns-in-Err-NoRoom-clause-free
returns-in-Err-NoRoom-clause-free g c = search rules

pub returns-in-Ok-make_batch-clause-prepared : goal.returns-in-Ok-make_batch-clause-prepared
returns-in-Ok-make_batch-clause-prepared g c =
    prepared_is c.args.seat.now c.fill.new.seat c.in-Ok.turn c.begin_write.new.seat.me
    c.in-Ok.ensures.begun c.args.parameters.number c.requires.rest.free.3 c.args.edits.now
    c.in-Ok-make_batch.root c.make_batch.new.turn
    (filled g (goal.at.returns-in-Ok-make_batch-clause-prepared g c).After-fill)
    c.make_batch.ensures.kept c.fill.ensures.filled

pub returns-in-Ok-make_batch-clause-told : goal.returns-in-Ok-make_batch-clause-told
returns-in-Ok-make_batch-clause-told g c =
    let same : IsSameSeat c.args.seat.now c.fill.new.seat = search rules in
    prepared_told c.args.seat.now c.fill.new.seat c.in-Ok.turn c.begin_write.new.seat.me
    c.in-Ok.ensures.begun c.args.parameters.number c.requires.rest.free.3 c.args.edits.now
    c.in-Ok-make_batch.root c.make_batch.new.turn
    (filled g (goal.at.returns-in-Ok-make_batch-clause-told g c).After-fill) same
    c.in-Ok.ensures.room
