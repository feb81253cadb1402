use Rattle.mst_versions.proofs.Names.{rules, ℕ, sym, ap, subst, ◌∙◌, Format, Event, had, IsSettled, View, Seated, IsSameSeat, Turn, HoldsDesk, HasMade, Added, made_at_seat}
use Rattle.mst_key.proofs.HistoryLaws.{format_kept}
use Rattle.mst_versions.proofs.Shown.{busy_at, spent_at}
use Rattle.mst_versions.proofs.Written.{own_event, refused, wrote}
use Rattle.mst_versions.proofs.writing.write.Goals as goal

pub publish-version-requires : goal.publish-version-requires
publish-version-requires g c = record {
  made =
      subst (λ (e : Event). HasMade c.make.new.turn c.in-Ok-make.root c.in-Ok.turn.format e
      c.make.new.seat.me)
      (own_event c.args.seat.now.me c.begin_write.new.seat.me c.args.event.now
      (c.requires.mine ∙ sym c.requires.rest.free.3)
      (ap (λ (v : View). v.number) c.in-Ok.ensures.begun.rest))
      (subst (λ (f : Format). HasMade c.make.new.turn c.in-Ok-make.root f
      (made_at_seat c.begin_write.new.seat.me c.args.event.now.change) c.make.new.seat.me)
      (format_kept c.in-Ok.turn.format c.args.event.now.change c.requires.keyed)
      c.in-Ok-make.ensures.made.has);
}

pub give_back-requires : goal.give_back-requires
give_back-requires g c = let same = c.in-Err.ensures.untouched in record {
  holds = subst (λ (t : Turn g.row.A.Denot). HoldsDesk t c.make.new.seat.me) (sym same.0)
      (subst (λ (z : Seated). HoldsDesk c.in-Ok.turn z.me) (sym same.1)
      c.in-Ok.ensures.begun.has.holds);
  settled = subst (λ (t : Turn g.row.A.Denot). IsSettled t.desk) (sym same.0)
      c.in-Ok.ensures.begun.has.settled;
}

pub returns-in-Ok-make-clause-wrote : goal.returns-in-Ok-make-clause-wrote
returns-in-Ok-make-clause-wrote g c =
    let last = c.publish-version in
    let same : IsSameSeat c.args.seat.now last.new.seat = search rules in
    let change = c.args.event.now.change in
    wrote c.args.seat.now c.begin_write.new.seat.me c.in-Ok.turn c.in-Ok.ensures.begun
    c.args.parameters.number c.requires.rest.free.3 change c.in-Ok-make.root (had c.in-Ok-make.old)
    c.make.new.turn c.make.new.seat.me last.new.seat last.result same c.in-Ok-make.ensures.made
    (subst (λ (e : Event). Added e c.make.new.seat.me last.new.seat.me)
    (ap (λ (p : ℕ). record { pass = p; change = change }) c.requires.mine) last.ensures.added)
    last.ensures.version c.in-Ok.ensures.room

pub returns-in-Err-clause-refused : goal.returns-in-Err-clause-refused
returns-in-Err-clause-refused g c =
    let same : IsSameSeat c.args.seat.now c.give_back.new.seat = search rules in
    refused c.args.seat.now c.begin_write.new.seat.me c.in-Ok.turn c.in-Ok.ensures.begun
    c.args.parameters.number c.requires.rest.free.3 c.make.new.seat.me c.give_back.new.seat same
    (ap (λ (z : Seated). z.me) c.in-Err.ensures.untouched.1) c.give_back.ensures.gave
    c.args.event.now.change c.in-Ok.ensures.room c.in-Err.ensures.lacks

pub begin_write-requires : goal.begin_write-requires
begin_write-requires g c = search rules

pub returns-in-Err-Busy-clause-same : goal.returns-in-Err-Busy-clause-same
returns-in-Err-Busy-clause-same g c = search rules

pub returns-in-Err-Busy-clause-pass : goal.returns-in-Err-Busy-clause-pass
returns-in-Err-Busy-clause-pass g c = search rules

pub returns-in-Err-Busy-clause-free : goal.returns-in-Err-Busy-clause-free
returns-in-Err-Busy-clause-free g c = search rules

pub returns-in-Err-Busy-clause-wrote : goal.returns-in-Err-Busy-clause-wrote
returns-in-Err-Busy-clause-wrote g c = search rules

pub returns-in-Err-Busy-clause-refused : goal.returns-in-Err-Busy-clause-refused
returns-in-Err-Busy-clause-refused g c = search (rules, busy_at)

pub returns-in-Err-VersionsSpent-clause-same : goal.returns-in-Err-VersionsSpent-clause-same
returns-in-Err-VersionsSpent-clause-same g c = search rules

pub returns-in-Err-VersionsSpent-clause-pass : goal.returns-in-Err-VersionsSpent-clause-pass
returns-in-Err-VersionsSpent-clause-pass g c = search rules

pub returns-in-Err-VersionsSpent-clause-free : goal.returns-in-Err-VersionsSpent-clause-free
returns-in-Err-VersionsSpent-clause-free g c = search rules

pub returns-in-Err-VersionsSpent-clause-wrote : goal.returns-in-Err-VersionsSpent-clause-wrote
returns-in-Err-VersionsSpent-clause-wrote g c = search rules

pub returns-in-Err-VersionsSpent-clause-refused : goal.returns-in-Err-VersionsSpent-clause-refused
returns-in-Err-VersionsSpent-clause-refused g c = search (rules, spent_at)

pub make-requires-clause-turn : goal.make-requires-clause-turn
make-requires-clause-turn g c = search rules

pub make-requires-clause-open : goal.make-requires-clause-open
make-requires-clause-open g c = search rules

pub returns-in-Ok-make-clause-same : goal.returns-in-Ok-make-clause-same
returns-in-Ok-make-clause-same g c = search rules

pub returns-in-Ok-make-clause-pass : goal.returns-in-Ok-make-clause-pass
returns-in-Ok-make-clause-pass g c = search rules

pub returns-in-Ok-make-clause-free : goal.returns-in-Ok-make-clause-free
returns-in-Ok-make-clause-free g c = search rules

pub returns-in-Ok-make-clause-refused : goal.returns-in-Ok-make-clause-refused
returns-in-Ok-make-clause-refused g c = search rules

pub returns-in-Err-clause-same : goal.returns-in-Err-clause-same
returns-in-Err-clause-same g c = search rules

pub returns-in-Err-clause-pass : goal.returns-in-Err-clause-pass
returns-in-Err-clause-pass g c = search rules

pub returns-in-Err-clause-free : goal.returns-in-Err-clause-free
returns-in-Err-clause-free g c = search rules

pub returns-in-Err-clause-wrote : goal.returns-in-Err-clause-wrote
returns-in-Err-clause-wrote g c = search rules

pub make-requires-clause-keyed : goal.make-requires-clause-keyed
make-requires-clause-keyed g c = search rules

pub make-requires-clause-single : goal.make-requires-clause-single
make-requires-clause-single g c = search rules
