use Rattle.mst_versions.proofs.Names.{rules, IsSameSeat}
use Rattle.mst_versions.proofs.Counted.{counted_free}
use Rattle.mst_versions.proofs.counting.free_rows.Goals as goal

pub give_back-requires : goal.give_back-requires
give_back-requires g c = record {
  holds = c.in-Some.ensures.begun.has.holds;
  settled = c.in-Some.ensures.begun.has.settled;
}

pub returns-clause-counted : goal.returns-clause-counted
returns-clause-counted g c =
    let same : IsSameSeat c.args.seat.now c.give_back.new.seat = search rules in
    counted_free c.args.seat.now c.begin.new.seat.me c.in-Some.turn c.in-Some.ensures.begun
    c.args.parameters.number c.requires.rest.free.3 c.free-free.result c.free-free.ensures.count
    c.give_back.new.seat same c.give_back.ensures.gave
