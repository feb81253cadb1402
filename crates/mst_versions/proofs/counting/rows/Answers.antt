use Rattle.mst_versions.proofs.Names.{◌-◌, sym, rules, IsSameSeat}
use Rattle.mst_versions.proofs.Counted.{still_holds, counted, all_rows}
use Rattle.mst_versions.proofs.counting.rows.Goals as goal

pub give_back-requires : goal.give_back-requires
give_back-requires g c = let n = c.note_current-noted in let a = c.ask_current-done in record {
  holds = still_holds c.in-Some.turn c.begin.new.seat.me n.new.self.me a.new.self.me n.result
      a.result n.ensures.noted a.ensures.asked c.in-Some.ensures.begun.has;
  settled = c.in-Some.ensures.begun.has.settled;
}

pub returns-clause-counted : goal.returns-clause-counted
returns-clause-counted g c = let n = c.note_current-noted in let a = c.ask_current-done in let b =
    c.in-Some.ensures.begun in
    let same : IsSameSeat c.args.seat.now c.give_back.new.seat = search rules in
    counted c.in-Some.turn c.begin.new.seat.me n.new.self.me a.new.self.me n.result a.result
    n.ensures.noted a.ensures.asked c.args.seat.now c.give_back.new.seat b c.args.parameters.number
    c.requires.rest.free.3 same c.give_back.ensures.gave c.where_alone.result
    (c.args.parameters.rows - c.free.result)
    (all_rows c.args.seat.now.me c.begin.new.seat.me c.in-Some.turn b c.args.parameters.rows
    c.free.result
    (sym c.requires.rest.rows_is) c.free.ensures.count)
    c.where_alone.ensures.alone c.where_alone.ensures.only
