use Rattle.mst_arena.proofs.Names.{rules, arith}
use Rattle.mst_arena.proofs.DeskLemmas.{desk_new}
use Rattle.mst_arena.proofs.desk.Desk.new.Goals as goal

pub invariant_of-result : goal.invariant_of-result
invariant_of-result g c =
    desk_new _ _ _ _ _ _ _ _ _ _ _ c.args.rows c.args.records c.args.first c.requires.few_rows
    (omega (arith, c.requires.some_records)) (omega (arith, c.requires.first))
    c.in_ok-copies.ensures.ok.0 c.in_ok-copies-2.ensures.ok.0 c.in_ok-new.ensures.ok
    c.in_ok-room.ensures.ok.0 c.in_ok-room-2.ensures.ok.0 c.in_ok-copies.ensures.ok.1
    c.in_ok-copies-2.ensures.ok.1 c.in_ok-room.ensures.ok.1 c.in_ok-room-2.ensures.ok.1
    c.in_ok-room-3.ensures.ok.1

pub overflow_cast-count : goal.overflow_cast-count
overflow_cast-count g c = search rules

pub overflow_cast-records : goal.overflow_cast-records
overflow_cast-records g c = search rules

pub returns-in_err-copies : goal.returns-in_err-copies
returns-in_err-copies g c = search rules

pub returns-in_err-copies-2 : goal.returns-in_err-copies-2
returns-in_err-copies-2 g c = search rules

pub new-requires-clause-some : goal.new-requires-clause-some
new-requires-clause-some g c = search rules

pub new-requires-clause-few : goal.new-requires-clause-few
new-requires-clause-few g c = search rules

pub returns-in_err-new : goal.returns-in_err-new
returns-in_err-new g c = search rules

pub returns-in_err-room : goal.returns-in_err-room
returns-in_err-room g c = search rules

pub returns-in_err-room-2 : goal.returns-in_err-room-2
returns-in_err-room-2 g c = search rules

pub returns-in_err-room-3 : goal.returns-in_err-room-3
returns-in_err-room-3 g c = search rules

pub same-result : goal.same-result
same-result g c = search rules

pub returns : goal.returns
returns g c = search rules
