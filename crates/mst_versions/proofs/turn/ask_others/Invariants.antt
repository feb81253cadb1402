use Rattle.mst_versions.proofs.Names.{IsSameSeat, HasAsked, AsksOnly, AsksEach}
use Rattle.mst_versions.proofs.turn.ask_others.Given as goal

abbrev pub invariant-loop-which : goal.invariant-loop-which
invariant-loop-which g l = IsSameSeat l.fn.seat l.seat × AsksOnly l.fn.seat.me l.seat.me
    × AsksEach l.fn.seat.me l.seat.me × HasAsked l.which l.desk l.asked l.seat.me
