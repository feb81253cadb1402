use Rattle.mst_versions.proofs.Names.{rules, sym, subst, SeatState, Added}
use Rattle.mst_versions.proofs.finishing.finish.Goals as goal

pub reveal-revealed-requires : goal.reveal-revealed-requires
reveal-revealed-requires g c = search rules

pub close-requires : goal.close-requires
close-requires g c = search rules

pub returns-clause-same : goal.returns-clause-same
returns-clause-same g c = search rules

pub returns-clause-added : goal.returns-clause-added
returns-clause-added g c =
    subst (λ (z : SeatState). Added c.args.event.now c.args.seat.now.me z)
    (sym c.close.ensures.closed) c.reveal-revealed.ensures.added

pub returns-clause-version : goal.returns-clause-version
returns-clause-version g c = search rules
