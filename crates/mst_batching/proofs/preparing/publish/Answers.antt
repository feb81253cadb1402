use Rattle.std.proofs.Common.{rules, ◌∙◌, Some}
use Rattle.mst_batching.proofs.Prepared.{closed_known, closed_keeps, closed_free, closed_own}
use Rattle.mst_batching.proofs.preparing.publish.Goals as goal

pub reveal-revealed-requires : goal.reveal-revealed-requires
reveal-revealed-requires g c = search rules

pub close-requires : goal.close-requires
close-requires g c = search rules

pub returns-clause-same : goal.returns-clause-same
returns-clause-same g c = search rules

pub returns-clause-pass : goal.returns-clause-pass
returns-clause-pass g c =
    closed_keeps c.args.parameters.number c.reveal-revealed.new.seat c.close.new.seat
    c.close.ensures.same
    c.close.ensures.closed c.args.seat.now.me c.reveal-revealed.ensures.pass

pub returns-clause-free : goal.returns-clause-free
returns-clause-free g c =
    closed_free c.args.parameters.number c.reveal-revealed.new.seat c.close.new.seat
    c.close.ensures.same
    c.close.ensures.closed c.reveal-revealed.ensures.free

pub returns-clause-published : goal.returns-clause-published
returns-clause-published g c made =
    closed_known c.args.parameters.number c.reveal-revealed.new.seat c.close.new.seat
    c.close.ensures.same
    c.close.ensures.closed (Some c.reveal-revealed.result.version)
    ∙ c.reveal-revealed.ensures.published made

pub returns-clause-own : goal.returns-clause-own
returns-clause-own g c =
    closed_own c.args.parameters.number c.reveal-revealed.new.seat c.close.new.seat
    c.close.ensures.same
    c.close.ensures.closed c.reveal-revealed.ensures.own

pub returns-clause-version : goal.returns-clause-version
returns-clause-version g c = search rules
