use Rattle.mst_script.proofs.Names.{rules, map_ok, map_err}
use Rattle.mst_script.proofs.AllOf.{all_passes, all_settled, all_free_again}
use Rattle.mst_script.proofs.Ends.{all_released}
use Rattle.mst_script.proofs.Scripts.{ran_script, stopped_script}
use Rattle.mst_script.proofs.script.settle_and_drive.Goals as goal

pub settle-requires : goal.settle-requires
settle-requires g c =
    record {
      whole = all_passes c.args.store.now c.args.passes.now
          (all_free_again c.args.store.now c.args.passes.now c.requires.free c.requires.whole);
    }

pub drive-driven-requires-clause-whole : goal.drive-driven-requires-clause-whole
drive-driven-requires-clause-whole g c = all_settled c.args.store.now c.args.passes.now
    c.settle.new.self c.settle.ensures.settled
    (all_free_again c.args.store.now c.args.passes.now c.requires.free c.requires.whole)

pub release_all-requires : goal.release_all-requires
release_all-requires g c =
    record {
      whole = all_passes c.args.store.now c.drive-driven.new.passes
          c.drive-driven.ensures.whole;
    }

pub returns-clause-whole : goal.returns-clause-whole
returns-clause-whole g c = all_released c.args.store.now c.drive-driven.new.passes
    c.release_all.new.self c.release_all.ensures.released c.drive-driven.ensures.whole

pub returns-clause-ok : goal.returns-clause-ok
returns-clause-ok g c = map_ok c.drive-driven.result c.drive-driven.ensures.ok (λ ran.
    ran_script g.S.Source.gives g.W.Sink.takes g.W.Sink.failures c.args.store.now c.args.source.now
    c.drive-driven.new.source c.args.sink.now c.drive-driven.new.sink c.args.passes.now
    c.settle.new.self c.drive-driven.new.passes c.release_all.new.self
    c.requires.free c.settle.ensures.settled ran c.release_all.ensures.released)

pub returns-clause-err : goal.returns-clause-err
returns-clause-err g c = map_err c.drive-driven.result c.drive-driven.ensures.err (λ stopped.
    stopped_script g.S.Source.gives g.W.Sink.takes g.W.Sink.failures c.args.store.now
    c.args.source.now c.drive-driven.new.source c.args.sink.now c.drive-driven.new.sink
    c.args.passes.now c.settle.new.self c.drive-driven.new.passes c.release_all.new.self
    c.requires.free c.settle.ensures.settled stopped c.release_all.ensures.released)

pub drive-driven-requires-clause-source : goal.drive-driven-requires-clause-source
drive-driven-requires-clause-source g c = search rules

pub drive-driven-requires-clause-sink : goal.drive-driven-requires-clause-sink
drive-driven-requires-clause-sink g c = search rules

pub drive-driven-requires-clause-pending : goal.drive-driven-requires-clause-pending
drive-driven-requires-clause-pending g c = search rules

pub drive-driven-requires-clause-reader : goal.drive-driven-requires-clause-reader
drive-driven-requires-clause-reader g c = search rules

pub returns-clause-ended : goal.returns-clause-ended
returns-clause-ended g c = search rules

pub returns-clause-steady_source : goal.returns-clause-steady_source
returns-clause-steady_source g c = search rules

pub returns-clause-steady_sink : goal.returns-clause-steady_sink
returns-clause-steady_sink g c = search rules

pub returns-clause-failed : goal.returns-clause-failed
returns-clause-failed g c = search rules
