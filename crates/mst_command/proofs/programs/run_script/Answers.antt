use Rattle.std.proofs.Common.{rules}
use Rattle.mst_script.proofs.AllOf.{all_of}
use Rattle.mst_command.proofs.Fresh.{fresh_run, fresh_stop}
use Rattle.mst_command.proofs.programs.run_script.Goals as goal

pub run-requires-clause-whole : goal.run-requires-clause-whole
run-requires-clause-whole g c = all_of c.in-Ok.opened.0 c.in-Ok-deal.passes.items
    c.in-Ok-deal.ensures.ok

pub returns-in-Ok-run-clause-ran : goal.returns-in-Ok-run-clause-ran
returns-in-Ok-run-clause-ran g c =
    fresh_run g.S.Source.gives g.W.Sink.takes c.args.shape c.in-Ok.opened.0 c.args.source.now
    c.run.new.source c.args.out.now c.run.new.sink c.in-Ok-deal.passes.items
    c.run.new.passes.items
    c.in-Ok.ensures.limits c.in-Ok.ensures.store c.in-Ok-deal.ensures.ok c.in-Ok-run.ensures.ok

pub returns-in-Err-Shape-clause-ran : goal.returns-in-Err-Shape-clause-ran
returns-in-Err-Shape-clause-ran g c = search rules

pub returns-in-Err-Shape-clause-ended : goal.returns-in-Err-Shape-clause-ended
returns-in-Err-Shape-clause-ended g c = search rules

pub returns-in-Err-Shape-clause-done : goal.returns-in-Err-Shape-clause-done
returns-in-Err-Shape-clause-done g c = search rules

pub returns-in-Err-Shape-clause-steady : goal.returns-in-Err-Shape-clause-steady
returns-in-Err-Shape-clause-steady g c = search rules

pub returns-in-Err-Shape-clause-device : goal.returns-in-Err-Shape-clause-device
returns-in-Err-Shape-clause-device g c = search rules

pub returns-in-Err-Shape-clause-unread : goal.returns-in-Err-Shape-clause-unread
returns-in-Err-Shape-clause-unread g c = search rules

pub returns-in-Err-Shape-clause-unwritten : goal.returns-in-Err-Shape-clause-unwritten
returns-in-Err-Shape-clause-unwritten g c = search rules

pub returns-in-Err-Shape-clause-ends : goal.returns-in-Err-Shape-clause-ends
returns-in-Err-Shape-clause-ends g c = search rules

pub returns-in-Err-Shape-clause-shape : goal.returns-in-Err-Shape-clause-shape
returns-in-Err-Shape-clause-shape g c = search rules

pub returns-in-Err-Memory-clause-ran : goal.returns-in-Err-Memory-clause-ran
returns-in-Err-Memory-clause-ran g c = search rules

pub returns-in-Err-Memory-clause-ended : goal.returns-in-Err-Memory-clause-ended
returns-in-Err-Memory-clause-ended g c = search rules

pub returns-in-Err-Memory-clause-done : goal.returns-in-Err-Memory-clause-done
returns-in-Err-Memory-clause-done g c = search rules

pub returns-in-Err-Memory-clause-steady : goal.returns-in-Err-Memory-clause-steady
returns-in-Err-Memory-clause-steady g c = search rules

pub returns-in-Err-Memory-clause-device : goal.returns-in-Err-Memory-clause-device
returns-in-Err-Memory-clause-device g c = search rules

pub returns-in-Err-Memory-clause-unread : goal.returns-in-Err-Memory-clause-unread
returns-in-Err-Memory-clause-unread g c = search rules

pub returns-in-Err-Memory-clause-unwritten : goal.returns-in-Err-Memory-clause-unwritten
returns-in-Err-Memory-clause-unwritten g c = search rules

pub returns-in-Err-Memory-clause-ends : goal.returns-in-Err-Memory-clause-ends
returns-in-Err-Memory-clause-ends g c = search rules

pub returns-in-Err-Memory-clause-shape : goal.returns-in-Err-Memory-clause-shape
returns-in-Err-Memory-clause-shape g c = search rules

pub deal-requires : goal.deal-requires
deal-requires g c = search rules

pub returns-in-Err-clause-ran : goal.returns-in-Err-clause-ran
returns-in-Err-clause-ran g c = search rules

pub returns-in-Err-clause-ended : goal.returns-in-Err-clause-ended
returns-in-Err-clause-ended g c = search rules

pub returns-in-Err-clause-done : goal.returns-in-Err-clause-done
returns-in-Err-clause-done g c = search rules

pub returns-in-Err-clause-steady : goal.returns-in-Err-clause-steady
returns-in-Err-clause-steady g c = search rules

pub returns-in-Err-clause-device : goal.returns-in-Err-clause-device
returns-in-Err-clause-device g c = search rules

pub returns-in-Err-clause-unread : goal.returns-in-Err-clause-unread
returns-in-Err-clause-unread g c = search rules

pub returns-in-Err-clause-unwritten : goal.returns-in-Err-clause-unwritten
returns-in-Err-clause-unwritten g c = search rules

pub returns-in-Err-clause-ends : goal.returns-in-Err-clause-ends
returns-in-Err-clause-ends g c = search rules

pub returns-in-Err-clause-shape : goal.returns-in-Err-clause-shape
returns-in-Err-clause-shape g c = search rules

pub run-requires-clause-source : goal.run-requires-clause-source
run-requires-clause-source g c = search rules

pub run-requires-clause-sink : goal.run-requires-clause-sink
run-requires-clause-sink g c = search rules

pub returns-in-Ok-run-clause-ended : goal.returns-in-Ok-run-clause-ended
returns-in-Ok-run-clause-ended g c = search rules

pub returns-in-Ok-run-clause-done : goal.returns-in-Ok-run-clause-done
returns-in-Ok-run-clause-done g c = search rules

pub returns-in-Ok-run-clause-steady : goal.returns-in-Ok-run-clause-steady
returns-in-Ok-run-clause-steady g c = search rules

pub returns-in-Ok-run-clause-device : goal.returns-in-Ok-run-clause-device
returns-in-Ok-run-clause-device g c = search rules

pub returns-in-Ok-run-clause-unread : goal.returns-in-Ok-run-clause-unread
returns-in-Ok-run-clause-unread g c = search rules

pub returns-in-Ok-run-clause-unwritten : goal.returns-in-Ok-run-clause-unwritten
returns-in-Ok-run-clause-unwritten g c = search rules

pub returns-in-Ok-run-clause-ends : goal.returns-in-Ok-run-clause-ends
returns-in-Ok-run-clause-ends g c = search rules

pub returns-in-Ok-run-clause-shape : goal.returns-in-Ok-run-clause-shape
returns-in-Ok-run-clause-shape g c = search rules

pub returns-in-Err-Device-clause-ran : goal.returns-in-Err-Device-clause-ran
returns-in-Err-Device-clause-ran g c = search rules

pub returns-in-Err-Device-clause-ended : goal.returns-in-Err-Device-clause-ended
returns-in-Err-Device-clause-ended g c = search rules

pub returns-in-Err-Device-clause-done : goal.returns-in-Err-Device-clause-done
returns-in-Err-Device-clause-done g c = search rules

pub returns-in-Err-Device-clause-steady : goal.returns-in-Err-Device-clause-steady
returns-in-Err-Device-clause-steady g c = search rules

pub returns-in-Err-Device-clause-device : goal.returns-in-Err-Device-clause-device
returns-in-Err-Device-clause-device g c = search rules

pub returns-in-Err-Device-clause-unread : goal.returns-in-Err-Device-clause-unread
returns-in-Err-Device-clause-unread g c = search rules

pub returns-in-Err-Device-clause-unwritten : goal.returns-in-Err-Device-clause-unwritten
returns-in-Err-Device-clause-unwritten g c = search rules

pub returns-in-Err-Device-clause-ends : goal.returns-in-Err-Device-clause-ends
returns-in-Err-Device-clause-ends g c = search rules

pub returns-in-Err-Device-clause-shape : goal.returns-in-Err-Device-clause-shape
returns-in-Err-Device-clause-shape g c = search rules

pub returns-clause-ran : goal.returns-clause-ran
returns-clause-ran g c = search rules

pub returns-clause-ended : goal.returns-clause-ended
returns-clause-ended g c = search rules

pub returns-clause-done : goal.returns-clause-done
returns-clause-done g c = search rules

pub returns-clause-steady : goal.returns-clause-steady
returns-clause-steady g c = search rules

pub returns-clause-device : goal.returns-clause-device
returns-clause-device g c = search rules

pub returns-clause-unread : goal.returns-clause-unread
returns-clause-unread g c = search rules

pub returns-clause-unwritten : goal.returns-clause-unwritten
returns-clause-unwritten g c = search rules

pub returns-clause-ends : goal.returns-clause-ends
returns-clause-ends g c = search rules

pub returns-clause-shape : goal.returns-clause-shape
returns-clause-shape g c = search rules

pub returns-in-Err-Device-clause-stopped : goal.returns-in-Err-Device-clause-stopped
returns-in-Err-Device-clause-stopped g c = λ is.
    fresh_stop g.S.Source.gives g.W.Sink.takes g.W.Sink.failures c.args.shape c.in-Ok.opened.0
    c.args.source.now c.run.new.source c.args.out.now c.run.new.sink c.in-Ok-deal.passes.items
    c.run.new.passes.items
    c.in-Ok.ensures.limits c.in-Ok.ensures.store c.in-Ok-deal.ensures.ok
    (c.run.ensures.stopped (search rules))

pub returns-in-Err-Shape-clause-stopped : goal.returns-in-Err-Shape-clause-stopped
returns-in-Err-Shape-clause-stopped g c = search rules

pub returns-in-Err-Memory-clause-stopped : goal.returns-in-Err-Memory-clause-stopped
returns-in-Err-Memory-clause-stopped g c = search rules

pub returns-in-Err-clause-stopped : goal.returns-in-Err-clause-stopped
returns-in-Err-clause-stopped g c = search rules

pub returns-in-Ok-run-clause-stopped : goal.returns-in-Ok-run-clause-stopped
returns-in-Ok-run-clause-stopped g c = search rules

pub returns-clause-stopped : goal.returns-clause-stopped
returns-clause-stopped g c = search rules
