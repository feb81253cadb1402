use Rattle.mst_script.proofs.Names.{List, rules, subst, sym, Known, AreAllOf, RanScript, StoppedScript}
use Rattle.std.proofs.Common.{vec_items}
use Rattle.mst_script.proofs.script.run.Goals as goal

pub returns-in-Err-clause-whole : goal.returns-in-Err-clause-whole
returns-in-Err-clause-whole g c = c.requires.whole

pub returns-in-Err-clause-ok : goal.returns-in-Err-clause-ok
returns-in-Err-clause-ok g c = tt

pub returns-in-Err-clause-ended : goal.returns-in-Err-clause-ended
returns-in-Err-clause-ended g c = tt

pub returns-in-Err-clause-steady_source : goal.returns-in-Err-clause-steady_source
returns-in-Err-clause-steady_source g c = tt

pub returns-in-Err-clause-steady_sink : goal.returns-in-Err-clause-steady_sink
returns-in-Err-clause-steady_sink g c = tt

pub returns-in-Err-clause-stopped : goal.returns-in-Err-clause-stopped
returns-in-Err-clause-stopped g c = search rules

pub returns-in-Err-clause-device : goal.returns-in-Err-clause-device
returns-in-Err-clause-device g c = search rules

pub returns-in-Err-clause-memory : goal.returns-in-Err-clause-memory
returns-in-Err-clause-memory g c = search rules

pub new-all-requires-clause-empty : goal.new-all-requires-clause-empty
new-all-requires-clause-empty g c = search rules

pub new-all-requires-clause-room : goal.new-all-requires-clause-room
new-all-requires-clause-room g c = search rules

pub settle_and_drive-driven-requires-clause-source :
    goal.settle_and_drive-driven-requires-clause-source
settle_and_drive-driven-requires-clause-source g c = c.requires.source

pub settle_and_drive-driven-requires-clause-sink : goal.settle_and_drive-driven-requires-clause-sink
settle_and_drive-driven-requires-clause-sink g c = c.requires.sink

pub settle_and_drive-driven-requires-clause-pending :
    goal.settle_and_drive-driven-requires-clause-pending
settle_and_drive-driven-requires-clause-pending g c = search rules

pub settle_and_drive-driven-requires-clause-reader :
    goal.settle_and_drive-driven-requires-clause-reader
settle_and_drive-driven-requires-clause-reader g c = search rules

pub settle_and_drive-driven-requires-clause-whole :
    goal.settle_and_drive-driven-requires-clause-whole
settle_and_drive-driven-requires-clause-whole g c = search rules

pub settle_and_drive-driven-requires-clause-free : goal.settle_and_drive-driven-requires-clause-free
settle_and_drive-driven-requires-clause-free g c = search rules

pub returns-in-Ok-driven-clause-whole : goal.returns-in-Ok-driven-clause-whole
returns-in-Ok-driven-clause-whole g c = subst (λ (qs : List Known). AreAllOf c.args.store.now qs)
    (sym c.into_free.ensures.free) c.settle_and_drive-driven.ensures.whole

pub returns-in-Ok-driven-clause-ok : goal.returns-in-Ok-driven-clause-ok
returns-in-Ok-driven-clause-ok g c =
    subst (λ (ps : List Known). RanScript g.S.Source.gives g.W.Sink.takes c.args.store.now
    c.args.source.now c.args.sink.now ps c.settle_and_drive-driven.new.source
    c.settle_and_drive-driven.new.sink (vec_items c.into_free.result))
    (search rules)
    (subst (λ (qs : List Known). RanScript g.S.Source.gives g.W.Sink.takes c.args.store.now
    c.args.source.now c.args.sink.now c.new-all.result.free c.settle_and_drive-driven.new.source
    c.settle_and_drive-driven.new.sink qs)
    (sym c.into_free.ensures.free) c.in-Ok-driven.ensures.ok)

pub returns-in-Ok-driven-clause-ended : goal.returns-in-Ok-driven-clause-ended
returns-in-Ok-driven-clause-ended g c = search rules

pub returns-in-Ok-driven-clause-steady_source : goal.returns-in-Ok-driven-clause-steady_source
returns-in-Ok-driven-clause-steady_source g c = search rules

pub returns-in-Ok-driven-clause-steady_sink : goal.returns-in-Ok-driven-clause-steady_sink
returns-in-Ok-driven-clause-steady_sink g c = search rules

pub returns-in-Ok-driven-clause-stopped : goal.returns-in-Ok-driven-clause-stopped
returns-in-Ok-driven-clause-stopped g c = search rules

pub returns-in-Ok-driven-clause-device : goal.returns-in-Ok-driven-clause-device
returns-in-Ok-driven-clause-device g c = search rules

pub returns-in-Ok-driven-clause-memory : goal.returns-in-Ok-driven-clause-memory
returns-in-Ok-driven-clause-memory g c = tt

pub returns-clause-whole : goal.returns-clause-whole
returns-clause-whole g c = subst (λ (qs : List Known). AreAllOf c.args.store.now qs)
    (sym c.into_free.ensures.free) c.settle_and_drive-driven.ensures.whole

pub returns-clause-ok : goal.returns-clause-ok
returns-clause-ok g c = tt

pub returns-clause-ended : goal.returns-clause-ended
returns-clause-ended g c = tt

pub returns-clause-steady_source : goal.returns-clause-steady_source
returns-clause-steady_source g c = tt

pub returns-clause-steady_sink : goal.returns-clause-steady_sink
returns-clause-steady_sink g c = tt

pub returns-clause-stopped : goal.returns-clause-stopped
returns-clause-stopped g c = λ _.
    subst (λ (ps : List Known). StoppedScript g.S.Source.gives g.W.Sink.takes g.W.Sink.failures
    c.args.store.now
    c.args.source.now c.args.sink.now ps c.settle_and_drive-driven.new.source
    c.settle_and_drive-driven.new.sink (vec_items c.into_free.result))
    (search rules)
    (subst (λ (qs : List Known). StoppedScript g.S.Source.gives g.W.Sink.takes g.W.Sink.failures
    c.args.store.now
    c.args.source.now c.args.sink.now c.new-all.result.free c.settle_and_drive-driven.new.source
    c.settle_and_drive-driven.new.sink qs)
    (sym c.into_free.ensures.free) c.in-Err-driven.ensures.err)

pub returns-clause-device : goal.returns-clause-device
returns-clause-device g c = λ _. c.in-Err-driven.ensures.failed

pub returns-clause-memory : goal.returns-clause-memory
returns-clause-memory g c = tt
