use Rattle.std.proofs.Common.{rules}
use Rattle.std.proofs.Common.{◌+◌}
use Rattle.mst.proofs.Asked.{asked_script, asked_sharded, asked_replay, asked_verify, asked_load, asked_others, not_verified, words_device, still_unread, still_untouched, task_comes, words_come, no_device}
use Rattle.mst.proofs.Endings.{performed}
use Rattle.mst.proofs.program.perform.Goals as goal

pub returns-in-Ok-clause-ran : goal.returns-in-Ok-clause-ran
returns-in-Ok-clause-ran g c = asked_script g.S.Source.gives g.S.Source.left g.W.Sink.takes
    c.args.words.now c.in-Ok.task c.execute.result c.args.source.now c.execute.new.source
    c.args.out.now c.execute.new.out c.in-Ok.ensures.asked c.execute.ensures.did

pub returns-in-Ok-clause-sharded : goal.returns-in-Ok-clause-sharded
returns-in-Ok-clause-sharded g c = asked_sharded g.S.Source.gives g.S.Source.left g.W.Sink.takes
    c.args.words.now c.in-Ok.task c.execute.result c.args.source.now c.execute.new.source
    c.args.out.now c.execute.new.out c.in-Ok.ensures.asked c.execute.ensures.did

pub returns-in-Err-clause-sharded : goal.returns-in-Err-clause-sharded
returns-in-Err-clause-sharded g c = search rules

pub returns-in-Ok-clause-replayed : goal.returns-in-Ok-clause-replayed
returns-in-Ok-clause-replayed g c = asked_replay g.S.Source.gives g.S.Source.left g.W.Sink.takes
    c.args.words.now c.in-Ok.task c.execute.result c.args.source.now c.execute.new.source
    c.args.out.now c.execute.new.out c.in-Ok.ensures.asked c.execute.ensures.did

pub returns-in-Ok-clause-loaded : goal.returns-in-Ok-clause-loaded
returns-in-Ok-clause-loaded g c = asked_load g.S.Source.gives g.S.Source.left g.W.Sink.takes
    c.args.words.now c.in-Ok.task c.execute.result c.args.source.now c.execute.new.source
    c.args.out.now c.execute.new.out c.in-Ok.ensures.asked c.execute.ensures.did

pub returns-in-Ok-clause-verified : goal.returns-in-Ok-clause-verified
returns-in-Ok-clause-verified g c = asked_verify g.S.Source.gives g.S.Source.left g.W.Sink.takes
    c.args.words.now c.in-Ok.task c.execute.result c.args.source.now c.execute.new.source
    c.args.out.now c.execute.new.out c.in-Ok.ensures.asked c.execute.ensures.did

pub returns-in-Ok-clause-others : goal.returns-in-Ok-clause-others
returns-in-Ok-clause-others g c = asked_others g.S.Source.gives g.S.Source.left g.W.Sink.takes
    c.args.words.now c.in-Ok.task c.execute.result c.args.source.now c.execute.new.source
    c.args.out.now c.execute.new.out c.in-Ok.ensures.asked c.execute.ensures.did

pub returns-in-Ok-clause-untouched : goal.returns-in-Ok-clause-untouched
returns-in-Ok-clause-untouched g c =
    λ none. c.execute.ensures.untouched
    (not_verified c.args.words.now c.in-Ok.task c.in-Ok.ensures.asked none)

pub returns-in-Err-clause-device : goal.returns-in-Err-clause-device
returns-in-Err-clause-device g c = words_device c.in-Err.why c.in-Err.ensures.refused
    (g.S.Source.failures c.args.source.now + g.W.Sink.failures c.args.out.now)

pub returns-in-Err-clause-unread : goal.returns-in-Err-clause-unread
returns-in-Err-clause-unread g c = still_unread c.in-Err.why c.args.source.now

pub returns-in-Err-clause-untouched : goal.returns-in-Err-clause-untouched
returns-in-Err-clause-untouched g c = λ none. still_untouched c.in-Err.why c.args.source.now

pub returns-in-Err-clause-unwritten : goal.returns-in-Err-clause-unwritten
returns-in-Err-clause-unwritten g c = still_untouched c.in-Err.why c.args.out.now

pub returns-in-Ok-clause-comes : goal.returns-in-Ok-clause-comes
returns-in-Ok-clause-comes g c = task_comes c.args.words.now c.in-Ok.task c.execute.result
    c.in-Ok.ensures.asked c.execute.ensures.shape c.execute.ensures.splits c.execute.ensures.root
    c.execute.ensures.key c.execute.ensures.ends

pub returns-in-Ok-clause-stopped : goal.returns-in-Ok-clause-stopped
returns-in-Ok-clause-stopped g c =
    λ is. (c.in-Ok.task, c.in-Ok.ensures.asked, c.execute.ensures.stopped is)

pub returns-in-Err-clause-comes : goal.returns-in-Err-clause-comes
returns-in-Err-clause-comes g c = words_come c.args.words.now c.in-Err.why c.in-Err.ensures.refused
    c.in-Err.ensures.other

pub returns-in-Err-clause-stopped : goal.returns-in-Err-clause-stopped
returns-in-Err-clause-stopped g c =
    λ is. absurd (no_device c.in-Err.why c.in-Err.ensures.refused is)

pub execute-requires-clause-source : goal.execute-requires-clause-source
execute-requires-clause-source g c = search rules

pub execute-requires-clause-out : goal.execute-requires-clause-out
execute-requires-clause-out g c = search rules

pub returns-in-Ok-clause-steady : goal.returns-in-Ok-clause-steady
returns-in-Ok-clause-steady g c = search rules

pub returns-in-Ok-clause-device : goal.returns-in-Ok-clause-device
returns-in-Ok-clause-device g c = search rules

pub returns-in-Ok-clause-unread : goal.returns-in-Ok-clause-unread
returns-in-Ok-clause-unread g c = search rules

pub returns-in-Ok-clause-unwritten : goal.returns-in-Ok-clause-unwritten
returns-in-Ok-clause-unwritten g c = search rules

pub returns-in-Err-clause-ran : goal.returns-in-Err-clause-ran
returns-in-Err-clause-ran g c = search rules

pub returns-in-Err-clause-replayed : goal.returns-in-Err-clause-replayed
returns-in-Err-clause-replayed g c = search rules

pub returns-in-Err-clause-loaded : goal.returns-in-Err-clause-loaded
returns-in-Err-clause-loaded g c = search rules

pub returns-in-Err-clause-verified : goal.returns-in-Err-clause-verified
returns-in-Err-clause-verified g c = search rules

pub returns-in-Err-clause-others : goal.returns-in-Err-clause-others
returns-in-Err-clause-others g c = search rules

pub returns-in-Err-clause-steady : goal.returns-in-Err-clause-steady
returns-in-Err-clause-steady g c = search rules

pub returns-in-Ok-clause-performed : goal.returns-in-Ok-clause-performed
returns-in-Ok-clause-performed g c = performed g.S.Source.gives g.S.Source.left g.W.Sink.takes
    c.args.words.now c.in-Ok.task c.execute.result c.args.source.now c.execute.new.source
    c.args.out.now c.execute.new.out c.in-Ok.ensures.asked c.execute.ensures.did

pub returns-in-Err-clause-performed : goal.returns-in-Err-clause-performed
returns-in-Err-clause-performed g c = search rules
