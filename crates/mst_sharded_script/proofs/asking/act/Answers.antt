use Rattle.mst_sharded_script.proofs.asking.act.Goals as goal

pub read-answer-requires-clause-put : goal.read-answer-requires-clause-put
read-answer-requires-clause-put g c = c.in_default.not-Put

pub read-answer-requires-clause-remove : goal.read-answer-requires-clause-remove
read-answer-requires-clause-remove g c = c.in_default.not-Remove

pub read-answer-requires-clause-batch : goal.read-answer-requires-clause-batch
read-answer-requires-clause-batch g c = c.in_default.not-Batch

pub read-answer-requires-clause-other : goal.read-answer-requires-clause-other
read-answer-requires-clause-other g c = c.requires.other

pub returns-in_default : goal.returns-in_default
returns-in_default g c = c.read-answer.ensures c.args.writer
