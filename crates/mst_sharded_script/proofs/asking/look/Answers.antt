use Rattle.mst_sharded_script.proofs.Names.{◌∙◌, text_of}
use Rattle.mst_sharded_script.proofs.Stepping.{looks_on, looked}
use Rattle.mst_sharded_script.proofs.asking.look.Goals as goal

pub recall-answer-requires : goal.recall-answer-requires
recall-answer-requires g c = record { other = looks_on c.args.command.now c.requires.look }

pub returns : goal.returns
returns g c =
    looked c.args.command.now c.args.reader c.snapshot-snapshot.result c.release.result
    (text_of c.recall-answer.result) c.free.result
    (record {
      later = c.snapshot-snapshot.ensures.later;
      tries = c.snapshot-snapshot.ensures.tries;
      one = c.snapshot-snapshot.ensures.one;
    })
    (c.release.ensures.same ∙ c.recall-answer.ensures.same) c.free.ensures c.requires.look
    c.recall-answer.ensures.found
