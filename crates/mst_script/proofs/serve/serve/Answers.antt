use Rattle.mst_script.proofs.Names.{rules}
use Rattle.mst_script.proofs.AllOf.{all_passes, all_settled}
use Rattle.mst_script.proofs.Serving.{line_served}
use Rattle.mst_script.proofs.serve.serve.Goals as goal

pub settle-requires : goal.settle-requires
settle-requires g c =
    record {
      whole = all_passes c.args.store.now c.answer-answer.new.passes
          c.answer-answer.ensures.whole;
    }

pub returns-clause-whole : goal.returns-clause-whole
returns-clause-whole g c = search (rules, all_settled)

pub returns-clause-serves : goal.returns-clause-serves
returns-clause-serves g c = search (rules, line_served)

pub returns-in-Err-clause-whole : goal.returns-in-Err-clause-whole
returns-in-Err-clause-whole g c = search rules

pub returns-in-Err-clause-serves : goal.returns-in-Err-clause-serves
returns-in-Err-clause-serves g c = search rules

pub answer-answer-requires-clause-whole : goal.answer-answer-requires-clause-whole
answer-answer-requires-clause-whole g c = search rules

pub answer-answer-requires-clause-dealt : goal.answer-answer-requires-clause-dealt
answer-answer-requires-clause-dealt g c = search rules
