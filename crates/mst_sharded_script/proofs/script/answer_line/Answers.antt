use Rattle.mst_sharded_script.proofs.Names.{on_err, text_of}
use Rattle.mst_sharded_script.proofs.script.answer_line.Goals as goal

pub returns-in_err-put_sharded-clause-err : goal.returns-in_err-put_sharded-clause-err
returns-in_err-put_sharded-clause-err g c = on_err c.from_residual.result (
  c.serve-answer.result.1,
  record {
    text = text_of c.serve-answer.result.0;
    reply = c.serve-answer.ensures;
    breaks = c.in_err-put_sharded.ensures.err;
  },
)
