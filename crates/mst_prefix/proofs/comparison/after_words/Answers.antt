use Rattle.mst_prefix.proofs.Words.{past_both, past_if, stripped}
use Rattle.mst_prefix.proofs.comparison.after_words.Goals as goal

pub loop-preserved : goal.loop-preserved
loop-preserved c = record {
  past = past_both _ _ _ _ _ _ c.loop.invariant.past c.in_ok-rests.ensures.past;
}

pub returns : goal.returns
returns c = record {
  rest = past_if (λ r. r.now) _ _ _ _ c.loop.invariant.past c.strip_prefix.result
      (stripped (λ r. r.now) _ _ c.strip_prefix.result c.strip_prefix.ensures.cases);
}
