use Rattle.mst_prefix.proofs.Words.{past_first}
use Rattle.mst_prefix.proofs.comparison.past_word.Goals as goal

pub returns-then-is_same_word : goal.returns-then-is_same_word
returns-then-is_same_word c = record {
  past = past_first 8 _ _ _ _ _ _ c.in_ok-first.ensures.cases.0 c.in_ok-first.ensures.cases.1
      c.in_ok-second.ensures.cases.0 c.in_ok-second.ensures.cases.1
      (c.is_same_word.ensures.same c.if-is_same_word.true);
}
