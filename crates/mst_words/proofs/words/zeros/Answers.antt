use Rattle.mst_words.proofs.Names.{ℕ, ◌+◌, List, [], ◌∷◌, ◌++◌, ◌∙◌, ap}
use Rattle.std.proofs.lemmas.List.{replicate_more}
use Rattle.mst_words.proofs.words.zeros.Goals as goal

pub loop-preserved : goal.loop-preserved
loop-preserved g c = record {
  items = c.push_reserved.ensures.items
      ∙ ap (λ (xs : List ℕ). xs ++ 0 ∷ []) c.loop.invariant.items
      ∙ replicate_more c.loop.counter 0;
  len = c.push_reserved.ensures.len ∙ ap (λ (n : ℕ). n + 1) c.loop.invariant.len;
  room = c.push_reserved.ensures.capacity ∙ c.loop.invariant.room;
}
