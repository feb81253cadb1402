use Rattle.std.specs.Prelude.{take, vec_items}
use Rattle.mst.specs.Commanded.{AreTexts}
use Rattle.mst.proofs.starting.words_of.Given as goal

-- so far they are the first texts
abbrev pub invariant-loop-text : goal.invariant-loop-text
invariant-loop-text l = AreTexts (vec_items l.words) (take l.text-index l.texts)
