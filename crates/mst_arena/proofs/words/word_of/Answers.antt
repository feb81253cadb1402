use Rattle.mst_arena.specs.Words.{word_from}
use Rattle.mst_arena.proofs.words.word_of.Goals as goal

pub returns : goal.returns
unfolding word_from
returns c = record { word = cc }
