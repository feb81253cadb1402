use Rattle.mst_arena.proofs.Names.{rules}
use Rattle.mst_arena.proofs.row.Root.words.Goals as goal

pub bounds-digest_words-0 : goal.bounds-digest_words-0
bounds-digest_words-0 c = search rules

pub bounds-digest_words-1 : goal.bounds-digest_words-1
bounds-digest_words-1 c = search rules

pub bounds-digest_words-2 : goal.bounds-digest_words-2
bounds-digest_words-2 c = search rules

pub bounds-digest_words-3 : goal.bounds-digest_words-3
bounds-digest_words-3 c = search rules

pub returns : goal.returns
returns c = search rules
