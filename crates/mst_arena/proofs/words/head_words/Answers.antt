use Rattle.mst_arena.proofs.Names.{rules, arith}
use Rattle.mst_arena.proofs.Spelling.{bytes-at}
use Rattle.mst_arena.proofs.words.head_words.Goals as goal

pub returns-clause-bytes : goal.returns-clause-bytes
returns-clause-bytes c =
    (c.told-digest, bytes-at c.args.digest.now (λ i. omega (arith, c.fits-digest i)))

pub bounds-digest_words-0 : goal.bounds-digest_words-0
bounds-digest_words-0 c = search rules

pub bounds-digest_words-1 : goal.bounds-digest_words-1
bounds-digest_words-1 c = search rules

pub bounds-digest_words-2 : goal.bounds-digest_words-2
bounds-digest_words-2 c = search rules

pub bounds-digest_words-3 : goal.bounds-digest_words-3
bounds-digest_words-3 c = search rules

pub returns-clause-words : goal.returns-clause-words
returns-clause-words c = search rules
