use Rattle.mst_arena.proofs.Names.{ℕ, map, sym, ap, ◌∙◌, arith, range_with_len, byte_of_words}
use Rattle.mst_arena.specs.Words.{word_from}
use Rattle.mst_arena.proofs.Packing.{packed, bytes_back}
use Rattle.mst_arena.proofs.Spelling.{bytes-at}
use Rattle.mst_arena.proofs.words.digest_words.Goals as goal

pub returns-clause-bytes : goal.returns-clause-bytes
unfolding word_from
returns-clause-bytes c =
    rw c.word_from.ensures.word
    (rw c.word_from-2.ensures.word (rw c.word_from-3.ensures.word (rw c.word_from-4.ensures.word
    (ap (λ (n : ℕ). map (byte_of_words (packed 4 c.args.digest.now)) (range_with_len 0 n))
    (sym c.told-digest) ∙ bytes_back 4 c.args.digest.now
    (bytes-at c.args.digest.now (λ i. omega (arith, c.fits-digest i)))
    (omega (arith, c.told-digest))))))
