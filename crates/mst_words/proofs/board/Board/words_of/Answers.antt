use Rattle.mst_words.proofs.Names.{arith, common_steps}
use Rattle.mst_words.specs.Records as records
use Rattle.mst_words.proofs.Accesses.{fill_from}
use Rattle.mst_words.proofs.board.Board.words_of.Goals as goal

pub returns-clause-words : goal.returns-clause-words
returns-clause-words g c = fill_from (records.known_row c.args.seat.now.me.0 c.args.row)
    c.loop-k.words c.args.from g.row.N c.loop-k.invariant.length
    (λ k lt. c.loop-k.invariant.so_far k (omega arith))

pub loop-k-init : goal.loop-k-init
loop-k-init g c = grind (arith, common_steps)
