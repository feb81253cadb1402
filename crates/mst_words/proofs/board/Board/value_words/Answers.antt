use Rattle.mst_words.proofs.Names.{◌≡◌, ℕ, ◌∷◌, [], arith, View}
use Rattle.mst_words.specs.Records as records
use Rattle.mst_words.proofs.ShortRows.{value_of, value_words}
use Rattle.mst_words.proofs.board.Board.value_words.Goals as goal

pub returns-then-lengths-eq-COMMON_VALUE_LENGTH-clause-words :
    goal.returns-then-lengths-eq-COMMON_VALUE_LENGTH-clause-words
returns-then-lengths-eq-COMMON_VALUE_LENGTH-clause-words g c =
    let v : View = c.args.seat.now.me.0 in
    let f : ℕ → ℕ = records.known_row v c.args.row in
    let four : c.words_of.result ≡ f 8 ∷ f 9 ∷ f 10 ∷ f 11 ∷ [] = c.words_of.ensures.words in
    value_words f c.words_of.result four
    ((value_of v c.args.row c.requires.there).ends
    (omega (arith, c.requires.lengths, c.if-lengths-eq-COMMON_VALUE_LENGTH.true)))
