use Rattle.mst_words.proofs.Names.{◌≡◌, ℕ, ◌∷◌, [], arith, View}
use Rattle.mst_words.specs.Records as records
use Rattle.mst_words.proofs.ShortRows.{key_of, key_four}
use Rattle.mst_words.proofs.board.Board.key_words.Goals as goal

pub returns-then-lengths-eq-COMMON_KEY_LENGTH-clause-words :
    goal.returns-then-lengths-eq-COMMON_KEY_LENGTH-clause-words
returns-then-lengths-eq-COMMON_KEY_LENGTH-clause-words g c =
    let v : View = c.args.seat.now.me.0 in
    let f : ℕ → ℕ = records.known_row v c.args.row in
    let two : c.words_of.result ≡ f 4 ∷ f 5 ∷ [] = c.words_of.ensures.words in
    key_four f c.words_of.result two
    ((key_of v c.args.row c.requires.there).ends
    (omega (arith, c.requires.lengths, c.if-lengths-eq-COMMON_KEY_LENGTH.true)))
