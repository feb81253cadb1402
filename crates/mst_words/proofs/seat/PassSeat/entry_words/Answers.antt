use Rattle.mst_words.proofs.Names.{◌≡◌, ℕ, ◌∷◌, [], List, ◌∙◌, ap, arith, map, slice_index_or, range_with_len, View, Seated}
use Rattle.mst_words.specs.Records as records
use Rattle.mst_words.proofs.ShortRows.{key_of, key_words}
use Rattle.mst_words.proofs.seat.PassSeat.entry_words.Goals as goal

pub returns-then-lengths-eq-COMMON_KEY_LENGTH-clause-words :
    goal.returns-then-lengths-eq-COMMON_KEY_LENGTH-clause-words
returns-then-lengths-eq-COMMON_KEY_LENGTH-clause-words g c =
    let v : View = c.args.self.now.me.0 in
    let f : ℕ → ℕ = records.known_row v c.args.row in
    let three : c.words.result ≡ f 1 ∷ f 2 ∷ f 3 ∷ [] = c.words.ensures.words in
    let two : c.words-then-lengths-eq-COMMON_KEY_LENGTH.result ≡ f 4 ∷ f 5 ∷ [] =
    c.words-then-lengths-eq-COMMON_KEY_LENGTH.ensures.words
    ∙ ap (λ (z : Seated). map (records.known_row z.me.0 c.args.row) (range_with_len 4 2))
    c.words.ensures.same in
    let third : slice_index_or c.words.result 2 0 ≡ f 3 =
    ap (λ (l : List ℕ). slice_index_or l 2 0) three in
    key_words f c.words.result c.words-then-lengths-eq-COMMON_KEY_LENGTH.result three two
    ((key_of v c.args.row c.requires.there).ends
    (omega (arith, third, c.if-lengths-eq-COMMON_KEY_LENGTH.true)))
