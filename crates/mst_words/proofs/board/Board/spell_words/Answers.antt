use Rattle.mst_words.proofs.Names.{◌≡◌, ◌++◌, ◌∙◌, ◌%◌, ◌/◌, ℕ, map, take, subst, ap, arith, range_with_len, child_text, counted, bytes_in, View}
use Rattle.mst_words.specs.Records as records
use Rattle.mst_words.proofs.EntryRows.{PairAt, lengths_at, pair_at}
use Rattle.mst_words.proofs.board.Board.spell_words.Goals as goal

pub take_words-requires-clause-key : goal.take_words-requires-clause-key
take_words-requires-clause-key g c =
    omega (
      arith,
      c.word-lengths.ensures.word,
      (lengths_at c.args.seat.now.me.0 c.args.row c.requires.there).key,
    )

pub take_words-requires-clause-value : goal.take_words-requires-clause-value
take_words-requires-clause-value g c =
    omega (
      arith,
      c.word-lengths.ensures.word,
      (lengths_at c.args.seat.now.me.0 c.args.row c.requires.there).value,
    )

pub returns-clause-entry : goal.returns-clause-entry
returns-clause-entry g c pair is m took =
    let v : View = c.args.seat.now.me.0 in
    let f : ℕ → ℕ = records.known_row v c.args.row in
    let p : PairAt v c.args.row pair = pair_at v c.args.row pair is in
    let lengths : c.word-lengths.result ≡ f 3 = c.word-lengths.ensures.word in
    let key_words : c.words-key.result ≡ map f (range_with_len 4 4) = c.words-key.ensures.words
    ∙ ap (λ me. map (records.known_row me.0 c.args.row) (range_with_len 4 4))
    c.word-lengths.ensures.same.2 in
    let value_words : c.words-value.result ≡ map f (range_with_len 8 8) =
    c.words-value.ensures.words
    ∙ ap (λ me. map (records.known_row me.0 c.args.row) (range_with_len 8 8))
    (c.words-key.ensures.same.2 ∙ c.word-lengths.ensures.same.2) in
    let key : take (c.word-lengths.result % 256) (bytes_in c.words-key.result) ≡ pair.0 =
    (λ i. take (lengths i % 256) (bytes_in (key_words i))) ∙ p.key in
    let value : take (c.word-lengths.result / 256) (bytes_in c.words-value.result) ≡ pair.1 =
    (λ i. take (lengths i / 256) (bytes_in (value_words i))) ∙ p.value in
    subst (g.S.TextSink.took c.take_words.new.sink)
    (λ i. ((m ++ child_text c.args.child) ++ counted (key i)) ++ counted (value i))
    (c.take_words.ensures.entry m took)

pub returns-clause-limits : goal.returns-clause-limits
returns-clause-limits g c pair is = (pair_at c.args.seat.now.me.0 c.args.row pair is).limits
