use Rattle.mst_words.proofs.Names.{◌∙◌, Some, sym, ap, arith, may_read}
use Rattle.mst_words.proofs.ShortRows.{key_of, links_of}
use Rattle.mst_words.proofs.WordWays.{loaded_still}
use Rattle.mst_words.proofs.board.Board.links.Goals as goal

pub word-child-requires-clause-readable : goal.word-child-requires-clause-readable
word-child-requires-clause-readable g c =
    (key_of c.args.seat.now.me.0 c.args.row c.requires.there).readable

pub word-next-requires-clause-readable : goal.word-next-requires-clause-readable
word-next-requires-clause-readable g c =
    ap (λ m. may_read m.0 c.args.row) c.word-child.ensures.same.2
    ∙ (key_of c.args.seat.now.me.0 c.args.row c.requires.there).readable

pub overflow_cast-result : goal.overflow_cast-result
overflow_cast-result g c =
    let is = c.word-child.ensures.word in
    let small = (links_of c.args.seat.now.me.0 c.args.row c.requires.there).child in
    omega (arith, is, small)

pub overflow_cast-result-2 : goal.overflow_cast-result-2
overflow_cast-result-2 g c =
    let is = loaded_still c.word-child.ensures.same.2 c.args.row 2 c.word-next.ensures.word in
    let small = (links_of c.args.seat.now.me.0 c.args.row c.requires.there).next in
    omega (arith, is, small)

pub returns-clause-value : goal.returns-clause-value
returns-clause-value g c =
    let one = c.word-child.ensures.word in
    let two = loaded_still c.word-child.ensures.same.2 c.args.row 2 c.word-next.ensures.word in
    (links_of c.args.seat.now.me.0 c.args.row c.requires.there).ends
    ∙ (λ i. Some (record { child = sym one i; next = sym two i }))
