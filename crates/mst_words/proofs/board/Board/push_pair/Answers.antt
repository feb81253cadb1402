use Rattle.mst_words.proofs.Names.{◌∙◌, ◌++◌, ◌∷◌, [], ap, sym, same_Some, Pair, part_at, entry_pair, content_of}
use Rattle.mst_words.proofs.board.Board.push_pair.Goals as goal

pub returns-then-lengths-eq-COMMON_LENGTHS-clause-pushed :
    goal.returns-then-lengths-eq-COMMON_LENGTHS-clause-pushed
returns-then-lengths-eq-COMMON_LENGTHS-clause-pushed g c pair is =
    c.push_reserved.ensures.items
    ∙ ap (λ (p : Pair). c.args.list.now.items ++ p ∷ [])
    (same_Some c.pair_by.result pair
    (sym c.pair_by.ensures.pair
    ∙ (ap (λ me. part_at entry_pair (content_of me.0) c.args.row) c.word-lengths.ensures.same.2
    ∙ is)))

pub returns-else-lengths-eq-COMMON_LENGTHS-clause-pushed :
    goal.returns-else-lengths-eq-COMMON_LENGTHS-clause-pushed
returns-else-lengths-eq-COMMON_LENGTHS-clause-pushed g c pair is =
    c.push_reserved-else-lengths-eq-COMMON_LENGTHS.ensures.items
    ∙ ap (λ (p : Pair). c.args.list.now.items ++ p ∷ [])
    (same_Some c.pair_by-else-lengths-eq-COMMON_LENGTHS.result pair
    (sym c.pair_by-else-lengths-eq-COMMON_LENGTHS.ensures.pair
    ∙ (ap (λ me. part_at entry_pair (content_of me.0) c.args.row) c.word-lengths.ensures.same.2
    ∙ is)))
