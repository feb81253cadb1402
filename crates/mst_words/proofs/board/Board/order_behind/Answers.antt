use Rattle.mst_words.proofs.Names.{rules}
use Rattle.mst_words.proofs.board.Board.order_behind.Goals as goal

pub bounds-words-1 : goal.bounds-words-1
bounds-words-1 g c = search rules

pub bounds-words-2 : goal.bounds-words-2
bounds-words-2 g c = search rules

pub bounds-words-3 : goal.bounds-words-3
bounds-words-3 g c = search rules

pub word-requires-clause-readable : goal.word-requires-clause-readable
word-requires-clause-readable g c = search rules

pub word-requires-clause-there : goal.word-requires-clause-there
word-requires-clause-there g c = search rules

pub next_order-order-requires-clause-readable : goal.next_order-order-requires-clause-readable
next_order-order-requires-clause-readable g c = search rules

pub next_order-order-requires-clause-there : goal.next_order-order-requires-clause-there
next_order-order-requires-clause-there g c = search rules

pub next_order-order-requires-2-clause-readable : goal.next_order-order-requires-2-clause-readable
next_order-order-requires-2-clause-readable g c = search rules

pub next_order-order-requires-2-clause-there : goal.next_order-order-requires-2-clause-there
next_order-order-requires-2-clause-there g c = search rules

pub length_order-requires-clause-own : goal.length_order-requires-clause-own
length_order-requires-clause-own g c = search rules

pub length_order-requires-clause-readable : goal.length_order-requires-clause-readable
length_order-requires-clause-readable g c = search rules

pub returns-clause-order : goal.returns-clause-order
returns-clause-order g c = search rules

pub returns-clause-same : goal.returns-clause-same
returns-clause-same g c = search rules

pub word-requires-clause-own : goal.word-requires-clause-own
word-requires-clause-own g c = search rules

pub next_order-order-requires-clause-own : goal.next_order-order-requires-clause-own
next_order-order-requires-clause-own g c = search rules

pub next_order-order-requires-2-clause-own : goal.next_order-order-requires-2-clause-own
next_order-order-requires-2-clause-own g c = search rules
