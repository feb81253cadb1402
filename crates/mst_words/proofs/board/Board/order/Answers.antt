use Rattle.mst_words.proofs.Names.{rules}
use Rattle.mst_words.proofs.board.Board.order.Goals as goal

pub bounds-words-0 : goal.bounds-words-0
bounds-words-0 g c = search rules

pub linked_word-stored-requires-clause-readable : goal.linked_word-stored-requires-clause-readable
linked_word-stored-requires-clause-readable g c = search rules

pub linked_word-stored-requires-clause-there : goal.linked_word-stored-requires-clause-there
linked_word-stored-requires-clause-there g c = search rules

pub order_behind-requires-clause-own : goal.order_behind-requires-clause-own
order_behind-requires-clause-own g c = search rules

pub order_behind-requires-clause-readable : goal.order_behind-requires-clause-readable
order_behind-requires-clause-readable g c = search rules

pub returns-then-first-stored-clause-order : goal.returns-then-first-stored-clause-order
returns-then-first-stored-clause-order g c = search rules

pub returns-then-first-stored-clause-limits : goal.returns-then-first-stored-clause-limits
returns-then-first-stored-clause-limits g c = search rules

pub returns-then-first-stored-clause-range : goal.returns-then-first-stored-clause-range
returns-then-first-stored-clause-range g c = search rules

pub returns-then-first-stored-clause-same : goal.returns-then-first-stored-clause-same
returns-then-first-stored-clause-same g c = search rules

pub returns-then-stored-first-clause-order : goal.returns-then-stored-first-clause-order
returns-then-stored-first-clause-order g c = search rules

pub returns-then-stored-first-clause-limits : goal.returns-then-stored-first-clause-limits
returns-then-stored-first-clause-limits g c = search rules

pub returns-then-stored-first-clause-range : goal.returns-then-stored-first-clause-range
returns-then-stored-first-clause-range g c = search rules

pub returns-then-stored-first-clause-same : goal.returns-then-stored-first-clause-same
returns-then-stored-first-clause-same g c = search rules

pub returns-else-first-stored-clause-order : goal.returns-else-first-stored-clause-order
returns-else-first-stored-clause-order g c = search rules

pub returns-else-first-stored-clause-limits : goal.returns-else-first-stored-clause-limits
returns-else-first-stored-clause-limits g c = search rules

pub returns-else-first-stored-clause-range : goal.returns-else-first-stored-clause-range
returns-else-first-stored-clause-range g c = search rules

pub returns-else-first-stored-clause-same : goal.returns-else-first-stored-clause-same
returns-else-first-stored-clause-same g c = search rules

pub linked_word-stored-requires-clause-own : goal.linked_word-stored-requires-clause-own
linked_word-stored-requires-clause-own g c = search rules
