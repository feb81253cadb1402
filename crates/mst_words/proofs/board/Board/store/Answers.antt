use Rattle.mst_words.proofs.Names.{refl, rules}
use Rattle.mst_words.proofs.board.Board.store.Goals as goal

pub store_by-requires-clause-own : goal.store_by-requires-clause-own
store_by-requires-clause-own g c = search rules

pub store_by-requires-clause-there : goal.store_by-requires-clause-there
store_by-requires-clause-there g c = search rules

pub store_by-requires-clause-may : goal.store_by-requires-clause-may
store_by-requires-clause-may g c = (c.requires.holder, c.requires.writable)

pub store_by-requires-clause-stores : goal.store_by-requires-clause-stores
store_by-requires-clause-stores g c = λ n. refl

pub store_by-requires-clause-blind : goal.store_by-requires-clause-blind
store_by-requires-clause-blind g c = λ n m t. t

pub returns-clause-same : goal.returns-clause-same
returns-clause-same g c = search rules

pub returns-clause-written : goal.returns-clause-written
returns-clause-written g c = search rules
