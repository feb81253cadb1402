use Rattle.mst_arena.proofs.Names.{rules}
use Rattle.mst_arena.proofs.row.Root.read.Goals as goal

pub bounds-words-0 : goal.bounds-words-0
bounds-words-0 c = search rules

pub bounds-words-1 : goal.bounds-words-1
bounds-words-1 c = search rules

pub bounds-words-2 : goal.bounds-words-2
bounds-words-2 c = search rules

pub bounds-words-3 : goal.bounds-words-3
bounds-words-3 c = search rules

pub bounds-words-4 : goal.bounds-words-4
bounds-words-4 c = search rules

pub overflow_cast-result : goal.overflow_cast-result
overflow_cast-result c = search rules

pub bytes_of_four-requires : goal.bytes_of_four-requires
bytes_of_four-requires c = search rules

pub returns : goal.returns
returns c = search rules
