use Rattle.mst_arena.proofs.Names.{rules}
use Rattle.std.specs.Prelude.{None}
use Rattle.mst_arena.proofs.Spelling.{from_exact}
use Rattle.mst_arena.proofs.words.candidate.Goals as goal

pub returns-in_default : goal.returns-in_default
returns-in_default c =
    record { exact = from_exact c.args.words.now None (λ row is has e. search rules) }

pub bounds-words-0 : goal.bounds-words-0
bounds-words-0 c = search rules

pub returns-in-1 : goal.returns-in-1
returns-in-1 c = search rules

pub returns-in-2 : goal.returns-in-2
returns-in-2 c = search rules
