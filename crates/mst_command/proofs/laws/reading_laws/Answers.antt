use Rattle.std.proofs.Common.{arith}
use Rattle.mst_command.proofs.laws.reading_laws.Goals as goal

pub returns-clause-all : goal.returns-clause-all
returns-clause-all c = λ most s t bytes read. omega (arith, read.given.counted, read.within)

pub returns-clause-more : goal.returns-clause-more
returns-clause-more c = λ most s t read. (
  omega (arith, read.given.counted, read.beyond),
  omega (arith, read.given.counted, read.within),
)
