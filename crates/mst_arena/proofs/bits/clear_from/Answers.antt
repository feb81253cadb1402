use Rattle.mst_arena.proofs.Names.{arith}
use Rattle.mst_arena.proofs.BitLemmas.{clear_from_on, clear_there, lowest_clear_le, set_below_clear}
use Rattle.mst_arena.proofs.bits.clear_from.Goals as goal

pub returns-clause-set : goal.returns-clause-set
returns-clause-set c i le below =
    set_below_clear c.args.word c.args.from i (omega arith) (omega arith) le below

pub returns-clause-clear : goal.returns-clause-clear
returns-clause-clear c there =
    clear_there c.args.word c.args.from (omega arith) (omega arith) there

pub returns-clause-within : goal.returns-clause-within
returns-clause-within c = (
  clear_from_on c.args.word c.args.from (omega arith),
  lowest_clear_le c.args.word c.args.from,
)
