use Rattle.mst_arena.proofs.Names.{◌≡◌, ◌∙◌, false, sym, arith, nat_tests}
use Rattle.std.proofs.Common.{nat_lt}
use Rattle.mst_arena.proofs.Rising.{none_reached}
use Rattle.mst_arena.proofs.sweep.stays.Goals as goal

pub returns-else-lowest-death : goal.returns-else-lowest-death
returns-else-lowest-death c =
    let dead : nat_lt c.args.lowest c.args.death ≡ false =
    grind (arith, nat_tests, c.if-lowest-death.false) in
    let none = none_reached c.args.birth c.args.death c.args.lowest c.args.live.now
    c.requires.lowest (omega (arith, c.if-lowest-death.false)) in
    record { stays = dead ∙ sym none }
