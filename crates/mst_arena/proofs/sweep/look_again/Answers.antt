use Rattle.mst_arena.proofs.Names.{ap, arith, rules, times}
use Rattle.mst_arena.proofs.ListLemmas.{times-append}
use Rattle.mst_arena.proofs.sweep.look_again.Goals as goal

pub returns-then-not-are_older-clause-times : goal.returns-then-not-are_older-clause-times
returns-then-not-are_older-clause-times g c = λ r.
    omega (
      arith,
      c.move_all.ensures.times r,
      ap (times r) c.move_all.ensures.empty,
      times-append r
          c.move_all.new.to.items c.move_all.new.from.items,
      times-append r c.args.dead.now.items
          c.args.held.now.items,
    )

pub move_all-requires : goal.move_all-requires
move_all-requires g c = search rules

pub returns-then-not-are_older-clause-held : goal.returns-then-not-are_older-clause-held
returns-then-not-are_older-clause-held g c = search rules

pub returns-then-not-are_older-clause-dead_room : goal.returns-then-not-are_older-clause-dead_room
returns-then-not-are_older-clause-dead_room g c = search rules

pub returns-then-not-are_older-clause-held_room : goal.returns-then-not-are_older-clause-held_room
returns-then-not-are_older-clause-held_room g c = search rules

pub returns-else-not-are_older-clause-times : goal.returns-else-not-are_older-clause-times
returns-else-not-are_older-clause-times g c = search rules

pub returns-else-not-are_older-clause-held : goal.returns-else-not-are_older-clause-held
returns-else-not-are_older-clause-held g c = search rules

pub returns-else-not-are_older-clause-dead_room : goal.returns-else-not-are_older-clause-dead_room
returns-else-not-are_older-clause-dead_room g c = search rules

pub returns-else-not-are_older-clause-held_room : goal.returns-else-not-are_older-clause-held_room
returns-else-not-are_older-clause-held_room g c = search rules
