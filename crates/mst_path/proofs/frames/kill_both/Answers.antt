use Rattle.mst_path.proofs.lemmas.steps.Framing.{second_old, both_die, one_dies}
use Rattle.mst_path.proofs.frames.kill_both.Goals as goal

pub kill-requires-in-Some : goal.kill-requires-in-Some
kill-requires-in-Some g c =
    record {
      born = second_old c.args.desk.now c.kill.new.self c.args.row c.in-Some.row c.args.other
          c.in-Some.is c.requires.old c.requires.once c.kill.ensures.dead;
    }

pub returns-in-Some : goal.returns-in-Some
returns-in-Some g c =
    record {
      moves = both_die c.args.desk.now c.kill.new.self c.args.row c.in-Some.row c.args.other
          c.in-Some.is c.requires.old c.requires.once c.kill.ensures.dead c.kill-in-Some.new.self
          c.kill-in-Some.ensures.dead;
    }

pub returns-in_default : goal.returns-in_default
returns-in_default g c =
    record {
      moves = one_dies c.args.desk.now c.kill.new.self c.args.row c.args.other
          c.in_default.is c.requires.old c.kill.ensures.dead;
    }
