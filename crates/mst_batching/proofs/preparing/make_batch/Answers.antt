use Rattle.mst_versions.proofs.Made.{map_stands, same_seat}
use Rattle.mst_batching.proofs.Batched.{batch_made, batch_lacks}
use Rattle.mst_batching.proofs.preparing.make_batch.Goals as goal

pub apply-requires : goal.apply-requires
apply-requires g c =
    record {
      stands = map_stands c.args.turn.now c.args.seat.now.me c.requires.turn;
      free =
          c.requires.turn.blank;
    }

pub returns-clause-same : goal.returns-clause-same
returns-clause-same g c = same_seat c.args.seat.now c.apply.new.rows c.apply.ensures.beside.1

pub returns-clause-made : goal.returns-clause-made
returns-clause-made g c =
    let did = c.apply.ensures in
    batch_made c.args.turn.now c.args.seat.now c.apply.new.rows c.requires.turn c.args.edits.now
    c.apply.new.desk did.beside.1 c.requires.open did.written c.apply.result did.stands did.cost
    did.changes did.made

pub returns-clause-lacks : goal.returns-clause-lacks
returns-clause-lacks g c =
    batch_lacks c.args.turn.now c.args.seat.now.me c.requires.turn c.args.edits.now c.apply.result
    c.apply.ensures.lacks
