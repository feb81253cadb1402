use Rattle.mst_path.proofs.Names.{[], ◌∷◌, sym, subst, arith, rules, Takes}
use Rattle.mst_path.proofs.lemmas.rows.Taking.{takes_append, takes_count, takes_small}
use Rattle.mst_path.proofs.node_writer.NodeWriter.begin.Goals as goal

pub take_behind-first-requires : goal.take_behind-first-requires
take_behind-first-requires g c =
    record {
      room = omega (arith, c.requires.room, takes_count _ _ _ c.take_head-head.ensures.takes);
    }

pub returns-clause-writer : goal.returns-clause-writer
returns-clause-writer g c =
    let both = takes_append _ _ _ _ _ c.take_head-head.ensures.takes
    c.take_behind-first.ensures.takes
    in
    let small = takes_small _ _ _ both c.requires.rows in
    record {
      low = c.requires.low;
      some = c.requires.some;
      few = c.requires.few;
      small = (small.0, (small.1.0, (small.1.0, tt)));
      reserved = c.requires.some;
      hashes = (_, c.heading.ensures.heading [] c.hasher_for-hasher.ensures.empty);
    }

pub returns-clause-takes : goal.returns-clause-takes
returns-clause-takes g c =
    subst (λ s. Takes c.args.desk.now s (c.take_head-head.result ∷ c.take_behind-first.result ∷ []))
    (sym c.hasher_for-hasher.ensures.same)
    (takes_append _ _ _ _ _ c.take_head-head.ensures.takes c.take_behind-first.ensures.takes)

pub take_head-head-requires : goal.take_head-head-requires
take_head-head-requires g c = search rules

pub overflow_cast-count : goal.overflow_cast-count
overflow_cast-count g c = search rules

pub returns-clause-written : goal.returns-clause-written
returns-clause-written g c = search rules

pub returns-clause-node : goal.returns-clause-node
returns-clause-node g c = search rules
