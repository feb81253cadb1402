use Rattle.mst_read.proofs.Names.{◌≡◌, List, length, refl, ap, Pair}
use Rattle.mst_read.proofs.Still.{part_still}
use Rattle.mst_read.proofs.Descend.{there_at, reached_at, inside, at_nothing}
use Rattle.mst_read.proofs.Lengths.{node_stands, node_counts}
use Rattle.mst_read.proofs.counting.len_below.Goals as goal

pub head_at-requires : goal.head_at-requires
head_at-requires g c = record { lies = there_at c.requires.stands.2 }

pub len_of_node-requires : goal.len_of_node-requires
len_of_node-requires g c =
    let s = c.requires.stands in
    let node = inside (reached_at s.2 (λ (ps : List Pair). ps ≡ s.1) refl c.head_at.ensures.head)
    c.in-Some.is in
    record {
      stands = (
        s.0,
        node.chain,
        part_still (ap g.R.Rows.content c.head_at.ensures.same) (node_stands node),
      );
    }

pub returns-in-Some-clause-len : goal.returns-in-Some-clause-len
returns-in-Some-clause-len g c f m s few =
    let node = inside (reached_at s (λ (ps : List Pair). ps ≡ m) refl c.head_at.ensures.head)
    c.in-Some.is in
    node_counts node (c.len_of_node.ensures.len f node.chain
    (part_still (ap g.R.Rows.content c.head_at.ensures.same) (node_stands node))) few

pub returns-in-None-clause-len : goal.returns-in-None-clause-len
returns-in-None-clause-len g c f m s few =
    ap length (at_nothing (reached_at s (λ (ps : List Pair). ps ≡ m) refl c.head_at.ensures.head)
    c.in-None.is)
