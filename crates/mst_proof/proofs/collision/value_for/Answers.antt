use Rattle.mst_proof.proofs.Names.{arith, out-Node, tree_of_child}
use Rattle.mst_proof.proofs.Beside.{held_of_node, held_step, held_end}
use Rattle.mst_proof.proofs.collision.value_for.Goals as goal

pub loop-entry-init : goal.loop-entry-init
loop-entry-init g c = λ format. held_of_node format g.row.B.Denot c.args.key.now c.args.node.now

pub returns-in-Less : goal.returns-in-Less
returns-in-Less g c =
    let B = g.row.B.Denot in
    let n = out-Node B c.args.node.now in
    record {
      value = λ format. held_step format B c.args.key.now c.deref-entry-items.result.now
          n.entries.items c.loop-entry.entry-index c.entry-item.result (tree_of_child format n.tail)
          _
          _ c.deref-entry-items.ensures.value c.loop-entry-test.true c.entry-item.is
          c.in-Less.ensures
          (c.loop-entry.invariant format);
    }

pub returns-in-Equal : goal.returns-in-Equal
returns-in-Equal g c =
    let B = g.row.B.Denot in
    let n = out-Node B c.args.node.now in
    record {
      value = λ format. held_step format B c.args.key.now c.deref-entry-items.result.now
          n.entries.items c.loop-entry.entry-index c.entry-item.result (tree_of_child format n.tail)
          _
          _ c.deref-entry-items.ensures.value c.loop-entry-test.true c.entry-item.is
          c.in-Equal.ensures (c.loop-entry.invariant format);
    }

pub loop-entry-preserved : goal.loop-entry-preserved
loop-entry-preserved g c =
    let B = g.row.B.Denot in
    let n = out-Node B c.args.node.now in
    λ format. held_step format B c.args.key.now c.deref-entry-items.result.now n.entries.items
    c.loop-entry.entry-index c.entry-item.result (tree_of_child format n.tail) _ _
    c.deref-entry-items.ensures.value c.loop-entry-test.true c.entry-item.is
    c.in-Greater.ensures (c.loop-entry.invariant format)

pub returns : goal.returns
returns g c =
    let B = g.row.B.Denot in
    let n = out-Node B c.args.node.now in
    record {
      value = λ format. held_end format B c.args.key.now c.deref-entry-items.result.now
          n.entries.items c.loop-entry.entry-index (tree_of_child format n.tail) _
          c.deref-entry-items.ensures.value (omega arith) (c.loop-entry.invariant format);
    }
