use Rattle.mst_node.proofs.Names.{take, arith, length-take, layer_in}
use Rattle.mst_node.proofs.TopNodes.{at_layer-le}
use Rattle.mst_node.proofs.root.Top.of.Goals as goal

pub with-top-requires : goal.with-top-requires
with-top-requires c =
    record {
      few =
          omega (
            arith,
            c.requires.few,
            c.loop-pair.invariant.count,
            at_layer-le (layer_in c.args.format)
                c.loop-pair.top.layer (take c.loop-pair.pair-index c.args.pairs.now),
            length-take c.loop-pair.pair-index c.args.pairs.now,
          );
    }

pub loop-pair-init : goal.loop-pair-init
loop-pair-init c = c.none-top.ensures.top c.args.format
