use Rattle.mst_batch.proofs.TopSteps.{lower, higher, level}
use Rattle.mst_batch.proofs.top.with_item.Goals as goal

pub returns-then-layer-top : goal.returns-then-layer-top
returns-then-layer-top c = record {
  top = λ items top.
      lower c.args.top.layer c.args.top.has_tree c.args.item.now items top c.layer_of-layer.result
      c.is_tree-has_tree.result c.layer_of-layer.ensures.layer c.is_tree-has_tree.ensures.tree
      c.if-layer-top.true;
}

pub returns-then-layer-top-2 : goal.returns-then-layer-top-2
returns-then-layer-top-2 c = record {
  top = λ items top.
      higher c.args.top.layer c.args.top.has_tree c.args.item.now items top c.layer_of-layer.result
      c.is_tree-has_tree.result c.layer_of-layer.ensures.layer c.is_tree-has_tree.ensures.tree
      c.if-layer-top-2.true;
}

pub returns : goal.returns
returns c = record {
  top = λ items top.
      level c.args.top.layer c.args.top.has_tree c.args.item.now items top c.layer_of-layer.result
      c.is_tree-has_tree.result c.layer_of-layer.ensures.layer c.is_tree-has_tree.ensures.tree
      c.if-layer-top.false c.if-layer-top-2.false;
}
