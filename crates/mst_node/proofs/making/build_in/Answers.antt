use Rattle.mst_node.proofs.Names.{◌≡◌, ◌∙◌, ap, List, IfOk, Node, Pair, Format, tree, pairs, tree_of_child}
use Rattle.std.specs.declared.result.Result.{Result}
use Rattle.std.specs.declared.result.Result.TheVariants.{Ok, Err}
use Rattle.std.specs.declared.option.Option.{Option}
use Rattle.std.specs.declared.boxed.Box.{Box}
use Rattle.mst_node.proofs.UniqueTree.{pairs_tree}
use Rattle.mst_node.proofs.making.build_in.Goals as goal

-- what has the tree of the list has its pairs
pairs_too : (format : Format) (A E : Type 0) (m : List Pair)
    (r : Result (Option (Box (Node A) A)) E) → IfOk r (λ t. tree_of_child format t ≡ tree format m)
    → IfOk r (λ t. pairs (tree_of_child format t) ≡ m)
pairs_too format A E m (Ok t) is = ap pairs is ∙ pairs_tree format m
pairs_too format A E m (Err e) is = tt

pub returns-clause-pairs : goal.returns-clause-pairs
returns-clause-pairs g c = pairs_too c.args.format _ _ c.args.pairs.now c.subtree.result
    c.subtree.ensures.tree
