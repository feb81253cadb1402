use Rattle.mst_node.proofs.Names.{arith}
use Rattle.mst_node.proofs.TopNodes.{is_top-above, is_top-same, is_top-below}
use Rattle.mst_node.proofs.root.Top.with.Goals as goal

pub returns-then-layer-self : goal.returns-then-layer-self
returns-then-layer-self c =
    record { top = λ f m p is e. is_top-above f m p c.args.self c.args.layer is e (omega arith) }

pub returns-then-layer-self-2 : goal.returns-then-layer-self-2
returns-then-layer-self-2 c =
    record { top = λ f m p is e. is_top-same f m p c.args.self c.args.layer is e (omega arith) }

pub returns-else-layer-self-2 : goal.returns-else-layer-self-2
returns-else-layer-self-2 c =
    record { top = λ f m p is e. is_top-below f m p c.args.self is (omega (arith, e)) }
