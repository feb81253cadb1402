use Rattle.mst_store.proofs.Names.{ap, arith, empty}
use Rattle.mst_node.specs.Tree.{Tree, tree_within, tree}
use Rattle.mst_node.specs.Cost.{new_rows}
use Rattle.mst_store.proofs.Lawful.{lone_tree, no_edits, one_edit}
use Rattle.mst_store.proofs.laws.room_laws.Goals as goal

pub returns-clause-not_both : goal.returns-clause-not_both
returns-clause-not_both c rows format m change has lacks = omega (arith, has, lacks)

pub returns-clause-one : goal.returns-clause-one
returns-clause-one c rows format m change not = omega (arith, not)

pub returns-clause-first_put : goal.returns-clause-first_put
unfolding tree tree_within
returns-clause-first_put c format k v = let two =
    ap (λ (t : Tree). new_rows empty t) (lone_tree format k v) in
    (omega (arith, two), omega (arith, two))

pub returns-clause-no_remove : goal.returns-clause-no_remove
unfolding tree tree_within
returns-clause-no_remove c format k = omega arith

pub returns-clause-no_edits : goal.returns-clause-no_edits
returns-clause-no_edits c fault p q refused = no_edits fault p q refused

pub returns-clause-one_edit : goal.returns-clause-one_edit
returns-clause-one_edit c fault e p q refused = one_edit fault e p q refused
