use Rattle.mst_batch.proofs.Names.{◌++◌, List, sym, ◌∙◌, ap, subst, on_ok_weaker, node_at, IsItem, opened, Item}
use Rattle.mst_batch.proofs.NodeItems.{item_lies, opened_tree}
use Rattle.mst_batch.proofs.top.push_opened.Goals as goal

pub push_node-requires-clause-lies : goal.push_node-requires-clause-lies
push_node-requires-clause-lies g c =
    let z = c.requires.item in (
      z.0,
      node_at z.1 c.in-Subtree.link,
      item_lies z.0 (g.R.Rows.content c.args.rows.now) z.1 z.2 c.in-Subtree.link c.in-Subtree.own
          (subst (IsItem z.0 z.1) c.in-Subtree.is z.3),
    )

pub returns-in-Subtree-clause-items : goal.returns-in-Subtree-clause-items
returns-in-Subtree-clause-items g c =
    on_ok_weaker c.push_node.result (λ added format whole s is.
    added format (node_at whole c.in-Subtree.link)
    (item_lies format (g.R.Rows.content c.args.rows.now) whole s c.in-Subtree.link
    c.in-Subtree.own (subst (IsItem format whole) c.in-Subtree.is is))
    ∙ ap (λ (xs : List Item). c.args.opened.now.items ++ xs)
    (sym (ap (opened whole c.args.layer) c.in-Subtree.is
    ∙ opened_tree whole c.args.layer c.in-Subtree.link c.in-Subtree.own c.if-own-layer.true)))
    c.push_node.ensures.items
