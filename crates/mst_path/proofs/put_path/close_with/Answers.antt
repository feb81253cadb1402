use Rattle.mst_path.proofs.Names.{◌+◌, refl, arith, rules, tree_of, Grown, Framed, in_entries, TwoStand, in_two, tree_with, with_rows}
use Rattle.mst_path.proofs.lemmas.steps.Framing.{spare_old, closed}
use Rattle.mst_path.proofs.lemmas.steps.NewEntry.{grown_as}
use Rattle.mst_path.proofs.lemmas.steps.PutFrames.{frame_parts}
use Rattle.mst_path.proofs.put_path.close_with.Given.{Over}
use Rattle.mst_path.proofs.put_path.close_with.Goals.{After-make_node_with-root}
use Rattle.mst_path.proofs.put_path.close_with.Goals as goal

pub make_node_with-root-requires-clause-parts : goal.make_node_with-root-requires-clause-parts
make_node_with-root-requires-clause-parts g c =
    let t = c.requires.frame.0 in
    let f = c.requires.frame.1 in (
      frame_parts c.args.format _ _ c.args.frame.now c.args.lower.now c.args.upper.now t f,
      t.lower,
      t.lower_root,
      t.lower_piece,
      λ x. omega (arith, f.once x),
    )

-- ---- the node is made

module _ (g : Over) (c : goal.After-make_node_with-root g)
    (t : TwoStand c.args.format (g.R.Rows.content c.args.rows.now) c.args.desk.now c.args.lower.now
    c.args.upper.now) (f : Framed c.args.format (g.R.Rows.content c.args.rows.now) c.args.desk.now
    c.args.frame.now (in_two c.args.format t)) where
  grown : Grown c.args.format (g.R.Rows.content c.args.rows.now)
      (g.R.Rows.content c.make_node_with-root.new.rows) c.args.desk.now
      c.make_node_with-root.new.desk
      (tree_with c.args.format f c.args.key.now c.args.value.now (tree_of c.args.format t.lower)
      (tree_of c.args.format t.upper)) c.make_node_with-root.result
      (λ x. in_two c.args.format t x + in_entries c.args.format f x) (with_rows c.args.frame.now)
  grown =
      let made =
      c.make_node_with-root.ensures.made
      (frame_parts c.args.format _ _ c.args.frame.now c.args.lower.now c.args.upper.now t f)
      t.lower t.lower_root t.lower_piece (λ x. omega (arith, f.once x)) in
      grown_as c.args.format _ _ _ _ _ _ _ _
      (λ x. in_two c.args.format t x + in_entries c.args.format f x) _
      (with_rows c.args.frame.now) refl (λ x. omega arith) refl made

pub kill_both-requires-clause-old : goal.kill_both-requires-clause-old
kill_both-requires-clause-old g c =
    let at = (goal.at.kill_both-requires-clause-old g c).After-make_node_with-root in
    spare_old c.args.format _ _ c.args.frame.now _ c.requires.frame.1 _ _ _ _ _
    (grown g at c.requires.frame.0 c.requires.frame.1)

pub kill_both-requires-clause-once : goal.kill_both-requires-clause-once
kill_both-requires-clause-once g c = λ x. omega (arith, c.requires.frame.1.once x)

pub returns-clause-made : goal.returns-clause-made
returns-clause-made g c = λ t f.
    closed c.args.format _ _ c.args.frame.now _ f _ _ _ _ _
    (grown g (goal.at.returns-clause-made g c).After-make_node_with-root t f) _
    c.kill_both.ensures.moves

-- ---- what a search finds

pub make_node_with-root-requires-clause-low : goal.make_node_with-root-requires-clause-low
make_node_with-root-requires-clause-low g c = search rules

pub make_node_with-root-requires-clause-room : goal.make_node_with-root-requires-clause-room
make_node_with-root-requires-clause-room g c = search rules

pub make_node_with-root-requires-clause-ready : goal.make_node_with-root-requires-clause-ready
make_node_with-root-requires-clause-ready g c = search rules

pub returns-clause-beside : goal.returns-clause-beside
returns-clause-beside g c = search rules
