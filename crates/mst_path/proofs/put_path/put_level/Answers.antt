use Rattle.mst_path.proofs.Names.{ℕ, ◌<◌, arith, times, used, IsAlive, Framed, ToSplit, TwoStand, in_two}
use Rattle.mst_path.proofs.lemmas.rows.CopyRows.{old_alive, still_writable}
use Rattle.mst_path.proofs.lemmas.steps.PutFrames.{two, level_frame, level_made}
use Rattle.mst_path.proofs.put_path.put_level.Given.{Over}
use Rattle.mst_path.proofs.put_path.put_level.Goals.{After-split}
use Rattle.mst_path.proofs.put_path.put_level.Goals as goal

pub split-requires-clause-tree : goal.split-requires-clause-tree
split-requires-clause-tree g c = (c.requires.gap.0, omega (arith, c.requires.gap.2))

-- ---- the tree in the gap is split

module _ (g : Over) (c : goal.After-split g)
    (t : ToSplit c.args.format (g.R.Rows.content c.args.rows.now) c.args.desk.now c.args.child
    c.args.key.now) (f : Framed c.args.format (g.R.Rows.content c.args.rows.now) c.args.desk.now
    c.args.frame.now (λ x. times x (used t.tree.placed))) where
  alive : (x : ℕ) → 0 < times x (used t.tree.placed) → IsAlive c.args.desk.now x
  alive x i = old_alive c.args.desk.now x (t.tree.piece.old x i)

  abbrev sides : TwoStand c.args.format (g.R.Rows.content c.split.new.rows) c.split.new.desk
      c.split.result.0 c.split.result.1
  sides = two c.args.format _ _ _ _ _ _ _ _ t.tree.placed _ t.tree.once alive
      (c.split.ensures.split t) c.args.frame.now f

  abbrev framed : Framed c.args.format (g.R.Rows.content c.split.new.rows) c.split.new.desk
      c.args.frame.now (in_two c.args.format sides)
  framed = level_frame c.args.format _ _ _ _ _ _ _ _ t.tree.placed _ t.tree.once alive
      (c.split.ensures.split t) c.args.frame.now f

pub close_with-requires-clause-frame : goal.close_with-requires-clause-frame
close_with-requires-clause-frame g c =
    let at = (goal.at.close_with-requires-clause-frame g c).After-split in
    (sides g at c.requires.gap.0 c.requires.gap.1, framed g at c.requires.gap.0 c.requires.gap.1)

pub close_with-requires-clause-room : goal.close_with-requires-clause-room
close_with-requires-clause-room g c =
    let r = c.split.ensures.split c.requires.gap.0 in
    omega (arith, c.requires.gap.2, r.moves.room, r.counted)

pub close_with-requires-clause-ready : goal.close_with-requires-clause-ready
close_with-requires-clause-ready g c =
    still_writable _ _ _ _ _ _ (c.split.ensures.split c.requires.gap.0).moves
    c.split.ensures.beside.0
    c.requires.ready

pub returns-clause-made : goal.returns-clause-made
returns-clause-made g c = λ t f.
    let at = (goal.at.returns-clause-made g c).After-split in
    rw c.key.ensures.key at (level_made c.args.format _ _ _ _ _ _ _ _ t.tree.placed _ t.tree.once
    (alive g at t f) (c.split.ensures.split t) c.args.frame.now f _ _ _ _ _
    (c.close_with.ensures.made (sides g at t f) (framed g at t f)))
