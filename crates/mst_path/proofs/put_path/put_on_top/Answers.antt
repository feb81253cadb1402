use Rattle.mst_path.proofs.Names.{arith}
use Rattle.mst_path.proofs.lemmas.rows.CopyRows.{old_alive, still_writable}
use Rattle.mst_path.proofs.lemmas.steps.NewEntry.{sides_stand, on_top}
use Rattle.mst_path.proofs.put_path.put_on_top.Goals as goal

pub split-requires-clause-tree : goal.split-requires-clause-tree
split-requires-clause-tree g c = (c.requires.tree.0, omega (arith, c.requires.tree.1))

pub put_between-requires-clause-trees : goal.put_between-requires-clause-trees
put_between-requires-clause-trees g c =
    let t = c.requires.tree.0 in
    sides_stand c.args.format _ _ _ _ _ _ _ _ t.tree.placed _ t.tree.once
    (λ x i. old_alive c.args.desk.now x (t.tree.piece.old x i)) (c.split.ensures.split t)

pub put_between-requires-clause-room : goal.put_between-requires-clause-room
put_between-requires-clause-room g c =
    let r = c.split.ensures.split c.requires.tree.0 in
    omega (arith, c.requires.tree.1, r.moves.room, r.counted)

pub put_between-requires-clause-ready : goal.put_between-requires-clause-ready
put_between-requires-clause-ready g c =
    still_writable _ _ _ _ _ _ (c.split.ensures.split c.requires.tree.0).moves
    c.split.ensures.beside.0
    c.requires.ready

pub returns-clause-made : goal.returns-clause-made
returns-clause-made g c t =
    let r = c.split.ensures.split t in
    rw c.key.ensures.key at
    (on_top c.args.format _ _ _ _ _ _ _ _ t.tree.placed _ t.tree.once
    (λ x i. old_alive c.args.desk.now x (t.tree.piece.old x i)) r _ _ _ _ _ _
    (c.put_between.ensures.made
    (sides_stand c.args.format _ _ _ _ _ _ _ _ t.tree.placed _ t.tree.once
    (λ x i. old_alive c.args.desk.now x (t.tree.piece.old x i)) r)))
