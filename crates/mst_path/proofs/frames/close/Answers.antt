use Rattle.mst_path.proofs.Names.{rules}
use Rattle.mst_path.proofs.lemmas.steps.Framing.{spare_old, closed}
use Rattle.mst_path.proofs.frames.close.Goals as goal

pub kill_both-requires-clause-old : goal.kill_both-requires-clause-old
kill_both-requires-clause-old g c =
    let p = c.requires.frame.0 in
    let f = c.requires.frame.3 in
    spare_old c.args.format (g.R.Rows.content c.args.rows.now) c.args.desk.now c.args.frame.now _ f
    (g.R.Rows.content c.fill-root.new.rows) c.fill-root.new.desk _ c.fill-root.result _
    (c.fill-root.ensures.made p c.requires.frame.1 c.requires.frame.2 f)

pub returns-clause-made : goal.returns-clause-made
returns-clause-made g c = λ p root piece f.
    closed c.args.format (g.R.Rows.content c.args.rows.now) c.args.desk.now c.args.frame.now _ f
    (g.R.Rows.content c.fill-root.new.rows) c.fill-root.new.desk _ c.fill-root.result _
    (c.fill-root.ensures.made p root piece f) c.kill_both.new.desk c.kill_both.ensures.moves

pub fill-root-requires-clause-frame : goal.fill-root-requires-clause-frame
fill-root-requires-clause-frame g c = search rules

pub fill-root-requires-clause-low : goal.fill-root-requires-clause-low
fill-root-requires-clause-low g c = search rules

pub fill-root-requires-clause-room : goal.fill-root-requires-clause-room
fill-root-requires-clause-room g c = search rules

pub fill-root-requires-clause-ready : goal.fill-root-requires-clause-ready
fill-root-requires-clause-ready g c = search rules

pub kill_both-requires-clause-once : goal.kill_both-requires-clause-once
kill_both-requires-clause-once g c = search rules

pub returns-clause-beside : goal.returns-clause-beside
returns-clause-beside g c = search rules
