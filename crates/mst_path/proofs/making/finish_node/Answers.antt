use Rattle.mst_path.proofs.Names.{sym, subst, arith, Finished}
use Rattle.mst_path.proofs.lemmas.rows.CopyRows.{small_link}
use Rattle.mst_path.proofs.lemmas.steps.Finishing.{at_seam, head_out}
use Rattle.mst_path.proofs.lemmas.trees.Made.{piece_alive}
use Rattle.mst_path.proofs.making.finish_node.Goals as goal

pub finish-requires-clause-tail : goal.finish-requires-clause-tail
finish-requires-clause-tail g c =
    let format = c.requires.rest.0 in
    let r = c.requires.rest.1 in
    omega (
      arith,
      r.seam_at.link,
      small_link c.args.desk.now r.seam
          (piece_alive format r.seam_piece) c.requires.ready.few,
    )

pub returns-then-parts-eq0-clause-finished : goal.returns-then-parts-eq0-clause-finished
returns-then-parts-eq0-clause-finished g c = λ format r.
    subst (λ s. Finished format c.args.writer (g.R.Rows.content c.args.rows.now)
    (g.R.Rows.content c.finish.new.rows) c.args.desk.now s c.args.parts.now r c.finish.result)
    (sym c.finish.ensures.desk)
    (at_seam format c.args.writer (g.R.Rows.content c.args.rows.now)
    (g.R.Rows.content c.finish.new.rows) c.args.desk.now c.args.parts.now r c.finish.result
    c.requires.writer c.requires.left c.if-parts-eq0.true
    (c.finish.ensures.root format r.ws r.seam r.going.written r.seam_at)
    (c.finish.ensures.stands format r.ws r.seam r.going.written r.seam_at r.seam_piece.rows
    (head_out format c.args.writer (g.R.Rows.content c.args.rows.now) c.args.desk.now
    c.args.parts.now r))
    c.finish.ensures.keeps)
