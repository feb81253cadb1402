use Rattle.mst_script.proofs.Names.{◌≡◌, [], rules, refl, sym, ap, inr, codes, Batch, text_of, line_of}
use Rattle.mst_script.proofs.Calling.{applied, asked, unmoved}
use Rattle.mst_script.proofs.asking.ask_batch.Goals as goal

pub returns-in-Ok : goal.returns-in-Ok
returns-in-Ok g c = let p = c.args.pass.now in let q = c.try_apply.new.self in
    let es = c.as_slice.result.now in let text = text_of c.batch_answer_of.result in
    let same : es ≡ c.args.edits.now = search rules in
    asked (Batch c.args.edits.now) (Batch es) p q text (ap Batch (sym same))
    (applied es p q c.try_apply.result c.batch_answer_of.result c.batch_answer_of.ensures
    c.try_apply.ensures.ok c.try_apply.ensures.err)

pub returns-in-Err : goal.returns-in-Err
returns-in-Err g c = let p = c.args.pass.now in
    asked (Batch c.args.edits.now) (Batch c.args.edits.now) p p (line_of (codes "memory")) refl
    (p.seen, [], unmoved p, inr (refl, c.in-Err.ensures.some, refl))
