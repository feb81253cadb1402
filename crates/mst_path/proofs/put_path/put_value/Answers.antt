use Rattle.mst_path.proofs.Names.{Format, ◌≡◌, ◌+◌, ◌∙◌, sym, ap, subst, Content, Placed, tree_of, link_of, rows_of, HasRows, RowsAreWritable, IsRootOf, Grown, Framed, in_frame, TwoTrees, TwoStand, in_two, tree_with, with_rows}
use Rattle.mst_path.proofs.lemmas.steps.PutFrames.{beside}
use Rattle.mst_path.proofs.put_path.put_value.Given.{Over}
use Rattle.mst_path.proofs.put_path.put_value.Goals.{After-root_at-upper}
use Rattle.mst_path.proofs.put_path.put_value.Goals as goal

pub root_at-lower-requires : goal.root_at-lower-requires
root_at-lower-requires g c =
    let t = c.requires.met.0 in
    record { stands = (c.args.format, t.a, t.a_at, t.a_piece.rows) }

pub root_at-upper-requires : goal.root_at-upper-requires
root_at-upper-requires g c =
    let b = c.requires.met.0 in
    record {
      stands =
          subst (λ (x : Content). (f : Format) × (p : Placed)
          × (link_of p ≡ c.args.meeting.now.right)
          × HasRows x (rows_of f p)) (sym (ap g.R.Rows.content c.root_at-lower.ensures.same))
          (c.args.format, b.b, b.b_at, b.b_piece.rows);
    }

-- ---- both roots are read

module _ (g : Over) (c : goal.After-root_at-upper g) where
  same_rows : g.R.Rows.content c.root_at-upper.new.rows ≡ g.R.Rows.content c.args.rows.now
  same_rows = ap g.R.Rows.content (c.root_at-upper.ensures.same ∙ c.root_at-lower.ensures.same)

  abbrev both : (t : TwoTrees c.args.format (g.R.Rows.content c.args.rows.now) c.args.desk.now
      c.args.meeting.now.left c.args.meeting.now.right) → TwoStand c.args.format
      (g.R.Rows.content c.args.rows.now) c.args.desk.now c.root_at-lower.result
      c.root_at-upper.result
  both t =
      beside c.args.format (g.R.Rows.content c.args.rows.now) c.args.desk.now
      c.args.meeting.now.left c.args.meeting.now.right t c.root_at-lower.result
      c.root_at-upper.result
      (c.root_at-lower.ensures.root c.args.format t.a t.a_at t.a_piece.rows)
      (subst (λ (x : Content). (p : Placed) → link_of p ≡ c.args.meeting.now.right
      → HasRows x (rows_of c.args.format p) → IsRootOf c.args.format p c.root_at-upper.result)
      (ap g.R.Rows.content c.root_at-lower.ensures.same)
      (c.root_at-upper.ensures.root c.args.format) t.b t.b_at t.b_piece.rows)

pub close_with-requires-clause-frame : goal.close_with-requires-clause-frame
close_with-requires-clause-frame g c =
    let at = (goal.at.close_with-requires-clause-frame g c).After-root_at-upper in
    subst (λ (x : Content).
    (y : TwoStand c.args.format x c.args.desk.now c.root_at-lower.result c.root_at-upper.result)
    × Framed c.args.format x c.args.desk.now c.args.meeting.now.frame (in_two c.args.format y))
    (sym (same_rows g at)) (both g at c.requires.met.0, c.requires.met.1)

pub close_with-requires-clause-ready : goal.close_with-requires-clause-ready
close_with-requires-clause-ready g c = subst (RowsAreWritable c.args.desk.now.lives)
    (sym (ap g.R.Rows.blank (c.root_at-upper.ensures.same ∙ c.root_at-lower.ensures.same)))
    c.requires.ready

pub returns-clause-made : goal.returns-clause-made
returns-clause-made g c = λ t f.
    let at = (goal.at.returns-clause-made g c).After-root_at-upper in
    let frame = c.args.meeting.now.frame in
    let s = c.args.desk.now in
    let k = c.args.key.now in
    let v = c.args.value.now in
    subst (λ (x : Content).
    (y : TwoStand c.args.format x s c.root_at-lower.result c.root_at-upper.result)
    (h : Framed c.args.format x s frame (in_two c.args.format y)) → Grown c.args.format x
    (g.R.Rows.content c.close_with.new.rows) s c.close_with.new.desk
    (tree_with c.args.format h k v (tree_of c.args.format y.lower)
    (tree_of c.args.format y.upper)) c.close_with.result
    (λ r. in_two c.args.format y r + in_frame c.args.format h r) (with_rows frame))
    (same_rows g at) c.close_with.ensures.made (both g at t) f
