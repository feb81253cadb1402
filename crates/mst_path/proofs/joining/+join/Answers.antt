use Rattle.mst_path.proofs.Names.{◌∙◌, ◌≤◌, ◌<◌, ◌+◌, ℕ, sym, ap, subst, arith, rules, Content, free_count, times, used, RowsAreWritable, Grown, Framed, in_frame, tree_round, frame_rows, TwoTrees, in_both, both_joined, both_rows, height_at, Met}
use Rattle.mst_path.proofs.lemmas.rows.CopyRows.{still_writable}
use Rattle.mst_path.proofs.lemmas.steps.Rounds.{regrown, frame_after, room_after, closed_round}
use Rattle.mst_path.proofs.lemmas.trees.Joined.{left_none, right_none, lower_trees}
use Rattle.mst_path.proofs.joining.+join.Given.{Over}
use Rattle.mst_path.proofs.joining.+join.Goals.{After-join-seam}
use Rattle.mst_path.proofs.joining.+join.Goals as goal

-- ---- one of the trees is empty

pub returns-then-left-eq0-clause-joined : goal.returns-then-left-eq0-clause-joined
returns-then-left-eq0-clause-joined g t c = λ z.
    subst (λ (x : Content). Grown c.args.format (g.R.Rows.content c.args.rows.now) x c.args.desk.now
    c.args.desk.now (both_joined c.args.format z) c.root_at.result (in_both c.args.format z)
    (both_rows c.args.format z)) (sym (ap g.R.Rows.content c.root_at.ensures.same))
    (left_none c.args.format (g.R.Rows.content c.args.rows.now) c.args.desk.now c.args.left
    c.args.right z c.if-left-eq0.true c.root_at.result
    (c.root_at.ensures.root c.args.format z.b z.b_at z.b_piece.rows))

pub returns-then-right-eq0-clause-joined : goal.returns-then-right-eq0-clause-joined
returns-then-right-eq0-clause-joined g t c = λ z.
    subst (λ (x : Content). Grown c.args.format (g.R.Rows.content c.args.rows.now) x c.args.desk.now
    c.args.desk.now (both_joined c.args.format z) c.root_at-then-right-eq0.result
    (in_both c.args.format z) (both_rows c.args.format z))
    (sym (ap g.R.Rows.content c.root_at-then-right-eq0.ensures.same))
    (right_none c.args.format (g.R.Rows.content c.args.rows.now) c.args.desk.now c.args.left
    c.args.right z c.if-right-eq0.true c.root_at-then-right-eq0.result
    (c.root_at-then-right-eq0.ensures.root c.args.format z.a z.a_at z.a_piece.rows))

-- ---- the trees meet

pub join-seam-requires : goal.join-seam-requires
join-seam-requires g t c κs within =
    let z = c.requires.trees.0 in
    let m = c.meet-meeting.result in
    let met = c.meet-meeting.ensures.met c.args.format c.args.desk.now z in
    let same = ap g.R.Rows.content c.meet-meeting.ensures.same in
    let less = lower_trees c.args.format (g.R.Rows.content c.args.rows.now) c.args.desk.now
    c.args.left c.args.right z m met in
    let falls =
    subst (λ (x : Content). height_at x m.left + height_at x m.right < height_at
    (g.R.Rows.content c.args.rows.now) c.args.left + height_at
    (g.R.Rows.content c.args.rows.now) c.args.right) (sym same) less in (
      omega (arith, c.decreases, falls),
      (
        search rules,
        (
          search rules,
          (
            subst (λ (x : Content). (y : TwoTrees c.args.format x c.args.desk.now m.left m.right)
                × (both_rows c.args.format y ≤ free_count c.args.desk.now.lives)) (sym same)
                (met.inner, omega (arith, c.requires.trees.1, met.rows)),
            subst (RowsAreWritable c.args.desk.now.lives)
                (sym (ap g.R.Rows.blank c.meet-meeting.ensures.same)) c.requires.ready,
          ),
        ),
      ),
    )

-- ---- the trees that meet are joined

module _ (g : Over) (n : ℕ) (c : goal.After-join-seam g n)
    (z : TwoTrees c.args.format (g.R.Rows.content c.args.rows.now) c.args.desk.now c.args.left
    c.args.right) where
  abbrev met : Met c.args.format (g.R.Rows.content c.args.rows.now) c.args.desk.now c.args.left
      c.args.right z c.meet-meeting.result
  met = c.meet-meeting.ensures.met c.args.format c.args.desk.now z

  grown : Grown c.args.format (g.R.Rows.content c.args.rows.now)
      (g.R.Rows.content c.join-seam.new.rows) c.args.desk.now c.join-seam.new.desk
      (both_joined c.args.format met.inner) c.join-seam.result (in_both c.args.format met.inner)
      (both_rows c.args.format met.inner)
  grown =
      subst (λ (x : Content).
      (y : TwoTrees c.args.format x c.args.desk.now c.meet-meeting.result.left
      c.meet-meeting.result.right) → Grown c.args.format x (g.R.Rows.content c.join-seam.new.rows)
      c.args.desk.now c.join-seam.new.desk (both_joined c.args.format y) c.join-seam.result
      (in_both c.args.format y) (both_rows c.args.format y))
      (ap g.R.Rows.content c.meet-meeting.ensures.same) c.join-seam.ensures.joined met.inner

  abbrev framed : Framed c.args.format (g.R.Rows.content c.join-seam.new.rows) c.join-seam.new.desk
      c.meet-meeting.result.frame (λ x. times x (used grown.placed))
  framed = frame_after c.args.format grown met.framed

pub close-requires-clause-frame : goal.close-requires-clause-frame
close-requires-clause-frame g t c =
    let at = (goal.at.close-requires-clause-frame g t c).After-join-seam in
    let done = grown g t at c.requires.trees.0 in
    (done.placed, done.root, done.piece, framed g t at c.requires.trees.0)

pub close-requires-clause-low : goal.close-requires-clause-low
close-requires-clause-low g t c =
    (c.meet-meeting.ensures.met c.args.format c.args.desk.now c.requires.trees.0).low

pub close-requires-clause-room : goal.close-requires-clause-room
close-requires-clause-room g t c =
    let at = (goal.at.close-requires-clause-room g t c).After-join-seam in
    let where_met = met g t at c.requires.trees.0 in
    room_after c.args.format (grown g t at c.requires.trees.0) where_met.framed
    (omega (arith, c.requires.trees.1, where_met.rows))

pub close-requires-clause-ready : goal.close-requires-clause-ready
close-requires-clause-ready g t c =
    let made = grown g t (goal.at.close-requires-clause-ready g t c).After-join-seam
    c.requires.trees.0 in
    still_writable c.args.desk.now c.join-seam.new.desk made.taken made.killed _ _ made.moves
    (c.join-seam.ensures.beside.0 ∙ ap g.R.Rows.blank c.meet-meeting.ensures.same) c.requires.ready

pub returns-clause-joined : goal.returns-clause-joined
returns-clause-joined g t c = λ z.
    let at = (goal.at.returns-clause-joined g t c).After-join-seam in
    let here = met g t at z in
    let made = grown g t at z in
    let all = closed_round c.args.format made here.framed
    (c.close.ensures.made made.placed made.root made.piece (framed g t at z)) in
    regrown c.args.format _ _ _ _
    (tree_round c.args.format here.framed (both_joined c.args.format here.inner))
    (both_joined c.args.format z) _
    (λ x. in_both c.args.format here.inner x + in_frame c.args.format here.framed x)
    (in_both c.args.format z)
    (both_rows c.args.format here.inner + frame_rows c.meet-meeting.result.frame)
    (both_rows c.args.format z) all here.is here.given here.rows
