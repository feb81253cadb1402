use Rattle.mst_path.proofs.Names.{◌∙◌, ◌≤◌, ◌<◌, ◌+◌, ℕ, sym, ap, subst, arith, rules, Content, free_count, times, used, RowsAreWritable, Grown, Framed, in_frame, tree_round, frame_rows, TwoTrees, in_both, both_joined, both_rows, height_at, SearchTree, in_tree, without, without_rows, IsOpened, OpensGap, OpensEntry}
use Rattle.mst_path.proofs.lemmas.rows.CopyRows.{still_writable}
use Rattle.mst_path.proofs.lemmas.steps.Removals.{without_below, rows_below, without_here, rows_here}
use Rattle.mst_path.proofs.lemmas.steps.Rounds.{regrown, frame_after, room_after, closed_round, none_without, lower_tree}
use Rattle.mst_path.proofs.remove_path.+remove_at.Given.{Over}
use Rattle.mst_path.proofs.remove_path.+remove_at.Goals.{In-Down, After-remove_at-seam, In-Here}
use Rattle.mst_path.proofs.remove_path.+remove_at.Goals as goal

pub returns-then-link-eq0-clause-removed : goal.returns-then-link-eq0-clause-removed
returns-then-link-eq0-clause-removed g t c = λ z.
    let k = c.args.key.now in
    subst (λ (x : Content). Grown c.args.format (g.R.Rows.content c.args.rows.now) x c.args.desk.now
    c.args.desk.now (without c.args.format z k) c.root_at.result (in_tree c.args.format z)
    (without_rows c.args.format z k)) (sym (ap g.R.Rows.content c.root_at.ensures.same))
    (none_without c.args.format (g.R.Rows.content c.args.rows.now) c.args.desk.now c.args.link z k
    c.if-link-eq0.true c.root_at.result
    (c.root_at.ensures.root c.args.format z.placed z.at z.piece.rows))

-- ---- the key falls into a gap

module _ (g : Over) (n : ℕ) (c : goal.In-Down g n)
    (z : SearchTree c.args.format (g.R.Rows.content c.args.rows.now) c.args.desk.now c.args.link)
  where
    down : OpensGap c.args.format (g.R.Rows.content c.args.rows.now) c.args.desk.now c.args.link z
        c.args.key.now c.in-Down.child c.in-Down.frame
    down =
        subst (IsOpened c.args.format (g.R.Rows.content c.args.rows.now) c.args.desk.now c.args.link
        z
        c.args.key.now) c.in-Down.is (c.top_step.ensures.opened c.args.format c.args.desk.now z)

module _ (g : Over) (n : ℕ) (c : goal.After-remove_at-seam g n)
    (z : SearchTree c.args.format (g.R.Rows.content c.args.rows.now) c.args.desk.now c.args.link)
    (d : OpensGap c.args.format (g.R.Rows.content c.args.rows.now) c.args.desk.now c.args.link z
    c.args.key.now c.in-Down.child c.in-Down.frame) where
  grown : Grown c.args.format (g.R.Rows.content c.args.rows.now)
      (g.R.Rows.content c.remove_at-seam.new.rows) c.args.desk.now c.remove_at-seam.new.desk
      (without c.args.format d.inner c.args.key.now) c.remove_at-seam.result
      (in_tree c.args.format d.inner) (without_rows c.args.format d.inner c.args.key.now)
  grown = subst (λ (x : Content). (y : SearchTree c.args.format x c.args.desk.now c.in-Down.child)
      → Grown c.args.format x (g.R.Rows.content c.remove_at-seam.new.rows) c.args.desk.now
      c.remove_at-seam.new.desk (without c.args.format y c.args.key.now) c.remove_at-seam.result
      (in_tree c.args.format y) (without_rows c.args.format y c.args.key.now))
      (ap g.R.Rows.content c.top_step.ensures.same) c.remove_at-seam.ensures.removed d.inner

  abbrev framed : Framed c.args.format (g.R.Rows.content c.remove_at-seam.new.rows)
      c.remove_at-seam.new.desk c.in-Down.frame (λ x. times x (used grown.placed))
  framed = frame_after c.args.format grown d.framed

  room : without_rows c.args.format z c.args.key.now ≤ free_count c.args.desk.now.lives
      → frame_rows c.in-Down.frame ≤ free_count c.remove_at-seam.new.desk.lives
  room enough = room_after c.args.format grown d.framed (omega (arith, enough, rows_below d))

  ready : RowsAreWritable c.remove_at-seam.new.desk.lives (g.R.Rows.blank c.remove_at-seam.new.rows)
  ready = still_writable c.args.desk.now c.remove_at-seam.new.desk grown.taken grown.killed _ _
      grown.moves (c.remove_at-seam.ensures.beside.0 ∙ ap g.R.Rows.blank c.top_step.ensures.same)
      c.requires.ready

pub remove_at-seam-requires : goal.remove_at-seam-requires
remove_at-seam-requires g t c κs within =
    let z = c.requires.tree.0 in
    let d = down g t (goal.at.remove_at-seam-requires g t c).In-Down z in
    let same = ap g.R.Rows.content c.top_step.ensures.same in
    let less = lower_tree c.args.format (g.R.Rows.content c.args.rows.now) c.args.desk.now
    c.args.link z c.args.key.now c.in-Down.child c.in-Down.frame d in
    let falls =
    subst (λ (x : Content). height_at x c.in-Down.child < height_at
    (g.R.Rows.content c.args.rows.now) c.args.link) (sym same) less in (
      omega (arith, c.decreases, falls),
      (
        search rules,
        (
          search rules,
          (
            subst (λ (x : Content). (y : SearchTree c.args.format x c.args.desk.now c.in-Down.child)
                × (without_rows c.args.format y c.args.key.now ≤ free_count c.args.desk.now.lives))
                (sym same) (d.inner, omega (arith, c.requires.tree.1, rows_below d)),
            subst (RowsAreWritable c.args.desk.now.lives)
                (sym (ap g.R.Rows.blank c.top_step.ensures.same)) c.requires.ready,
          ),
        ),
      ),
    )

pub close-requires-clause-frame : goal.close-requires-clause-frame
close-requires-clause-frame g t c =
    let at = goal.at.close-requires-clause-frame g t c in
    let seam = at.After-remove_at-seam in
    let tree = c.requires.tree.0 in
    let inside = down g t at.In-Down tree in
    let done = grown g t seam tree inside in
    (done.placed, done.root, done.piece, framed g t seam tree inside)

pub close-requires-clause-low : goal.close-requires-clause-low
close-requires-clause-low g t c =
    (down g t (goal.at.close-requires-clause-low g t c).In-Down c.requires.tree.0).low

pub close-requires-clause-room : goal.close-requires-clause-room
close-requires-clause-room g t c =
    let at = goal.at.close-requires-clause-room g t c in
    room g t at.After-remove_at-seam c.requires.tree.0 (down g t at.In-Down c.requires.tree.0)
    c.requires.tree.1

pub close-requires-clause-ready : goal.close-requires-clause-ready
close-requires-clause-ready g t c =
    let at = goal.at.close-requires-clause-ready g t c in
    ready g t at.After-remove_at-seam c.requires.tree.0 (down g t at.In-Down c.requires.tree.0)

pub returns-in-Down-clause-removed : goal.returns-in-Down-clause-removed
returns-in-Down-clause-removed g t c = λ z.
    let at = goal.at.returns-in-Down-clause-removed g t c in
    let d = down g t at.In-Down z in
    let made = grown g t at.After-remove_at-seam z d in
    let all = closed_round c.args.format made d.framed
    (c.close.ensures.made made.placed made.root made.piece
    (framed g t at.After-remove_at-seam z d)) in
    regrown c.args.format _ _ _ _
    (tree_round c.args.format d.framed (without c.args.format d.inner c.args.key.now))
    (without c.args.format z c.args.key.now) _
    (λ x. in_tree c.args.format d.inner x + in_frame c.args.format d.framed x)
    (in_tree c.args.format z)
    (without_rows c.args.format d.inner c.args.key.now + frame_rows c.in-Down.frame)
    (without_rows c.args.format z c.args.key.now) all (without_below d) d.given (rows_below d)

-- ---- the node has the key's entry

module _ (g : Over) (n : ℕ) (c : goal.In-Here g n)
    (z : SearchTree c.args.format (g.R.Rows.content c.args.rows.now) c.args.desk.now c.args.link)
  where
    here : OpensEntry c.args.format (g.R.Rows.content c.args.rows.now) c.args.desk.now c.args.link z
        c.args.key.now c.in-Here.meeting
    here =
        subst (IsOpened c.args.format (g.R.Rows.content c.args.rows.now) c.args.desk.now c.args.link
        z
        c.args.key.now) c.in-Here.is (c.top_step.ensures.opened c.args.format c.args.desk.now z)

pub join_round-requires-clause-met : goal.join_round-requires-clause-met
join_round-requires-clause-met g t c =
    let h = here g t (goal.at.join_round-requires-clause-met g t c).In-Here c.requires.tree.0 in
    subst (λ (x : Content).
    (y : TwoTrees c.args.format x c.args.desk.now c.in-Here.meeting.left
    c.in-Here.meeting.right) × Framed c.args.format x c.args.desk.now c.in-Here.meeting.frame
    (in_both c.args.format y)
    × (both_rows c.args.format y + frame_rows c.in-Here.meeting.frame ≤ free_count
    c.args.desk.now.lives)) (sym (ap g.R.Rows.content c.top_step.ensures.same))
    (h.inner, h.framed, omega (arith, c.requires.tree.1, rows_here h))

pub join_round-requires-clause-low : goal.join_round-requires-clause-low
join_round-requires-clause-low g t c =
    (here g t (goal.at.join_round-requires-clause-low g t c).In-Here c.requires.tree.0).low

pub returns-in-Here-clause-removed : goal.returns-in-Here-clause-removed
returns-in-Here-clause-removed g t c = λ z.
    let h = here g t (goal.at.returns-in-Here-clause-removed g t c).In-Here z in
    let m = c.in-Here.meeting in
    let all =
    subst (λ (x : Content). (y : TwoTrees c.args.format x c.args.desk.now m.left m.right)
    (f : Framed c.args.format x c.args.desk.now m.frame (in_both c.args.format y))
    → Grown c.args.format x (g.R.Rows.content c.join_round.new.rows) c.args.desk.now
    c.join_round.new.desk (tree_round c.args.format f (both_joined c.args.format y))
    c.join_round.result (λ r. in_both c.args.format y r + in_frame c.args.format f r)
    (both_rows c.args.format y + frame_rows m.frame))
    (ap g.R.Rows.content c.top_step.ensures.same) c.join_round.ensures.made h.inner h.framed in
    regrown c.args.format _ _ _ _
    (tree_round c.args.format h.framed (both_joined c.args.format h.inner))
    (without c.args.format z c.args.key.now) _
    (λ x. in_both c.args.format h.inner x + in_frame c.args.format h.framed x)
    (in_tree c.args.format z) (both_rows c.args.format h.inner + frame_rows m.frame)
    (without_rows c.args.format z c.args.key.now) all (without_here h) h.given (rows_here h)
