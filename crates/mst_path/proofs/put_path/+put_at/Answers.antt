use Rattle.mst_path.proofs.Names.{◌∙◌, ◌≤◌, ◌<◌, ◌+◌, ℕ, sym, ap, subst, arith, rules, Content, free_count, times, tree_of, used, node, entry, last, below, above, split_rows, RowsAreWritable, Grown, Framed, in_frame, tree_round, frame_rows, TwoTrees, in_both, height, height_at, ToSplit, RisingTree, in_rising, with_pair, pair_rows, tree_with, with_rows, IsPutStep, PutsDown, PutsBetween, PutsAnew}
use Rattle.mst_path.proofs.lemmas.rows.CopyRows.{still_writable}
use Rattle.mst_path.proofs.lemmas.steps.Rounds.{regrown, frame_after, room_after, closed_round}
use Rattle.mst_path.proofs.lemmas.steps.PutGaps.{whole_split, put_top, put_top_rows, falls_at}
use Rattle.mst_path.proofs.put_path.+put_at.Given.{Over}
use Rattle.mst_path.proofs.put_path.+put_at.Goals.{In-OnTop, In-Down, After-put_at-seam, In-Between, In-Anew}
use Rattle.mst_path.proofs.put_path.+put_at.Goals as goal

-- ---- all keys are of lower layers

module _ (g : Over) (n : ℕ) (c : goal.In-OnTop g n)
    (z : RisingTree c.args.format (g.R.Rows.content c.args.rows.now) c.args.desk.now c.args.link)
  where
    low : height (tree_of c.args.format z.tree.placed) ≤ c.args.layer
    low =
        subst (IsPutStep c.args.format (g.R.Rows.content c.args.rows.now) c.args.desk.now
        c.args.link
        z c.args.layer c.args.key.now) c.in-OnTop.is
        (c.put_step.ensures.step c.args.format c.args.desk.now z c.requires.layer)

    abbrev whole : ToSplit c.args.format (g.R.Rows.content c.args.rows.now) c.args.desk.now
        c.args.link c.args.key.now
    whole = whole_split c.args.format (g.R.Rows.content c.args.rows.now) c.args.desk.now c.args.link
        z
        c.args.layer c.args.key.now c.requires.layer low

pub put_on_top-requires-clause-tree : goal.put_on_top-requires-clause-tree
put_on_top-requires-clause-tree g t c =
    let at = (goal.at.put_on_top-requires-clause-tree g t c).In-OnTop in
    let z = c.requires.tree.0 in
    subst (λ (x : Content). (y : ToSplit c.args.format x c.args.desk.now c.args.link c.args.key.now)
    × (2 + split_rows c.args.key.now (tree_of c.args.format y.tree.placed) ≤ free_count
    c.args.desk.now.lives)) (sym (ap g.R.Rows.content c.put_step.ensures.same)) (
      whole g t at z,
      omega (
        arith,
        c.requires.tree.1,
        put_top_rows c.args.format
            (tree_of c.args.format z.tree.placed) c.args.layer c.args.key.now c.args.value.now
            (low g t at z),
      ),
    )

pub returns-in-OnTop-clause-put : goal.returns-in-OnTop-clause-put
returns-in-OnTop-clause-put g t c = λ z.
    let at = (goal.at.returns-in-OnTop-clause-put g t c).In-OnTop in
    let k = c.args.key.now in
    let v = c.args.value.now in
    let u = tree_of c.args.format z.tree.placed in
    let all =
    subst (λ (x : Content). (y : ToSplit c.args.format x c.args.desk.now c.args.link k)
    → Grown c.args.format x (g.R.Rows.content c.put_on_top.new.rows) c.args.desk.now
    c.put_on_top.new.desk
    (node c.args.format c.args.layer
    (entry (below k (tree_of c.args.format y.tree.placed)) k v
    (last (above k (tree_of c.args.format y.tree.placed))))) c.put_on_top.result
    (λ r. times r (used y.tree.placed))
    (2 + split_rows k (tree_of c.args.format y.tree.placed)))
    (ap g.R.Rows.content c.put_step.ensures.same) c.put_on_top.ensures.made (whole g t at z) in
    regrown c.args.format _ _ _ _
    (node c.args.format c.args.layer (entry (below k u) k v (last (above k u))))
    (with_pair c.args.format z c.args.layer k v) _ (in_rising c.args.format z)
    (in_rising c.args.format z) (2 + split_rows k u)
    (pair_rows c.args.format z c.args.layer k v) all
    (put_top c.args.format u c.args.layer k v (low g t at z)) (λ x. omega arith)
    (put_top_rows c.args.format u c.args.layer k v (low g t at z))

-- ---- the pair goes into a gap

module _ (g : Over) (n : ℕ) (c : goal.In-Down g n)
    (z : RisingTree c.args.format (g.R.Rows.content c.args.rows.now) c.args.desk.now c.args.link)
  where
    down : PutsDown c.args.format (g.R.Rows.content c.args.rows.now) c.args.desk.now c.args.link z
        c.args.layer c.args.key.now c.in-Down.child c.in-Down.frame
    down =
        subst (IsPutStep c.args.format (g.R.Rows.content c.args.rows.now) c.args.desk.now
        c.args.link
        z c.args.layer c.args.key.now) c.in-Down.is
        (c.put_step.ensures.step c.args.format c.args.desk.now z c.requires.layer)

module _ (g : Over) (n : ℕ) (c : goal.After-put_at-seam g n)
    (z : RisingTree c.args.format (g.R.Rows.content c.args.rows.now) c.args.desk.now c.args.link)
    (d : PutsDown c.args.format (g.R.Rows.content c.args.rows.now) c.args.desk.now c.args.link z
    c.args.layer c.args.key.now c.in-Down.child c.in-Down.frame) where
  grown : Grown c.args.format (g.R.Rows.content c.args.rows.now)
      (g.R.Rows.content c.put_at-seam.new.rows) c.args.desk.now c.put_at-seam.new.desk
      (with_pair c.args.format d.inner c.args.layer c.args.key.now c.args.value.now)
      c.put_at-seam.result (in_rising c.args.format d.inner)
      (pair_rows c.args.format d.inner c.args.layer c.args.key.now c.args.value.now)
  grown = subst (λ (x : Content). (y : RisingTree c.args.format x c.args.desk.now c.in-Down.child)
      → Grown c.args.format x (g.R.Rows.content c.put_at-seam.new.rows) c.args.desk.now
      c.put_at-seam.new.desk
      (with_pair c.args.format y c.args.layer c.args.key.now c.args.value.now) c.put_at-seam.result
      (in_rising c.args.format y)
      (pair_rows c.args.format y c.args.layer c.args.key.now c.args.value.now))
      (ap g.R.Rows.content c.put_step.ensures.same) c.put_at-seam.ensures.put d.inner

  abbrev framed : Framed c.args.format (g.R.Rows.content c.put_at-seam.new.rows)
      c.put_at-seam.new.desk c.in-Down.frame (λ x. times x (used grown.placed))
  framed = frame_after c.args.format grown d.framed

  room : pair_rows c.args.format z c.args.layer c.args.key.now c.args.value.now ≤ free_count
      c.args.desk.now.lives → frame_rows c.in-Down.frame ≤ free_count c.put_at-seam.new.desk.lives
  room enough =
      room_after c.args.format grown d.framed (omega (arith, enough, d.rows c.args.value.now))

  ready : RowsAreWritable c.put_at-seam.new.desk.lives (g.R.Rows.blank c.put_at-seam.new.rows)
  ready = still_writable c.args.desk.now c.put_at-seam.new.desk grown.taken grown.killed _ _
      grown.moves (c.put_at-seam.ensures.beside.0 ∙ ap g.R.Rows.blank c.put_step.ensures.same)
      c.requires.ready

pub put_at-seam-requires : goal.put_at-seam-requires
put_at-seam-requires g t c κs within =
    let z = c.requires.tree.0 in
    let d = down g t (goal.at.put_at-seam-requires g t c).In-Down z in
    let same = ap g.R.Rows.content c.put_step.ensures.same in
    let less = falls_at c.args.format (g.R.Rows.content c.args.rows.now) c.args.desk.now c.args.link
    z c.args.layer c.args.key.now c.in-Down.child c.in-Down.frame d in
    let falls =
    subst (λ (x : Content). height_at x c.in-Down.child < height_at
    (g.R.Rows.content c.args.rows.now) c.args.link) (sym same) less in (
      omega (arith, c.decreases, falls),
      (
        search rules,
        (
          search rules,
          (
            subst (λ (x : Content). (y : RisingTree c.args.format x c.args.desk.now c.in-Down.child)
                × (pair_rows c.args.format y c.args.layer c.args.key.now c.args.value.now
                ≤ free_count c.args.desk.now.lives)) (sym same)
                (d.inner, omega (arith, c.requires.tree.1, d.rows c.args.value.now)),
            (
              c.requires.layer,
              (
                c.requires.low,
                subst (RowsAreWritable c.args.desk.now.lives)
                    (sym (ap g.R.Rows.blank c.put_step.ensures.same)) c.requires.ready,
              ),
            ),
          ),
        ),
      ),
    )

pub close-requires-clause-frame : goal.close-requires-clause-frame
close-requires-clause-frame g t c =
    let at = goal.at.close-requires-clause-frame g t c in
    let d = down g t at.In-Down c.requires.tree.0 in
    let made = grown g t at.After-put_at-seam c.requires.tree.0 d in
    (made.placed, made.root, made.piece, framed g t at.After-put_at-seam c.requires.tree.0 d)

pub close-requires-clause-low : goal.close-requires-clause-low
close-requires-clause-low g t c =
    (down g t (goal.at.close-requires-clause-low g t c).In-Down c.requires.tree.0).low

pub close-requires-clause-room : goal.close-requires-clause-room
close-requires-clause-room g t c =
    let at = goal.at.close-requires-clause-room g t c in
    room g t at.After-put_at-seam c.requires.tree.0 (down g t at.In-Down c.requires.tree.0)
    c.requires.tree.1

pub close-requires-clause-ready : goal.close-requires-clause-ready
close-requires-clause-ready g t c =
    let at = goal.at.close-requires-clause-ready g t c in
    ready g t at.After-put_at-seam c.requires.tree.0 (down g t at.In-Down c.requires.tree.0)

pub returns-in-Down-clause-put : goal.returns-in-Down-clause-put
returns-in-Down-clause-put g t c = λ z.
    let at = goal.at.returns-in-Down-clause-put g t c in
    let d = down g t at.In-Down z in
    let made = grown g t at.After-put_at-seam z d in
    let all = closed_round c.args.format made d.framed
    (c.close.ensures.made made.placed made.root made.piece
    (framed g t at.After-put_at-seam z d)) in
    regrown c.args.format _ _ _ _
    (tree_round c.args.format d.framed
    (with_pair c.args.format d.inner c.args.layer c.args.key.now c.args.value.now))
    (with_pair c.args.format z c.args.layer c.args.key.now c.args.value.now) _
    (λ x. in_rising c.args.format d.inner x + in_frame c.args.format d.framed x)
    (in_rising c.args.format z)
    (pair_rows c.args.format d.inner c.args.layer c.args.key.now c.args.value.now + frame_rows
    c.in-Down.frame) (pair_rows c.args.format z c.args.layer c.args.key.now c.args.value.now)
    all (d.is c.args.value.now) d.given (d.rows c.args.value.now)

-- ---- the new entry goes between

module _ (g : Over) (n : ℕ) (c : goal.In-Between g n)
    (z : RisingTree c.args.format (g.R.Rows.content c.args.rows.now) c.args.desk.now c.args.link)
  where
    between : PutsBetween c.args.format (g.R.Rows.content c.args.rows.now) c.args.desk.now
        c.args.link
        z c.args.layer c.args.key.now c.in-Between.child c.in-Between.frame
    between =
        subst (IsPutStep c.args.format (g.R.Rows.content c.args.rows.now) c.args.desk.now
        c.args.link
        z c.args.layer c.args.key.now) c.in-Between.is
        (c.put_step.ensures.step c.args.format c.args.desk.now z c.requires.layer)

pub put_level-requires-clause-gap : goal.put_level-requires-clause-gap
put_level-requires-clause-gap g t c =
    let mid = between g t (goal.at.put_level-requires-clause-gap g t c).In-Between c.requires.tree.0
    in
    subst (λ (x : Content).
    (y : ToSplit c.args.format x c.args.desk.now c.in-Between.child c.args.key.now)
    × Framed c.args.format x c.args.desk.now c.in-Between.frame
    (λ r. times r (used y.tree.placed))
    × (split_rows c.args.key.now (tree_of c.args.format y.tree.placed) + with_rows
    c.in-Between.frame ≤ free_count c.args.desk.now.lives))
    (sym (ap g.R.Rows.content c.put_step.ensures.same))
    (mid.inner, mid.framed, omega (arith, c.requires.tree.1, mid.rows c.args.value.now))

pub put_level-requires-clause-low : goal.put_level-requires-clause-low
put_level-requires-clause-low g t c =
    (between g t (goal.at.put_level-requires-clause-low g t c).In-Between c.requires.tree.0).low

pub returns-in-Between-clause-put : goal.returns-in-Between-clause-put
returns-in-Between-clause-put g t c = λ z.
    let mid = between g t (goal.at.returns-in-Between-clause-put g t c).In-Between z in
    let s = c.args.desk.now in
    let k = c.args.key.now in
    let v = c.args.value.now in
    let n = tree_of c.args.format mid.inner.tree.placed in
    let all =
    subst (λ (x : Content). (y : ToSplit c.args.format x s c.in-Between.child k)
    (f : Framed c.args.format x s c.in-Between.frame (λ r. times r (used y.tree.placed)))
    → Grown c.args.format x (g.R.Rows.content c.put_level.new.rows) s c.put_level.new.desk
    (tree_with c.args.format f k v (below k (tree_of c.args.format y.tree.placed))
    (above k (tree_of c.args.format y.tree.placed))) c.put_level.result
    (λ r. times r (used y.tree.placed) + in_frame c.args.format f r)
    (split_rows k (tree_of c.args.format y.tree.placed) + with_rows c.in-Between.frame))
    (ap g.R.Rows.content c.put_step.ensures.same) c.put_level.ensures.made mid.inner mid.framed
    in
    regrown c.args.format _ _ _ _ (tree_with c.args.format mid.framed k v (below k n) (above k n))
    (with_pair c.args.format z c.args.layer k v) _
    (λ x. times x (used mid.inner.tree.placed) + in_frame c.args.format mid.framed x)
    (in_rising c.args.format z) (split_rows k n + with_rows c.in-Between.frame)
    (pair_rows c.args.format z c.args.layer k v) all (mid.is v) mid.given (mid.rows v)

-- ---- the entry is written anew

module _ (g : Over) (n : ℕ) (c : goal.In-Anew g n)
    (z : RisingTree c.args.format (g.R.Rows.content c.args.rows.now) c.args.desk.now c.args.link)
  where
    anew : PutsAnew c.args.format (g.R.Rows.content c.args.rows.now) c.args.desk.now c.args.link z
        c.args.layer c.args.key.now c.in-Anew.meeting
    anew =
        subst (IsPutStep c.args.format (g.R.Rows.content c.args.rows.now) c.args.desk.now
        c.args.link
        z c.args.layer c.args.key.now) c.in-Anew.is
        (c.put_step.ensures.step c.args.format c.args.desk.now z c.requires.layer)

pub put_value-requires-clause-met : goal.put_value-requires-clause-met
put_value-requires-clause-met g t c =
    let here = anew g t (goal.at.put_value-requires-clause-met g t c).In-Anew c.requires.tree.0 in
    subst (λ (x : Content).
    (y : TwoTrees c.args.format x c.args.desk.now c.in-Anew.meeting.left
    c.in-Anew.meeting.right) × Framed c.args.format x c.args.desk.now c.in-Anew.meeting.frame
    (in_both c.args.format y)) (sym (ap g.R.Rows.content c.put_step.ensures.same))
    (here.inner, here.framed)

pub put_value-requires-clause-room : goal.put_value-requires-clause-room
put_value-requires-clause-room g t c =
    omega (
      arith,
      c.requires.tree.1,
      (anew g t (goal.at.put_value-requires-clause-room g t c).In-Anew c.requires.tree.0).rows
          c.args.value.now,
    )

pub put_value-requires-clause-low : goal.put_value-requires-clause-low
put_value-requires-clause-low g t c =
    (anew g t (goal.at.put_value-requires-clause-low g t c).In-Anew c.requires.tree.0).low

pub returns-in-Anew-clause-put : goal.returns-in-Anew-clause-put
returns-in-Anew-clause-put g t c = λ z.
    let here = anew g t (goal.at.returns-in-Anew-clause-put g t c).In-Anew z in
    let s = c.args.desk.now in
    let k = c.args.key.now in
    let v = c.args.value.now in
    let m = c.in-Anew.meeting in
    let all =
    subst (λ (x : Content). (y : TwoTrees c.args.format x s m.left m.right)
    (f : Framed c.args.format x s m.frame (in_both c.args.format y)) → Grown c.args.format x
    (g.R.Rows.content c.put_value.new.rows) s c.put_value.new.desk
    (tree_with c.args.format f k v (tree_of c.args.format y.a) (tree_of c.args.format y.b))
    c.put_value.result (λ r. in_both c.args.format y r + in_frame c.args.format f r)
    (with_rows m.frame)) (ap g.R.Rows.content c.put_step.ensures.same)
    (rw c.key.ensures.key at c.put_value.ensures.made) here.inner here.framed in
    regrown c.args.format _ _ _ _
    (tree_with c.args.format here.framed k v (tree_of c.args.format here.inner.a)
    (tree_of c.args.format here.inner.b)) (with_pair c.args.format z c.args.layer k v) _
    (λ x. in_both c.args.format here.inner x + in_frame c.args.format here.framed x)
    (in_rising c.args.format z) (with_rows m.frame) (pair_rows c.args.format z c.args.layer k v)
    all (here.is v) here.given (here.rows v)
