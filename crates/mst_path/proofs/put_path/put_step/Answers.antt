use Rattle.mst_path.proofs.Names.{Format, sym, ap, subst, rules, Content, State, IsOpened, OpensGap, OpensEntry, SearchTree}
use Rattle.mst_path.proofs.lemmas.steps.PutGaps.{some_link, puts_down, puts_between, puts_anew}
use Rattle.mst_path.proofs.put_path.put_step.Given.{Over}
use Rattle.mst_path.proofs.put_path.put_step.Goals.{After-top_step, In-Down}
use Rattle.mst_path.proofs.put_path.put_step.Goals as goal

pub is_lower-requires : goal.is_lower-requires
is_lower-requires g c =
    record { tree = (c.requires.tree.0, c.requires.tree.1, c.requires.tree.2.tree) }

pub top_step-requires-clause-tree : goal.top_step-requires-clause-tree
top_step-requires-clause-tree g c =
    let format = c.requires.tree.0 in
    subst (λ (x : Content). (f : Format) × (s : State) × SearchTree f x s c.args.link)
    (sym (ap g.R.Rows.content c.is_lower.ensures.same))
    (format, c.requires.tree.1, c.requires.tree.2.tree)

pub returns-then-is_lower-clause-step : goal.returns-then-is_lower-clause-step
returns-then-is_lower-clause-step g c = λ format s t layer. c.is_lower.ensures.lower
    c.if-is_lower.true format s t.tree

pub top_step-requires-clause-some : goal.top_step-requires-clause-some
top_step-requires-clause-some g c =
    let format = c.requires.tree.0 in
    let t = c.requires.tree.2.tree in
    some_link format t.placed c.args.link c.args.layer t.at
    (c.is_lower.ensures.higher c.if-is_lower.false format c.requires.tree.1 t)

-- ---- the top node is opened

module _ (g : Over) (c : goal.After-top_step g) (format : Format) where
  opened : (s : State) (z : SearchTree format (g.R.Rows.content c.args.rows.now) s c.args.link)
      → IsOpened format (g.R.Rows.content c.args.rows.now) s c.args.link z c.args.key.now
      c.top_step.result
  opened =
      subst (λ (x : Content). (q : State) (y : SearchTree format x q c.args.link)
      → IsOpened format x q c.args.link y c.args.key.now c.top_step.result)
      (ap g.R.Rows.content c.is_lower.ensures.same) (c.top_step.ensures.opened format)

module _ (g : Over) (c : goal.In-Down g) (format : Format) (s : State)
    (z : SearchTree format (g.R.Rows.content c.args.rows.now) s c.args.link) where
  gap : IsOpened format (g.R.Rows.content c.args.rows.now) s c.args.link z c.args.key.now
      c.top_step.result → OpensGap format (g.R.Rows.content c.args.rows.now) s c.args.link z
      c.args.key.now c.in-Down.child c.in-Down.frame
  gap is = subst (IsOpened format (g.R.Rows.content c.args.rows.now) s c.args.link z c.args.key.now)
      c.in-Down.is is

pub returns-then-frame-layer-clause-step : goal.returns-then-frame-layer-clause-step
returns-then-frame-layer-clause-step g c = λ format s t layer.
    let at = goal.at.returns-then-frame-layer-clause-step g c in
    puts_between format (g.R.Rows.content c.args.rows.now) s c.args.link t c.args.layer
    c.args.key.now layer c.in-Down.child c.in-Down.frame
    (gap g at.In-Down format s t.tree (opened g at.After-top_step format s t.tree))
    c.if-frame-layer.true

pub returns-else-frame-layer-clause-step : goal.returns-else-frame-layer-clause-step
returns-else-frame-layer-clause-step g c = λ format s t layer.
    let at = goal.at.returns-else-frame-layer-clause-step g c in
    puts_down format (g.R.Rows.content c.args.rows.now) s c.args.link t c.args.layer c.args.key.now
    layer c.in-Down.child c.in-Down.frame
    (gap g at.In-Down format s t.tree (opened g at.After-top_step format s t.tree))
    (c.is_lower.ensures.higher c.if-is_lower.false format s t.tree) c.if-frame-layer.false

pub returns-in-Here-clause-step : goal.returns-in-Here-clause-step
returns-in-Here-clause-step g c = λ format s t layer.
    let C = g.R.Rows.content c.args.rows.now in
    let here : OpensEntry format C s c.args.link t.tree c.args.key.now c.in-Here.meeting =
    subst (IsOpened format C s c.args.link t.tree c.args.key.now) c.in-Here.is
    (opened g (goal.at.returns-in-Here-clause-step g c).After-top_step format s t.tree) in
    puts_anew format C s c.args.link t c.args.layer c.args.key.now layer c.in-Here.meeting here

-- ---- what a search finds

pub returns-then-is_lower-clause-same : goal.returns-then-is_lower-clause-same
returns-then-is_lower-clause-same g c = search rules

pub returns-then-frame-layer-clause-same : goal.returns-then-frame-layer-clause-same
returns-then-frame-layer-clause-same g c = search rules

pub returns-else-frame-layer-clause-same : goal.returns-else-frame-layer-clause-same
returns-else-frame-layer-clause-same g c = search rules

pub returns-in-Here-clause-same : goal.returns-in-Here-clause-same
returns-in-Here-clause-same g c = search rules
