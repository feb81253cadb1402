use Rattle.mst_path.proofs.Names.{Format, ◌≡◌, ◌∙◌, ◌-◌, Some, IsSome, sym, ap, subst, arith, rules, Content, part_at, State, head_links, keyed_links, TwoTrees, Met}
use Rattle.mst_path.proofs.lemmas.trees.Opening.{Opened, head_there}
use Rattle.mst_path.proofs.lemmas.trees.Meetings.{b_node, first_some, first_there, met_above, met_below, met_beside}
use Rattle.mst_path.proofs.joining.meet.Given.{Over}
use Rattle.mst_path.proofs.joining.meet.Goals.{After-head-right_head, After-entry-first}
use Rattle.mst_path.proofs.joining.meet.Goals as goal

pub head-right_head-requires : goal.head-right_head-requires
head-right_head-requires g c =
    let format = c.requires.trees.0 in
    let t = c.requires.trees.2 in
    record {
      there = subst (λ (x : Content). IsSome (part_at head_links x (c.args.right - 1)))
          (sym (ap g.R.Rows.content c.head-left_head.ensures.same))
          (head_there format (g.R.Rows.content c.args.rows.now) t.b c.args.right t.b_at
          c.requires.right t.b_piece.rows);
    }

-- ---- both heads are read

module _ (g : Over) (c : goal.After-head-right_head g) where
  right_read : part_at head_links (g.R.Rows.content c.args.rows.now) (c.args.right - 1) ≡ Some
      c.head-right_head.result
  right_read =
      subst (λ (x : Content). part_at head_links x (c.args.right - 1) ≡ Some
      c.head-right_head.result)
      (ap g.R.Rows.content c.head-left_head.ensures.same) c.head-right_head.ensures.value

  right_opened : (format : Format) (s : State)
      (t : TwoTrees format (g.R.Rows.content c.args.rows.now) s c.args.left c.args.right)
      → Opened format (g.R.Rows.content c.args.rows.now) s t.b (c.args.right - 1)
      c.head-right_head.result
  right_opened format s t = b_node format (g.R.Rows.content c.args.rows.now) s c.args.left
      c.args.right t c.head-left_head.result c.head-right_head.result c.requires.left
      c.requires.right
      c.head-left_head.ensures.value right_read

pub returns-then-right_head-left_head-clause-met : goal.returns-then-right_head-left_head-clause-met
returns-then-right_head-left_head-clause-met g c = λ format s t.
    subst (Met format (g.R.Rows.content c.args.rows.now) s c.args.left c.args.right t)
    (sym c.above_right.ensures.is)
    (met_above format (g.R.Rows.content c.args.rows.now) s c.args.left c.args.right t
    c.head-left_head.result c.head-right_head.result c.requires.left c.requires.right
    c.head-left_head.ensures.value
    (right_read g (goal.at.returns-then-right_head-left_head-clause-met g c).After-head-right_head)
    c.if-right_head-left_head.true)

pub overflow_sub-right_head : goal.overflow_sub-right_head
overflow_sub-right_head g c =
    let format = c.requires.trees.0 in
    let opened = right_opened g (goal.at.overflow_sub-right_head g c).After-head-right_head format
    c.requires.trees.1 c.requires.trees.2 in
    omega (
      arith,
      first_some format (g.R.Rows.content c.args.rows.now) c.requires.trees.1
          c.requires.trees.2.b (c.args.right - 1) c.head-right_head.result opened
          c.requires.trees.2.b_search,
    )

pub entry-first-requires : goal.entry-first-requires
entry-first-requires g c =
    let format = c.requires.trees.0 in
    let opened = right_opened g (goal.at.entry-first-requires g c).After-head-right_head format
    c.requires.trees.1 c.requires.trees.2 in
    let there = first_there format (g.R.Rows.content c.args.rows.now) c.requires.trees.1
    c.requires.trees.2.b (c.args.right - 1) c.head-right_head.result opened
    c.requires.trees.2.b_search in
    record {
      there =
          subst (λ (x : Content). IsSome
          (part_at keyed_links x (c.head-right_head.result.first - 1)))
          (sym (ap g.R.Rows.content
          (c.head-right_head.ensures.same ∙ c.head-left_head.ensures.same))) there;
    }

-- ---- the first entry of the right node is read

module _ (g : Over) (c : goal.After-entry-first g) where
  first_read : part_at keyed_links (g.R.Rows.content c.args.rows.now)
      (c.head-right_head.result.first - 1)
      ≡ Some c.entry-first.result
  first_read =
      subst (λ (x : Content). part_at keyed_links x (c.head-right_head.result.first - 1) ≡ Some
      c.entry-first.result)
      (ap g.R.Rows.content (c.head-right_head.ensures.same ∙ c.head-left_head.ensures.same))
      c.entry-first.ensures.value

pub returns-then-left_head-right_head-clause-met : goal.returns-then-left_head-right_head-clause-met
returns-then-left_head-right_head-clause-met g c = λ format s t.
    let at = goal.at.returns-then-left_head-right_head-clause-met g c in
    subst (Met format (g.R.Rows.content c.args.rows.now) s c.args.left c.args.right t)
    (sym c.below_right.ensures.is)
    (met_below format (g.R.Rows.content c.args.rows.now) s c.args.left c.args.right t
    c.head-left_head.result c.head-right_head.result c.requires.left c.requires.right
    c.head-left_head.ensures.value (right_read g at.After-head-right_head) c.entry-first.result
    (first_read g at.After-entry-first) c.if-left_head-right_head.true)

pub returns-clause-met : goal.returns-clause-met
returns-clause-met g c = λ format s t.
    let at = goal.at.returns-clause-met g c in
    subst (Met format (g.R.Rows.content c.args.rows.now) s c.args.left c.args.right t)
    (sym c.beside_right.ensures.is)
    (met_beside format (g.R.Rows.content c.args.rows.now) s c.args.left c.args.right t
    c.head-left_head.result c.head-right_head.result c.requires.left c.requires.right
    c.head-left_head.ensures.value (right_read g at.After-head-right_head) c.entry-first.result
    (first_read g at.After-entry-first)
    (omega (arith, c.if-right_head-left_head.false, c.if-left_head-right_head.false)))

-- ---- what a search finds

pub overflow_sub-left : goal.overflow_sub-left
overflow_sub-left g c = search rules

pub head-left_head-requires : goal.head-left_head-requires
head-left_head-requires g c = search rules

pub overflow_sub-right : goal.overflow_sub-right
overflow_sub-right g c = search rules

pub above_right-requires : goal.above_right-requires
above_right-requires g c = search rules

pub returns-then-right_head-left_head-clause-same :
    goal.returns-then-right_head-left_head-clause-same
returns-then-right_head-left_head-clause-same g c = search rules

pub below_right-requires : goal.below_right-requires
below_right-requires g c = search rules

pub returns-then-left_head-right_head-clause-same :
    goal.returns-then-left_head-right_head-clause-same
returns-then-left_head-right_head-clause-same g c = search rules

pub beside_right-requires-clause-left : goal.beside_right-requires-clause-left
beside_right-requires-clause-left g c = search rules

pub beside_right-requires-clause-right : goal.beside_right-requires-clause-right
beside_right-requires-clause-right g c = search rules

pub returns-clause-same : goal.returns-clause-same
returns-clause-same g c = search rules
