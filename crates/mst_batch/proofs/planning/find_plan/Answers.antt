use Rattle.mst_batch.proofs.Names.{◌≡◌, List, sym, ◌∙◌, ap, subst, IfOk-weaker, batched, Pair, tree, Content, Stands, listed, plan_beside, AreKnown, known_of, plan_of, Updates}
use Rattle.mst_batch.proofs.Finding.{whole_updates, after_sorted}
use Rattle.mst_batch.proofs.UpdateSteps.{PlansUpdated, KnowsUpdated}
use Rattle.mst_batch.proofs.planning.find_plan.Goals as goal

-- ---- each edit puts a value at a key that the map has

pub updated-requires-clause-updates : goal.updated-requires-clause-updates
updated-requires-clause-updates g c =
    let z = c.requires.stands in (
      z.0,
      subst (λ (x : Content). Updates c.args.format x c.args.root.now z.0 c.args.root.now.link
          (listed c.as_slice-normal.result.now))
          (sym (ap g.R.Rows.content c.are_updates.ensures.same))
          (whole_updates c.args.format (g.R.Rows.content c.args.rows.now) c.args.root.now z.0 z.1
          (listed c.as_slice-normal.result.now)
          (c.are_updates.ensures.updates c.if-are_updates.true c.args.format z.0 z.1)),
    )

pub returns-then-are_updates-clause-plan : goal.returns-then-are_updates-clause-plan
returns-then-are_updates-clause-plan g c =
    let content = g.R.Rows.content c.args.rows.now in
    IfOk-weaker c.updated.result _ _
    (λ plan plans m st.
    subst (λ (x : Content). PlansUpdated c.args.format x c.args.root.now c.args.root.now.link
    (listed c.as_slice-normal.result.now) (plan_of plan))
    (ap g.R.Rows.content c.are_updates.ensures.same) plans m
    (whole_updates c.args.format content c.args.root.now m st
    (listed c.as_slice-normal.result.now)
    (c.are_updates.ensures.updates c.if-are_updates.true c.args.format m st))
    ∙ ap (λ (ps : List Pair). plan_beside c.args.format st.tree.placed (tree c.args.format ps))
    (after_sorted c.args.format content c.args.root.now m st c.args.edits.now
    c.in_ok-normal.normal.items c.as_slice-normal.result.now c.as_slice-normal.ensures.value
    (c.in_ok-normal.ensures.map m st.map)))
    c.updated.ensures.plan

pub returns-then-are_updates-clause-known : goal.returns-then-are_updates-clause-known
returns-then-are_updates-clause-known g c =
    IfOk-weaker c.updated.result _ _
    (λ plan known m st.
    subst (λ (x : Content). KnowsUpdated c.args.format x c.args.root.now c.args.root.now.link
    (listed c.as_slice-normal.result.now) (known_of plan))
    (ap g.R.Rows.content c.are_updates.ensures.same) known m
    (whole_updates c.args.format (g.R.Rows.content c.args.rows.now) c.args.root.now m st
    (listed c.as_slice-normal.result.now)
    (c.are_updates.ensures.updates c.if-are_updates.true c.args.format m st)))
    c.updated.ensures.known

-- ---- another edit

pub returns-clause-plan : goal.returns-clause-plan
returns-clause-plan g c =
    IfOk-weaker c.plan_of_items.result _ _
    (λ plan plans m st.
    subst (λ (x : Content). (n : List Pair) (s : Stands c.args.format x c.args.root.now n)
    → plan_of plan ≡ plan_beside c.args.format s.tree.placed
    (tree c.args.format (batched n (listed c.as_slice-normal.result.now))))
    (ap g.R.Rows.content c.are_updates.ensures.same) plans m st
    ∙ ap (λ (ps : List Pair). plan_beside c.args.format st.tree.placed (tree c.args.format ps))
    (ap (λ ns. batched m (listed ns)) c.as_slice-normal.ensures.value
    ∙ c.in_ok-normal.ensures.map m st.map))
    c.plan_of_items.ensures.plan

pub returns-clause-known : goal.returns-clause-known
returns-clause-known g c =
    IfOk-weaker c.plan_of_items.result _ _
    (λ plan known m st.
    subst (λ (x : Content). (n : List Pair) (s : Stands c.args.format x c.args.root.now n)
    → AreKnown c.args.format s.tree.placed (known_of plan))
    (ap g.R.Rows.content c.are_updates.ensures.same) known m st)
    c.plan_of_items.ensures.known
