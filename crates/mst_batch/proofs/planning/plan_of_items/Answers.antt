use Rattle.mst_batch.proofs.Names.{◌≡◌, List, refl, sym, ◌∙◌, ap, subst, IfOk-weaker, Pair, Format, tree, Content, Stands, listed, plan_beside, AreItems, items_pairs, AreKnown, known_of, plan_of}
use Rattle.mst_batch.proofs.Finding.{whole_part, pairs_are, items_are}
use Rattle.mst_batch.proofs.planning.plan_of_items.Goals as goal

pub open-requires-clause-part : goal.open-requires-clause-part
open-requires-clause-part g c =
    let one = c.requires.stands in (
      one.1.tree.placed,
      whole_part c.args.format (g.R.Rows.content c.args.rows.now) c.args.root.now one.0 one.1,
    )

pub build-requires : goal.build-requires
build-requires g c = record {
  items =
      let format = c.args.format in
      let content = g.R.Rows.content c.args.rows.now in
      let one = c.requires.stands in
      let part = whole_part format content c.args.root.now one.0 one.1 in
      subst (λ (x : Content). (f : Format) × (m : List Pair) × (st : Stands f x c.args.root.now m)
      × AreItems f st.tree.placed c.as_slice.result.now)
      (sym (ap g.R.Rows.content c.in_ok-open.ensures.same)) (
        format,
        one.0,
        one.1,
        items_are format content c.args.root.now one.0 one.1 c.new-items.result.items
            c.open.new.items.items c.as_slice.result.now (listed c.args.edits.now)
            c.args.edits.now c.args.edits.now c.new-items.ensures.items
            c.as_slice.ensures.value refl refl
            (c.in_ok-open.ensures.items one.1.tree.placed part)
            (c.in_ok-open.ensures.each one.1.tree.placed part),
      );
}

pub returns-clause-plan : goal.returns-clause-plan
returns-clause-plan g c =
    let format = c.args.format in
    let content = g.R.Rows.content c.args.rows.now in
    IfOk-weaker c.build.result _ _
    (λ plan built m st.
    let part = whole_part format content c.args.root.now m st in
    let items : AreItems format st.tree.placed c.as_slice.result.now =
    items_are format content c.args.root.now m st c.new-items.result.items c.open.new.items.items
    c.as_slice.result.now (listed c.args.edits.now) c.args.edits.now c.args.edits.now
    c.new-items.ensures.items c.as_slice.ensures.value refl refl
    (c.in_ok-open.ensures.items st.tree.placed part)
    (c.in_ok-open.ensures.each st.tree.placed part) in
    subst (λ (x : Content). (f : Format) (n : List Pair) (s : Stands f x c.args.root.now n)
    → AreItems f s.tree.placed c.as_slice.result.now → plan_of plan ≡ plan_beside f s.tree.placed
    (tree f (items_pairs f s.tree.placed c.as_slice.result.now)))
    (ap g.R.Rows.content c.in_ok-open.ensures.same) built format m st items
    ∙ ap (λ (ps : List Pair). plan_beside format st.tree.placed (tree format ps))
    (pairs_are format content c.args.root.now m st c.new-items.result.items c.open.new.items.items
    c.as_slice.result.now (listed c.args.edits.now) c.args.edits.now c.args.edits.now
    c.new-items.ensures.items c.as_slice.ensures.value refl refl
    (c.in_ok-open.ensures.items st.tree.placed part)))
    c.build.ensures.plan

pub returns-clause-known : goal.returns-clause-known
returns-clause-known g c =
    let format = c.args.format in
    let content = g.R.Rows.content c.args.rows.now in
    IfOk-weaker c.build.result _ _
    (λ plan known m st.
    let part = whole_part format content c.args.root.now m st in
    let items : AreItems format st.tree.placed c.as_slice.result.now =
    items_are format content c.args.root.now m st c.new-items.result.items c.open.new.items.items
    c.as_slice.result.now (listed c.args.edits.now) c.args.edits.now c.args.edits.now
    c.new-items.ensures.items c.as_slice.ensures.value refl refl
    (c.in_ok-open.ensures.items st.tree.placed part)
    (c.in_ok-open.ensures.each st.tree.placed part) in
    subst (λ (x : Content). (f : Format) (n : List Pair) (s : Stands f x c.args.root.now n)
    → AreItems f s.tree.placed c.as_slice.result.now → AreKnown f s.tree.placed (known_of plan))
    (ap g.R.Rows.content c.in_ok-open.ensures.same) known format m st items)
    c.build.ensures.known
