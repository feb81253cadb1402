use Rattle.mst_batch.proofs.Names.{◌≡◌, true, List, map, sym, ◌∙◌, ap, subst, ◌↔◌, behind_still, Content, kept_entries, AreThere, all_known, known_of_entry, last, with_planned, planned_entry, PlanEntry}
use Rattle.mst_batch.proofs.KnownShapes.{entries_there}
use Rattle.mst_batch.proofs.Heads.{with_head}
use Rattle.mst_batch.proofs.PlanShapes.{tail}
use Rattle.mst_batch.proofs.SameNodes.{entries_decide, other_layer, none_there}
use Rattle.mst_batch.proofs.sharing.matches.Goals as goal

pub has_entries-requires-clause-lies : goal.has_entries-requires-clause-lies
has_entries-requires-clause-lies g c =
    let z = c.requires.lies in
    let h = with_head z.1 z.2.rows (sym (c.head_at.ensures.head z.0 z.1 z.2) ∙ c.in-Some.is) in
    (z.0, h.chain, behind_still (ap g.R.Rows.content c.head_at.ensures.same) h.lies)

pub has_entries-requires-clause-known : goal.has_entries-requires-clause-known
has_entries-requires-clause-known g c =
    subst (λ (x : Content). AreThere x (all_known (map known_of_entry c.as_slice.result.now)))
    (sym (ap g.R.Rows.content c.head_at.ensures.same))
    (subst (λ (xs : List (PlanEntry g.row.B.Denot)).
    AreThere (g.R.Rows.content c.args.rows.now) (all_known (map known_of_entry xs)))
    (sym c.as_slice.ensures.value)
    (entries_there (g.R.Rows.content c.args.rows.now) g.row.B.Denot c.args.node.now
    c.requires.known))

pub returns-then-node-head-clause-node : goal.returns-then-node-head-clause-node
returns-then-node-head-clause-node g c f p lies =
    let h = with_head p lies.rows (sym (c.head_at.ensures.head f p lies) ∙ c.in-Some.is) in
    entries_decide c.args.node.now h c.if-node-head.true
    (subst (λ (xs : List (PlanEntry g.row.B.Denot)). (c.has_entries.result ≡ true)
    ↔ (with_planned (map planned_entry xs) (last (tail g.row.B.Denot c.args.node.now))
    ≡ kept_entries h.chain))
    c.as_slice.ensures.value
    (c.has_entries.ensures.entries f h.chain
    (behind_still (ap g.R.Rows.content c.head_at.ensures.same) h.lies)))

pub returns-else-node-head-clause-node : goal.returns-else-node-head-clause-node
returns-else-node-head-clause-node g c f p lies =
    other_layer c.args.node.now
    (with_head p lies.rows (sym (c.head_at.ensures.head f p lies) ∙ c.in-Some.is))
    c.if-node-head.false

pub returns-in_default-clause-node : goal.returns-in_default-clause-node
returns-in_default-clause-node g c f p lies =
    none_there c.args.node.now p (sym (c.head_at.ensures.head f p lies) ∙ c.in_default.is)
