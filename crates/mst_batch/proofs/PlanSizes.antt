-- A plan below a node is smaller than the node, so what recurses along plans ends.
use Rattle.mst_batch.proofs.Names.{◌≡◌, ◌<◌, ◌≤◌, ℕ, length, get_or, sym, subst, arith, PlanNode, out-PlanNode, PlanEntry, out-PlanEntry}
use denote.Param.Weighed.{most, at_most}
use Rattle.mst_batch.specs.declared.plan.PlanEntry.TheViews.{size-PlanNode, size-PlanEntry, size_is-PlanNode, size_is-PlanEntry, weight-PlanEntry-child}
use Rattle.mst_batch.proofs.PlanShapes.{items}

pub tail_smaller : (A : Type 0) (n : PlanNode A)
    → weight-PlanEntry-child A (out-PlanNode A n).tail < size-PlanNode A n
tail_smaller A n = omega (arith, size_is-PlanNode A n)

pub child_smaller : (A : Type 0) (n : PlanNode A) (i : ℕ) (e : PlanEntry A)
    → i < length (items A n) → e ≡ get_or (items A n) i e
    → weight-PlanEntry-child A (out-PlanEntry A e).child < size-PlanNode A n
child_smaller A n i e inside is =
    let below = subst (λ x. size-PlanEntry A x ≤ most (size-PlanEntry A) (items A n)) (sym is)
    (at_most (size-PlanEntry A) (items A n) i e inside) in
    omega (arith, below, size_is-PlanEntry A e, size_is-PlanNode A n)
