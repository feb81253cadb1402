-- The plan of the map after a batch, beside the tree that stands.
use Rattle.mst_batch.proofs.Names.{◌≡◌, Bool, List, sym, ◌∙◌, ap, subst, AllByRecursion, batched, IsSmall, Pair, IsAscending, Format, Edit, IsAscending-batched, IsMap-batched, cost, Tree, tree, pairs, pairs_tree, tree_mst, Content, State, Placed, tree_of, used, Stands, numbers, Root, rows_beside, beside_cost, AreOld, distinct_times, mst_of, one_standing, node_at, plan_beside, AreMarks, IsPlanOf, PlanTree, rows_planned, Keeps}
use Rattle.mst_batch.proofs.Besides.{plan_is, plan_rows, plan_possible, plan_keeps}

module _ (format : Format) (content : Content) (root : Root) (es : List Edit) (m : List Pair)
    (st : Stands format content root m) where
  abbrev after : Tree
  after = tree format (batched m es)

  pub its_rows : rows_planned (plan_beside format st.tree.placed after)
      ≡ cost format m (batched m es)
  its_rows = plan_rows format content st.tree.placed st.tree.rows after
      ∙ ap (λ (u : Tree). rows_beside u after) st.tree.is ∙ beside_cost (tree format m) after

  -- one map stands at a root
  one_map : (n : List Pair) → Stands format content root n → m ≡ n
  one_map n other = sym (pairs_tree format m)
      ∙ ap pairs (sym st.tree.is
      ∙ ap (tree_of format) (one_standing format content root m n st other)
      ∙ other.tree.is)
      ∙ pairs_tree format n

  pub is_plan : (s : State) (marks : List Bool) → AreOld s (numbers st) → AllByRecursion IsSmall es
      → AreMarks marks (plan_beside format st.tree.placed after)
      → IsPlanOf format content s root marks (plan_beside format st.tree.placed after)
      (λ n. batched n es)
  is_plan s marks old small only = record {
    at = λ link. node_at st.tree.placed link;
    fits = λ n map. IsMap-batched n es map small;
    possible = plan_possible format content st.tree.placed st.tree.rows s old
        (mst_of format st.tree.placed m st.tree.is)
        (distinct_times (used st.tree.placed) st.tree.once) after
        (tree_mst format (batched m es))
        (subst IsAscending (sym (pairs_tree format (batched m es)))
        (IsAscending-batched m es st.map.ascending));
    keeps = λ n other.
        subst (λ (p : Placed). Keeps (λ link. node_at st.tree.placed link) marks p
        (plan_beside format st.tree.placed after))
        (one_standing format content root m n st other)
        (plan_keeps format content st.tree.placed st.tree.rows marks after only);
    is = λ n other.
        plan_is format content st.tree.placed st.tree.rows after (tree_mst format (batched m es))
        ∙ ap (λ (k : List Pair). tree format (batched k es)) (one_map n other);
    rows = λ n other.
        its_rows ∙ ap (λ (k : List Pair). cost format k (batched k es)) (one_map n other);
  }

  -- a plan that was found to be this one
  pub found_plan : (s : State) (marks : List Bool) (plan : PlanTree) → AreOld s (numbers st)
      → AllByRecursion IsSmall es → plan ≡ plan_beside format st.tree.placed after
      → AreMarks marks plan → IsPlanOf format content s root marks plan (λ n. batched n es)
  found_plan s marks plan old small is only =
      subst (λ (y : PlanTree). IsPlanOf format content s root marks y (λ n. batched n es)) (sym is)
      (is_plan s marks old small (subst (AreMarks marks) is only))
