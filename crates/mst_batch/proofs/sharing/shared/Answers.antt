use Rattle.mst_batch.proofs.Names.{◌≡◌, ℕ, ◌<◌, List, length, get_or, Option, None, IsSome, Bor, sym, ◌∙◌, ap, subst, Pair, Format, Entries, IsMst, Content, Stands, HasEntry, TreeLies, lies_still, entries_beside, AreKnown, AreThere, known_of_node, made, plan_of_node, PlanEntry}
use Rattle.mst_node.specs.Tree as tree
use Rattle.mst_batch.proofs.NodeChoices.{some_entry, first_key, tree_there, stays, is_made, nowhere}
use Rattle.mst_batch.proofs.sharing.shared.Given.{Over}
use Rattle.mst_batch.proofs.sharing.shared.Goals.{After-link_of-link}
use Rattle.mst_batch.proofs.sharing.shared.Goals as goal

pub unreachable-requires : goal.unreachable-requires
unreachable-requires g c =
    let z = c.requires.node in
    let some : 0 < length c.deref.result.now =
    subst (λ (xs : List (PlanEntry g.row.B.Denot)). 0 < length xs) (sym c.deref.ensures.value)
    (some_entry z.0 z.2.tree.placed c.args.node z.3 z.4 z.5 z.6) in
    let there : IsSome c.first.result = c.first.ensures.item.2 some in
    let no : IsSome {T = Bor (PlanEntry g.row.B.Denot)} None =
    subst (λ (o : Option (Bor (PlanEntry g.row.B.Denot))). IsSome o) c.in_default.is there in
    cc

pub matches-requires-clause-lies : goal.matches-requires-clause-lies
matches-requires-clause-lies g c =
    let z = c.requires.node in
    subst (λ (x : Content). TreeLies x c.link_of-link.result)
    (sym (ap g.R.Rows.content c.link_of-link.ensures.same))
    (tree_there z.2 c.new-2.result (c.link_of-link.ensures.link z.0 z.1 z.2))

pub matches-requires-clause-known : goal.matches-requires-clause-known
matches-requires-clause-known g c =
    subst (λ (x : Content). AreThere x (known_of_node c.args.node))
    (sym (ap g.R.Rows.content c.link_of-link.ensures.same)) c.requires.known

-- ---- the key that was looked up is that of an entry

module _ (g : Over) (c : goal.After-link_of-link g) (format : Format) (m : List Pair)
    (stands : Stands format (g.R.Rows.content c.args.rows.now) c.args.root.now m) (l : ℕ)
    (es : Entries) (mst : IsMst format (tree.node format l es))
    (is : plan_of_node c.args.node
    ≡ made l (entries_beside format stands.tree.placed es)) where
  own : HasEntry c.new-2.result es
  own = subst (λ (q : List ℕ). HasEntry q es) (sym c.new-2.ensures.key)
      (first_key format stands.tree.placed c.args.node l es mst is c.in-Some.first.now
      (subst (λ (xs : List (PlanEntry g.row.B.Denot)).
      c.in-Some.first.now ≡ get_or xs 0 c.in-Some.first.now)
      c.deref.ensures.value c.in-Some.ensures.item.1))

pub returns-then-matches-clause-plan : goal.returns-then-matches-clause-plan
returns-then-matches-clause-plan g c format m stands l es mst is =
    let at = (goal.at.returns-then-matches-clause-plan g c).After-link_of-link in
    stays stands c.new-2.result c.args.node l es (c.link_of-link.ensures.link format m stands)
    (own g at format m stands l es mst is) mst is
    (λ f p lies. c.matches.ensures.node f p
    (lies_still (ap g.R.Rows.content c.link_of-link.ensures.same) lies))
    c.if-matches.true

pub returns-clause-plan : goal.returns-clause-plan
returns-clause-plan g c format m stands l es mst is =
    let at = (goal.at.returns-clause-plan g c).After-link_of-link in
    ap plan_of_node c.in_ok-new-2.ensures.ok
    ∙ is_made stands c.new-2.result c.args.node l es (c.link_of-link.ensures.link format m stands)
    (own g at format m stands l es mst is) mst is
    (λ f p lies. c.matches.ensures.node f p
    (lies_still (ap g.R.Rows.content c.link_of-link.ensures.same) lies))
    c.if-matches.false

-- ---- a tree in a gap is to be made

pub returns-then-has_new_gap-clause-plan : goal.returns-then-has_new_gap-clause-plan
returns-then-has_new_gap-clause-plan g c format m stands l es mst is =
    ap plan_of_node c.in_ok-new.ensures.ok
    ∙ nowhere stands c.args.node l es mst is (c.has_new_gap.ensures.new c.if-has_new_gap.true)

-- ---- what the plan names

pub returns-then-has_new_gap-clause-known : goal.returns-then-has_new_gap-clause-known
returns-then-has_new_gap-clause-known g c = λ format whole known.
    subst (λ n. AreKnown format whole (known_of_node n)) (sym c.in_ok-new.ensures.ok) known

pub returns-then-matches-clause-known : goal.returns-then-matches-clause-known
returns-then-matches-clause-known g c = λ format whole known. tt

pub returns-clause-known : goal.returns-clause-known
returns-clause-known g c = λ format whole known.
    subst (λ n. AreKnown format whole (known_of_node n)) (sym c.in_ok-new-2.ensures.ok) known
