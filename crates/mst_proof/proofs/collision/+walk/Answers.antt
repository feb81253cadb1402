use Rattle.mst_proof.proofs.Names.{◌≡◌, ◌∙◌, sym, ap, subst, List, ℕ, ◌∷◌, length, arith, rules, common_steps, option_copied, tree_of, IsSmall}
use Rattle.mst_proof.proofs.Walks.{texts_differ, texts_same, small_gap, is_node, none_here, some_here, none_below, some_below, none_further, some_further}
use Rattle.mst_proof.proofs.collision.+walk.Goals as goal

pub returns-then-ne-clause-none : goal.returns-then-ne-clause-none
returns-then-ne-clause-none g t c =
    let u = c.in-Some.found.now in
    let w = c.in_ok-expected.expected.items in
    none_here c.args.format c.args.claim.now c.pair_of.result c.args.key.now u c.next.new.self
    c.args.texts (tree_of c.args.format c.args.node.now) c.in-Some.ensures.next w
    c.in-Some.ensures.bytes
    (texts_differ u c.as_slice.result.now w c.if-ne.ensures c.as_slice.ensures.value)
    c.in_ok-expected.ensures.text c.pair_of.ensures.none

pub returns-then-ne-clause-some : goal.returns-then-ne-clause-some
returns-then-ne-clause-some g t c =
    let u = c.in-Some.found.now in
    let w = c.in_ok-expected.expected.items in
    some_here c.args.format c.args.claim.now c.pair_of.result c.args.key.now u c.next.new.self
    c.args.texts (tree_of c.args.format c.args.node.now) c.in-Some.ensures.next w
    c.in_ok-expected.ensures.text (is_node c.args.format g.row.A.Denot c.args.node.now)
    c.pair_of.ensures.some

pub returns-in-None-clause-none : goal.returns-in-None-clause-none
returns-in-None-clause-none g t c =
    let u = c.in-Some.found.now in
    let w = c.in_ok-expected.expected.items in
    let same = texts_same u c.as_slice.result.now w c.if-ne.ensures c.as_slice.ensures.value
    ∙ c.in_ok-expected.ensures.text in
    none_further c.args.format c.args.claim.now c.value_pair.result c.args.key.now u c.next.new.self
    c.args.texts (tree_of c.args.format c.args.node.now) c.in-Some.ensures.next
    (option_copied c.value_for.result) c.in-Some.ensures.bytes c.requires.small same
    (c.in-None.ensures.child c.args.format) (c.value_for.ensures.value c.args.format)
    c.value_pair.ensures.none

pub returns-in-None-clause-some : goal.returns-in-None-clause-some
returns-in-None-clause-some g t c =
    some_further c.args.format c.args.claim.now c.value_pair.result c.args.key.now
    c.in-Some.found.now c.next.new.self c.args.texts (tree_of c.args.format c.args.node.now)
    c.in-Some.ensures.next (option_copied c.value_for.result) c.requires.small
    (c.in-None.ensures.child c.args.format) (c.value_for.ensures.value c.args.format)
    c.value_pair.ensures.some

pub walk-requires : goal.walk-requires
walk-requires g t c κs within =
    let fewer : length c.args.texts ≡ length (c.in-Some.found.now ∷ c.next.new.self) =
    ap (λ (x : List (List ℕ)). length x) c.in-Some.ensures.next in
    let small =
    subst (IsSmall c.args.format) (sym (c.in-Some-child_for.ensures.child c.args.format))
    (small_gap c.args.format c.args.key.now (tree_of c.args.format c.args.node.now)
    c.requires.small) in
    (grind (arith, common_steps, fewer), (search rules, small))

pub returns-clause-none : goal.returns-clause-none
returns-clause-none g t c =
    let u = c.in-Some.found.now in
    let w = c.in_ok-expected.expected.items in
    let same = texts_same u c.as_slice.result.now w c.if-ne.ensures c.as_slice.ensures.value
    ∙ c.in_ok-expected.ensures.text in
    none_below c.args.format c.args.claim.now c.walk.result c.args.key.now u c.next.new.self
    c.args.texts (tree_of c.args.format c.args.node.now) c.in-Some.ensures.next
    (tree_of c.args.format c.in-Some-child_for.child.now)
    (is_node c.args.format g.row.A.Denot c.in-Some-child_for.child.now) c.in-Some.ensures.bytes
    c.requires.small same (c.in-Some-child_for.ensures.child c.args.format) c.walk.ensures.none

pub returns-clause-some : goal.returns-clause-some
returns-clause-some g t c =
    let u = c.in-Some.found.now in
    let w = c.in_ok-expected.expected.items in
    let same = texts_same u c.as_slice.result.now w c.if-ne.ensures c.as_slice.ensures.value
    ∙ c.in_ok-expected.ensures.text in
    some_below c.args.format c.args.claim.now c.walk.result c.args.key.now u c.next.new.self
    c.args.texts (tree_of c.args.format c.args.node.now) c.in-Some.ensures.next
    (tree_of c.args.format c.in-Some-child_for.child.now)
    (is_node c.args.format g.row.A.Denot c.in-Some-child_for.child.now)
    (is_node c.args.format g.row.A.Denot c.args.node.now) c.requires.small same
    (c.in-Some-child_for.ensures.child c.args.format) c.walk.ensures.some
