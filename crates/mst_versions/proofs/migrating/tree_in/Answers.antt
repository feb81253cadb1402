use Rattle.mst_versions.proofs.Names.{◌≡◌, None, subst, ◌∙◌, rules, map_range, after, tree}
use Rattle.std.specs.Prelude.{IfOk}
use Rattle.mst_node.specs.Shape.{tree_of_child}
use Rattle.mst_versions.proofs.Migrated.{few_pairs, whole_range}
use Rattle.mst_versions.proofs.migrating.tree_in.Goals as goal

pub range-requires : goal.range-requires
range-requires g c = let t = c.args.turn.now in let h = c.requires.turn in
    record { stands = (t.format, after c.args.seat.now.me.0.seen, h.stands) }

pub returns-in_err-pairs-clause-few : goal.returns-in_err-pairs-clause-few
returns-in_err-pairs-clause-few g c = few_pairs c.args.turn.now c.args.seat.now.me c.requires.turn
    c.requires.few_rows

pub returns-clause-few : goal.returns-clause-few
returns-clause-few g c = few_pairs c.args.turn.now c.args.seat.now.me c.requires.turn
    c.requires.few_rows

pub returns-clause-tree : goal.returns-clause-tree
returns-clause-tree g c =
    let t = c.args.turn.now in
    let h = c.requires.turn in
    let m = after c.args.seat.now.me.0.seen in
    let few = few_pairs t c.args.seat.now.me h c.requires.few_rows in
    let listed : c.in_ok-pairs.pairs.items ≡ m =
    subst (λ r. IfOk r (λ found. found.items ≡ map_range m None None 65535)) c.in_ok-pairs.was
    (c.range.ensures.found t.format m h.stands) ∙ whole_range m 65535 few in
    let same : c.as_slice.result.now ≡ c.in_ok-pairs.pairs.items = search rules in
    subst (λ ps. IfOk c.build_in.result (λ b. tree_of_child c.args.to b ≡ tree c.args.to ps))
    (same ∙ listed) c.build_in.ensures.tree
