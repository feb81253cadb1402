use Rattle.mst_versions.proofs.Names.{◌≡◌, sym, subst, rules, Seated, HasTurn}
use Rattle.mst_versions.proofs.Migrated.{stays_made}
use Rattle.mst_versions.proofs.migrating.make_move.Goals as goal

pub returns-then-eq-clause-made : goal.returns-then-eq-clause-made
returns-then-eq-clause-made g c =
    let same : c.args.turn.now.format ≡ c.args.to = search rules in
    stays_made c.args.turn.now c.args.seat.now c.requires.turn c.args.to same c.requires.open

pub move_tree-moved-requires-clause-turn : goal.move_tree-moved-requires-clause-turn
move_tree-moved-requires-clause-turn g c = subst (λ (z : Seated). HasTurn c.args.turn.now z.me)
    (sym c.tree_in.ensures.same) c.requires.turn
