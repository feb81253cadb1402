use Rattle.mst_path.proofs.Names.{arith}
use Rattle.mst_path.proofs.lemmas.steps.Rounds.{frame_after, closed_round}
use Rattle.mst_path.proofs.remove_path.join_round.Goals as goal

pub join-seam-requires-clause-trees : goal.join-seam-requires-clause-trees
join-seam-requires-clause-trees g c = (c.requires.met.0, omega (arith, c.requires.met.2))

pub close-requires-clause-frame : goal.close-requires-clause-frame
close-requires-clause-frame g c =
    let done = c.join-seam.ensures.joined c.requires.met.0 in
    (done.placed, done.root, done.piece, frame_after c.args.format done c.requires.met.1)

pub returns-clause-made : goal.returns-clause-made
returns-clause-made g c = λ z f.
    let done = c.join-seam.ensures.joined z in
    closed_round c.args.format done f
    (c.close.ensures.made done.placed done.root done.piece (frame_after c.args.format done f))
