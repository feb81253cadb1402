use Rattle.mst_sharded_proof.proofs.Names.{◌∙◌, sym, arith}
use Rattle.std.proofs.Common.{rules}
use Rattle.mst_node.proofs.ReadIsSpelled.{bytes-at}
use Rattle.mst_sharded_proof.proofs.Agreed.{sharded_accepted, sharded_accepts}
use Rattle.mst_sharded_proof.proofs.Complete.{sharded_complete}
use Rattle.mst_sharded_proof.proofs.Sound.{sharded_sound}
use Rattle.mst_sharded_proof.proofs.verifier.verify_sharded.Goals as goal

pub returns-clause-sound : goal.returns-clause-sound
returns-clause-sound c = λ m splits a has e other.
    let b = bytes-at c.args.proof.now (λ i. omega (arith, c.type_inv.proof i)) in
    sharded_sound c.args.format m splits c.args.root.now c.args.key.now c.args.proof.now a b has
    (sym c.judge.ensures.verdict ∙ e) other

pub returns-clause-verdict : goal.returns-clause-verdict
returns-clause-verdict c = search rules

pub returns-clause-complete : goal.returns-clause-complete
returns-clause-complete c = λ m splits has is.
    let b = bytes-at c.args.proof.now (λ i. omega (arith, c.type_inv.proof i)) in
    c.judge.ensures.verdict
    ∙ sharded_complete c.args.format m splits c.args.root.now c.args.key.now c.args.proof.now b has
    c.key_limits.ensures.limits is

pub returns-clause-accepted : goal.returns-clause-accepted
returns-clause-accepted c = λ a.
    let b = bytes-at c.args.proof.now (λ i. omega (arith, c.type_inv.proof i)) in
    let r = c.judge.ensures.verdict in (
      λ e. sharded_accepted c.args.format c.args.root.now c.args.key.now c.args.proof.now a b
          (sym r ∙ e),
      λ is. r ∙ sharded_accepts c.args.format c.args.root.now c.args.key.now c.args.proof.now a is,
    )
