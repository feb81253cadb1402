use Rattle.mst_proof.proofs.Names.{rules, ◌∙◌, sym, arith, bytes-at}
use Rattle.mst_proof.proofs.Agreed.{accepted, accepts}
use Rattle.mst_proof.proofs.Nodewise.{accepted_stepwise, accepted_nodewise}
use Rattle.mst_proof.proofs.Truth.{proof_accepted, other_answer}
use Rattle.mst_proof.proofs.verifier.verify_in.Goals as goal

pub returns-clause-accepted : goal.returns-clause-accepted
returns-clause-accepted c = λ a.
    let b = bytes-at c.args.proof.now (λ i. omega (arith, c.type_inv.proof i)) in
    let r = c.judge.ensures.verdict in (
      λ e. accepted_nodewise c.args.format c.args.root.now c.args.key.now c.args.proof.now a
          (accepted c.args.format c.args.root.now c.args.key.now c.args.proof.now a b (sym r ∙ e)),
      λ is. r ∙ accepts c.args.format c.args.root.now c.args.key.now c.args.proof.now a
          (accepted_stepwise c.args.format c.args.root.now c.args.key.now c.args.proof.now a is),
    )

pub returns-clause-complete : goal.returns-clause-complete
returns-clause-complete c = λ m has is.
    let b = bytes-at c.args.proof.now (λ i. omega (arith, c.type_inv.proof i)) in
    c.judge.ensures.verdict ∙ accepts c.args.format c.args.root.now c.args.key.now c.args.proof.now
    _ (proof_accepted c.args.format m c.args.root.now c.args.key.now c.args.proof.now b has is)

pub returns-clause-sound : goal.returns-clause-sound
returns-clause-sound c = λ m a has e other.
    let b = bytes-at c.args.proof.now (λ i. omega (arith, c.type_inv.proof i)) in
    let is = accepted c.args.format c.args.root.now c.args.key.now c.args.proof.now a b
    (sym c.judge.ensures.verdict ∙ e) in
    other_answer c.args.format m c.args.root.now c.args.key.now c.args.proof.now a b has is other

pub returns-clause-verdict : goal.returns-clause-verdict
returns-clause-verdict c = search rules
