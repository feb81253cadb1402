use Rattle.std.proofs.Common.{◌∙◌, ap, arith, rules, SFits, w32, to_z-of_z}
use Rattle.mst_node.proofs.ReadIsSpelled.{bytes-at}
use Rattle.mst_proof.proofs.Agreed.{accepted, accepts}
use Rattle.mst_proof.proofs.Nodewise.{accepted_nodewise}
use Rattle.mst_proof.proofs.Truth.{proof_accepted, other_answer}
use Rattle.mst_verifier.specs.declared.question.Kind.TheVariants.{Plain}
use Rattle.mst_verifier.specs.Question.{with_refusal}
use Rattle.mst_verifier.proofs.Meaning.{plain_told, format_told, verdict_told, tells_verdict}
use Rattle.mst_verifier.proofs.mst_verify.Goals as goal

pub returns-clause-accepted : goal.returns-clause-accepted
returns-clause-accepted c = λ a told.
    let b = bytes-at c.args.proof.now (λ i. omega (arith, c.type_inv.proof i)) in
    let fits_code : SFits w32 c.tell.result = search rules in
    let is = to_z-of_z fits_code ∙ c.tell.ensures.code in
    let t = format_told Plain c.args.format c.args.root.now c.args.key.now c.args.proof.now
    c.args.room.now _ _ a is c.tell.ensures.room told in (
      t.0,
      t.1,
      accepted_nodewise t.0 c.args.root.now c.args.key.now c.args.proof.now a
          (accepted t.0 c.args.root.now c.args.key.now c.args.proof.now a b (plain_told _ a t.2)),
    )

pub returns-clause-complete : goal.returns-clause-complete
returns-clause-complete c = λ f m named digest key has proof fits.
    let b = bytes-at c.args.proof.now (λ i. omega (arith, c.type_inv.proof i)) in
    let fits_code : SFits w32 c.tell.result = search rules in
    let is = to_z-of_z fits_code ∙ c.tell.ensures.code in
    let v = accepts f c.args.root.now c.args.key.now c.args.proof.now _
    (proof_accepted f m c.args.root.now c.args.key.now c.args.proof.now b has proof) in
    tells_verdict Plain c.args.format f c.args.root.now c.args.key.now c.args.proof.now
    c.args.room.now _ _ _ named digest key fits is c.tell.ensures.room (ap with_refusal v)

pub returns-clause-sound : goal.returns-clause-sound
returns-clause-sound c = λ f m a named has told other.
    let b = bytes-at c.args.proof.now (λ i. omega (arith, c.type_inv.proof i)) in
    let fits_code : SFits w32 c.tell.result = search rules in
    let is = to_z-of_z fits_code ∙ c.tell.ensures.code in
    let v = plain_told _ a (verdict_told Plain c.args.format f c.args.root.now c.args.key.now
    c.args.proof.now c.args.room.now _ _ a named is c.tell.ensures.room told) in
    other_answer f m c.args.root.now c.args.key.now c.args.proof.now a b has
    (accepted f c.args.root.now c.args.key.now c.args.proof.now a b v) other

pub returns-clause-code : goal.returns-clause-code
returns-clause-code c = search rules

pub returns-clause-room : goal.returns-clause-room
returns-clause-room c = search rules
