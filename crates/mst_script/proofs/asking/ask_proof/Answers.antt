use Rattle.mst_script.proofs.Names.{rules, refl, encode_lower, Prove, codes, line_of}
use Rattle.mst_node.specs.Trail.{proof_text}
use Rattle.mst_script.proofs.Calling.{asked, missed}
use Rattle.mst_script.proofs.asking.ask_proof.Goals as goal

pub returns-in-Err : goal.returns-in-Err
returns-in-Err g c = let p = c.args.pass.now in let q = c.prove.new.self in let k =
    c.args.key.now in
    asked (Prove k) (Prove k) p q (line_of (codes "memory")) refl
    (missed (λ f m. line_of (encode_lower (proof_text f m k))) (line_of (codes "memory")) p q
    c.in-Err.ensures.memory refl)

pub returns-in-Ok : goal.returns-in-Ok
returns-in-Ok g c = search rules
