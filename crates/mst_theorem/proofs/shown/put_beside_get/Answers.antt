use Rattle.mst_theorem.proofs.Names.{IfOk, IfErr, subst, Put, map_get, had, Known, Answers, Wrote, Refuses, made_by}
use Rattle.mst_theorem.proofs.TwoCalls.{two_calls}
use Rattle.mst_theorem.proofs.shown.put_beside_get.Goals as goal

pub returns : goal.returns
returns g c = let did = c.at_once-put.ensures in let put = c.at_once-put.result.0 in
    let found = c.at_once-put.result.1 in let p : Known = c.at_once-put.new.one in
    let q : Known = c.at_once-put.new.other in let k = c.args.key.now in
    let v = c.args.value.now in let both =
    two_calls c.args.one.now.store p q c.meet.new.one c.meet.new.other k v put found
    c.requires.two
    (subst (λ (z : Known). IfOk put (λ old. Wrote (made_by z (Put k v)) z (had old) p))
    c.requires.one did.ok)
    (subst (λ (z : Known). IfErr put (λ fault. Refuses fault (Put k v) z p)) c.requires.one
    did.err)
    (subst (λ (z : Known). Answers (λ _ m. map_get m k) z found q) c.requires.other did.answers)
    c.meet.ensures.met in record { order = both.0; found = both.1 }
