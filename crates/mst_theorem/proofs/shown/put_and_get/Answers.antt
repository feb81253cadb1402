use Rattle.mst_theorem.proofs.Names.{IfOk, IfErr, subst, Put, map_get, had, Known, Answers, Wrote, Refuses, made_by}
use Rattle.mst_theorem.proofs.TwoCalls.{two_calls}
use Rattle.mst_theorem.proofs.shown.put_and_get.Goals as goal

pub returns : goal.returns
returns g c = let put = c.try_put-put.result in let p : Known = c.try_put-put.new.self in let q :
    Known = c.get-found.new.self in let k = c.args.key.now in let v = c.args.value.now in let both =
    two_calls c.args.one.now.store p q c.meet.new.one c.meet.new.other k v put
    c.get-found.result c.requires.two
    (subst (λ (z : Known). IfOk put (λ old. Wrote (made_by z (Put k v)) z (had old) p))
    c.requires.one c.try_put-put.ensures.ok)
    (subst (λ (z : Known). IfErr put (λ fault. Refuses fault (Put k v) z p)) c.requires.one
    c.try_put-put.ensures.err)
    (subst (λ (z : Known). Answers (λ _ m. map_get m k) z c.get-found.result q)
    c.requires.other c.get-found.ensures.answers)
    c.meet.ensures.met in record { order = both.0; found = both.1 }
