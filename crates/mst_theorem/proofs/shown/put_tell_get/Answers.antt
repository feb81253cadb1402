use Rattle.mst_theorem.proofs.Names.{IfOk, subst, Put, had, Known, Looks, Wrote, made_by}
use Rattle.mst_theorem.proofs.ToldCalls.{told_read}
use Rattle.mst_theorem.proofs.shown.put_tell_get.Goals as goal

pub returns : goal.returns
returns g c = let put = c.try_put-written.result in let p : Known = c.try_put-written.new.self in
    let q : Known = c.has_seen-seen.new.self in let r : Known = c.get-found.new.self in
    let k = c.args.key.now in let v = c.args.value.now in
    record {
      read = told_read c.args.one.now.store p q r c.meet.new.one c.meet.new.other k v put
          c.made-made.result c.number_to_tell-version.result c.has_seen-seen.result
          c.get-found.result c.requires.two
          (subst (λ (z : Known). IfOk put (λ old. Wrote (made_by z (Put k v)) z (had old) p))
          c.requires.one c.try_put-written.ensures.ok)
          c.made-made.ensures.made c.number_to_tell-version.ensures.some
          (subst (λ (z : Known). Looks z q) c.requires.other c.has_seen-seen.ensures.looks)
          c.has_seen-seen.ensures.exact c.get-found.ensures.answers c.meet.ensures.met;
    }
