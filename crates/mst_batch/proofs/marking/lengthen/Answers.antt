use Rattle.mst_batch.proofs.Names.{◌≡◌, Bool, false, rules}
use Rattle.std.proofs.lemmas.Iterator.Adapters.{items_from_extend, YieldsList-from_repeat_n}
use Rattle.mst_batch.proofs.marking.lengthen.Goals as goal

pub returns : goal.returns
returns g c =
    let h = items_from_extend c.extend.result c.extend.ensures.ran
    (YieldsList-from_repeat_n (λ (x y : Bool). y ≡ x) _ false c.repeat_n.ensures.count
    c.repeat_n.ensures.item (λ y e. e)) in
    search rules
