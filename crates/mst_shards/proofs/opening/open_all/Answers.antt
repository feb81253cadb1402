use Rattle.mst_shards.proofs.Names.{◌∙◌, ◌∷◌, ◌++◌, [], List, length, vec_items, sym, ap, subst, arith, length-append, AllByRecursion, alls-append, StoreId, HasShape}
use Rattle.mst_shards.proofs.opening.open_all.Goals as goal

pub loop-preserved : goal.loop-preserved
loop-preserved g c =
    let was = c.loop.invariant in
    let added = c.in_ok-open_one.ensures.added in
    let s : StoreId = added.0 in
    let stores : List StoreId = vec_items c.loop.stores in
    let more = length-append stores (s ∷ []) in
    let long = ap (λ (l : List StoreId). length l) added.2 in
    let count = was.0 in (
      omega (arith, more, long, count),
      subst (AllByRecursion (HasShape c.args.shape)) (sym added.2)
          (alls-append (HasShape c.args.shape) stores (s ∷ []) was.1 (added.1, tt)),
      added.3 ∙ ap (λ (l : List StoreId). l ++ s ∷ []) was.2 ∙ sym added.2,
    )
