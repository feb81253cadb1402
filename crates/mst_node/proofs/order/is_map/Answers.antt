use Rattle.mst_node.proofs.Names.{◌≡◌, ◌∙◌, ◌+◌, ◌∷◌, ◌++◌, [], ℕ, take, length, sym, ap, subst, arith, rules, take-length, take_more, AllByRecursion, IsKey, IsValue, Pair, alls-append}
use Rattle.mst_node.proofs.order.is_map.Goals as goal

abbrev Fits : Pair → Type 0
Fits p = IsKey p.0 × IsValue p.1

pub loop-pair-preserved : goal.loop-pair-preserved
loop-pair-preserved c =
    let m = c.args.pairs.now in
    let i = c.loop-pair.pair-index in
    let x = c.pair-item.result in
    let more : take (i + 1) m ≡ take i m ++ x ∷ [] = take_more m i x c.loop-pair-test.true
    ∙ ap (λ (y : Pair). take i m ++ y ∷ []) (sym c.pair-item.is) in
    subst (AllByRecursion Fits) (sym more)
    (alls-append Fits (take i m) (x ∷ []) c.loop-pair.invariant
    ((c.key_limits.ensures.limits, c.value_limits.ensures.limits), tt))

pub returns : goal.returns
returns c =
    let m = c.args.pairs.now in
    let end : c.loop-pair.pair-index ≡ length m = omega arith in
    let all : take c.loop-pair.pair-index m ≡ m = ap (λ (i : ℕ). take i m) end ∙ take-length m in
    record {
      map = (
        λ rising. record {
          ascending = c.ascending.ensures.rising.0 rising;
          limits =
              subst (AllByRecursion Fits) all c.loop-pair.invariant;
        },
        λ map. c.ascending.ensures.rising.1 map.ascending,
      );
    }

pub loop-pair-init : goal.loop-pair-init
loop-pair-init c = search rules

pub offset_bounds-pairs-pair-index : goal.offset_bounds-pairs-pair-index
offset_bounds-pairs-pair-index c = search rules
