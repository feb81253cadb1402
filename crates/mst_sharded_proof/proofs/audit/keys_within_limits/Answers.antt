use Rattle.mst_sharded_proof.proofs.Names.{◌≡◌, ◌∙◌, ◌+◌, ◌∷◌, ◌++◌, [], ℕ, take, length, sym, ap, subst, arith, AllByRecursion, IsKey, Pair}
use Rattle.std.proofs.Math.Seq.{take-length}
use Rattle.std.proofs.lemmas.List.{take_more}
use Rattle.mst_key.proofs.Alls.{alls-append}
use Rattle.mst_sharded_proof.proofs.audit.keys_within_limits.Goals as goal

abbrev Fits : Pair → Type 0
Fits p = IsKey p.0

pub loop-pair-preserved : goal.loop-pair-preserved
loop-pair-preserved c =
    let m = c.args.pairs.now in
    let i = c.loop-pair.pair-index in
    let x = c.pair-item.result in
    let more : take (i + 1) m ≡ take i m ++ x ∷ [] = take_more m i x c.loop-pair-test.true
    ∙ ap (λ (y : Pair). take i m ++ y ∷ []) (sym c.pair-item.is) in
    subst (AllByRecursion Fits) (sym more)
    (alls-append Fits (take i m) (x ∷ []) c.loop-pair.invariant (c.key_limits.ensures.limits, tt))

pub returns : goal.returns
returns c =
    let m = c.args.pairs.now in
    let end : c.loop-pair.pair-index ≡ length m = omega arith in
    let all : take c.loop-pair.pair-index m ≡ m = ap (λ (i : ℕ). take i m) end ∙ take-length m in
    record { keys = subst (AllByRecursion Fits) all c.loop-pair.invariant }
