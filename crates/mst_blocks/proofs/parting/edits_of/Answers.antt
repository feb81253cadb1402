use Rattle.mst_blocks.proofs.Names.{◌∙◌, ◌++◌, ◌∷◌, ◌<◌, [], ℕ, List, length, get_or, ap, sym, refl, arith, ◌==◌, Edit}
use Rattle.std.proofs.Common.{cond}
use Rattle.mst_shards.proofs.Parted.{picked_more}
use Rattle.mst_blocks.proofs.parting.edits_of.Goals as goal

pub loop-i-preserved : goal.loop-i-preserved
loop-i-preserved g c =
    let places : List ℕ = c.args.places.now in
    let edits : List Edit = c.args.edits.now in
    let i : ℕ = c.loop-i.i in
    let e : Edit = c.index-edits-i.result in
    let count = c.requires.count in
    let high : c.loop-i.i < length c.args.edits.now = c.loop-i-test.true in
    let low : c.loop-i.i < length c.args.places.now = omega (arith, high, count) in
    c.in_ok-take_one.ensures.taken
    ∙ ap (λ (l : List Edit). l ++ cond (get_or places i 0 == c.args.shard) (e ∷ []) [])
    c.loop-i.invariant
    ∙ sym (picked_more places edits i c.args.shard (get_or places i 0) e low high refl
    c.index-edits-i.is)
