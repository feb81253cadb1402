use Rattle.mst_c_blocks.proofs.Names.{rules, ◌<◌, length}
use Rattle.mst_c_blocks.proofs.SplitRising.{decides_on, packs_no_more}
use Rattle.mst_c_blocks.proofs.splits.pack_splits.Goals as goal

-- what stands next is no key above those before
pub returns-in_default-split_above-clause-no : goal.returns-in_default-split_above-clause-no
returns-in_default-split_above-clause-no c = λ no.
    let some : 0 < length c.loop.rest.now = search rules in
    packs_no_more c.args.packed.now c.loop.low c.loop.rest.now c.loop.counter c.loop.invariant
    some c.in_default-split_above.ensures.none

-- one key more
pub loop-preserved : goal.loop-preserved
loop-preserved c =
    decides_on c.args.packed.now c.loop.low c.loop.rest.now c.in-Some.key c.in-Some.behind.now
    c.loop.counter (search rules) c.loop.invariant c.in-Some.ensures.some c.in-Some.ensures.above
    c.in-Some.ensures.key
