use Rattle.mst_blocks.proofs.Names.{map, arith, vec_items, length-map, MakesNothing, canceled_stage, all_step_length}
use Rattle.mst_blocks.specs.Staging.{Concludes}
use Rattle.mst_blocks.proofs.blocks.commit.Given.{Over}
use Rattle.mst_blocks.proofs.blocks.commit.Goals.{After-conclude}
use Rattle.mst_blocks.proofs.blocks.commit.Goals as goal

pub conclude-requires-clause-shards : goal.conclude-requires-clause-shards
conclude-requires-clause-shards g c =
    let ts = c.prepare_all-stages.result.0.items in
    let long = all_step_length MakesNothing c.args.passes.items (map canceled_stage ts)
    c.prepare_all-stages.ensures.left in
    let mapped = length-map ts canceled_stage in
    let ok = c.args.passes.ok.0 in
    let now = c.prepare_all-stages.result.0.ok.0 in
    let want = c.requires.shards in
    omega (arith, long, mapped, ok, now, want)

module _ (g : Over) (c : After-conclude g) where
  concluded : Concludes c.args.splits.now (vec_items c.args.parts) (vec_items c.args.passes)
      (vec_items c.conclude.result.0) c.args.directory c.conclude.result.1 c.conclude.result.2
  concluded = c.conclude.ensures.concludes (vec_items c.args.parts) (vec_items c.args.passes)
      (record {
        all = c.prepare_all-stages.ensures.all;
        refused = c.prepare_all-stages.ensures.refused;
        left = c.prepare_all-stages.ensures.left;
      })

pub returns-clause-ok : goal.returns-clause-ok
returns-clause-ok g c = (concluded g c).ok

pub returns-clause-err : goal.returns-clause-err
returns-clause-err g c = (concluded g c).err

pub returns-clause-why : goal.returns-clause-why
returns-clause-why g c = (concluded g c).why
