use Rattle.mst_blocks.proofs.Names.{revealed_stage}
use Rattle.mst_blocks.proofs.Revealing.{changes_on, changes_all}
use Rattle.mst_blocks.proofs.publishing.reveal_all.Goals as goal

pub loop-stage-preserved : goal.loop-stage-preserved
loop-stage-preserved g c =
    changes_on revealed_stage c.loop-stage.stages c.args.stages.now c.loop-stage.stage-index
    c.stage-item.result c.reveal_in.new.stage c.loop-stage.invariant c.loop-stage-test.true
    c.reveal_in.ensures.revealed

pub returns : goal.returns
returns g c = record {
  revealed = changes_all revealed_stage c.loop-stage.stages c.args.stages.now
      c.loop-stage.stage-index c.loop-stage.invariant c.loop-stage-test.false;
}
