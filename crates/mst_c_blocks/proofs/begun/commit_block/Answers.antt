use Rattle.mst_c_blocks.proofs.Names.{refl, subst}
use Rattle.mst_parts.specs.Origins.{Begun}
use Rattle.mst_c_blocks.specs.Begun.{CommitsBlock}
use Rattle.mst_c_blocks.proofs.BlocksMade.{made_ok}
use Rattle.mst_c_blocks.proofs.begun.commit_block.Goals as goal

-- the block is made of its own parts
pub returns-in-Ok-made-clause-commits : goal.returns-in-Ok-made-clause-commits
returns-in-Ok-made-clause-commits c =
    let a = c.commit-writer in (
      a.result.0,
      refl,
      subst (λ (b : Begun). CommitsBlock b c.in-Ok-made.number a.result.0) c.begun.view_is
          (λ edits of. made_ok edits edits c.begun.inside.block.writer a.result.0 a.result.1
          c.in-Ok-made.number refl c.in-Ok-made.is (a.ensures.ok edits of) a.ensures.number
          (a.ensures.more edits of)),
    )
