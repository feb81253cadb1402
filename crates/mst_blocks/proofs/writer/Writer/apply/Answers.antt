use Rattle.mst_blocks.proofs.Names.{vec_items, rules, subst, arc_value, Whole, whole, RefusesBlock, BlockFault}
use Rattle.mst_blocks.specs.declared.faults.BlockFault.TheVariants as variant
use Rattle.mst_blocks.proofs.Blocked.{refused_before, from_ok, from_err_of}
use Rattle.mst_blocks.proofs.Kept.{made_laid, left_laid, last_rooted, writer_of}
use Rattle.mst_blocks.proofs.writer.Writer.apply.Goals as goal

pub returns-in-Err-clause-err : goal.returns-in-Err-clause-err
returns-in-Err-clause-err g c =
    subst (λ (x : Whole). RefusesBlock (variant.Memory c.in-Err.refused) c.args.edits.now x x)
    c.self.view_is
    (refused_before (arc_value c.self.inside.map).splits (vec_items c.self.inside.passes)
    c.self.inside.directory c.self.invariant.0.writer c.in-Err.refused c.args.edits.now)

pub returns-in-Ok-made-clause-more : goal.returns-in-Ok-made-clause-more
returns-in-Ok-made-clause-more g c blocks h =
    made_laid c.args.edits.now (arc_value c.self.inside.map).splits c.splits.result.now
    (vec_items c.self.inside.passes) (vec_items c.lift_all-lifted.result.0)
    (vec_items c.make_block-done.result.0) (vec_items c.lay_all-passes.result)
    c.self.inside.directory c.lift-listing.result c.make_block-done.result.1
    c.lay-directory.result c.args.self (search rules) c.lift_all-lifted.ensures.same
    c.lift-listing.ensures.same c.lay_all-passes.ensures.same c.lay-directory.ensures.same
    c.self.view_is c.self.invariant.0.writer blocks c.make_block-done.ensures.writer
    (from_ok c.make_block-done.result.2 c.in-Ok-made._root c.in-Ok-made.is
    c.make_block-done.ensures.ok) h

pub returns-in-Err-made-clause-same : goal.returns-in-Err-made-clause-same
returns-in-Err-made-clause-same g c blocks h =
    left_laid c.args.edits.now (arc_value c.self.inside.map).splits c.splits.result.now
    (vec_items c.self.inside.passes) (vec_items c.lift_all-lifted.result.0)
    (vec_items c.make_block-done.result.0) (vec_items c.lay_all-passes.result)
    c.self.inside.directory c.lift-listing.result c.make_block-done.result.1
    c.lay-directory.result c.args.self (search rules) c.lift_all-lifted.ensures.same
    c.lift-listing.ensures.same c.lay_all-passes.ensures.same c.lay-directory.ensures.same
    c.self.view_is c.self.invariant.0.writer c.in-Err-made.fault blocks
    (from_err_of (λ (fault : BlockFault). RefusesBlock fault c.args.edits.now
    (whole c.splits.result.now (vec_items c.lift_all-lifted.result.0) c.lift-listing.result)
    (whole c.splits.result.now (vec_items c.make_block-done.result.0) c.make_block-done.result.1))
    c.make_block-done.result.2 c.in-Err-made.fault c.in-Err-made.is c.make_block-done.ensures.err) h

pub invariant_of-writer : goal.invariant_of-writer
invariant_of-writer g c = (
  writer_of (arc_value c.self.inside.map) c.splits.result.now (vec_items c.self.inside.passes)
      (vec_items c.lift_all-lifted.result.0) (vec_items c.make_block-done.result.0)
      (vec_items c.lay_all-passes.result) c.self.inside.directory c.lift-listing.result
      c.make_block-done.result.1 c.lay-directory.result (search rules)
      c.lift_all-lifted.ensures.same c.lift-listing.ensures.same c.lay_all-passes.ensures.same
      c.lay-directory.ensures.same c.self.invariant.0 c.make_block-done.ensures.writer
      c.make_block-done.ensures.own,
  last_rooted c.args.edits.now (arc_value c.self.inside.map).splits c.splits.result.now
      (vec_items c.self.inside.passes) (vec_items c.lift_all-lifted.result.0)
      (vec_items c.make_block-done.result.0) (vec_items c.lay_all-passes.result)
      c.self.inside.directory c.lift-listing.result c.make_block-done.result.1
      c.lay-directory.result c.args.self (search rules) c.lift_all-lifted.ensures.same
      c.lift-listing.ensures.same c.lay_all-passes.ensures.same c.lay-directory.ensures.same
      c.self.view_is c.self.invariant.0.writer c.make_block-done.result.2
      c.last_root-root.result c.self.inside.root c.last_root-root.ensures.made
      c.last_root-root.ensures.same c.make_block-done.ensures.ok c.make_block-done.ensures.root
      c.make_block-done.ensures.err c.self.invariant.1,
)
