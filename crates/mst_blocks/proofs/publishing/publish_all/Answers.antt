use Rattle.mst_blocks.proofs.Names.{◌∙◌}
use Rattle.mst_blocks.proofs.Revealing.{all_shown, all_published}
use Rattle.mst_blocks.proofs.publishing.publish_all.Goals as goal

pub close_all-passes-requires : goal.close_all-passes-requires
close_all-passes-requires g c = record {
  shown = all_shown c.args.stages.len c.args.stages.items c.as_mut_slice.result.now
      c.reveal_all.new.stages c.args.stages.ok.0 c.as_mut_slice.ensures.value
      c.reveal_all.ensures.revealed;
  empty = c.requires.empty;
  fits = c.requires.fits;
}

pub returns-clause-shards : goal.returns-clause-shards
returns-clause-shards g c =
    c.close_all-passes.ensures.same
    ∙ all_published c.args.stages.len c.args.stages.items c.as_mut_slice.result.now
    c.reveal_all.new.stages c.args.stages.ok.0 c.as_mut_slice.ensures.value
    c.reveal_all.ensures.revealed
