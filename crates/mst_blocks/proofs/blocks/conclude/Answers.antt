use Rattle.mst_blocks.proofs.Names.{length, refl, ap, ◌∙◌, arith, IsNone, listed_stages}
use Rattle.std.specs.Prelude.{is_some}
use Rattle.mst_sharded_proof.specs.Shards.{shards as shards_at}
use Rattle.mst_blocks.proofs.Committing.{same_nothing, part_nothing, block_made, block_left, listing_refused, root_published, stage_stopped}
use Rattle.mst_blocks.proofs.blocks.conclude.Goals as goal

-- a shard was refused its part
pub returns-in-Some-clause-concludes : goal.returns-in-Some-clause-concludes
returns-in-Some-clause-concludes g c parts ps staged = record {
  ok = tt;
  err = block_left ps c.cancel_all-passes.result.items c.args.stages.items c.args.directory
      c.args.directory staged.left c.cancel_all-passes.ensures.canceled
      (same_nothing c.args.directory c.args.directory refl);
  why = stage_stopped c.args.stopped c.in-Some.place c.in-Some.fault parts ps
      c.cancel_all-passes.result.items c.args.stages.items staged c.in-Some.is
      c.cancel_all-passes.ensures.canceled;
}

pub list_stages-requires : goal.list_stages-requires
list_stages-requires g c =
    let ok = c.args.stages.ok.0 in
    let want = c.requires.shards in
    let same = ap (λ l. length l) c.as_slice.ensures.value in
    record { count = omega (arith, ok, want, same) }

-- a growth of the list of the directory's edits was refused
pub returns-in-Err-clause-concludes : goal.returns-in-Err-clause-concludes
returns-in-Err-clause-concludes g c parts ps staged = record {
  ok = tt;
  err = block_left ps c.cancel_all-passes-in-Err.result.items c.args.stages.items
      c.args.directory c.args.directory staged.left c.cancel_all-passes-in-Err.ensures.canceled
      (same_nothing c.args.directory c.args.directory refl);
  why = tt;
}

-- the block is made
pub returns-in-Ok-prepare_next-clause-concludes :
    goal.returns-in-Ok-prepare_next-clause-concludes
returns-in-Ok-prepare_next-clause-concludes g c parts ps staged =
    let none : IsNone c.args.stopped = ap is_some c.in_default.is in
    record {
      ok = block_made c.args.splits.now parts ps c.publish_all-passes.result.0.items
          c.args.stages.items c.args.directory c.publish_all-passes.result.1
          c.in-Ok-prepare_next.listing
          c.in-Ok.edits.items (staged.all none) c.publish_all-passes.ensures.shards
          (c.in-Ok.ensures.listed ∙ ap (λ ts. listed_stages (shards_at c.args.splits.now) ts)
          c.as_slice.ensures.value) c.in-Ok-prepare_next.ensures.ok
          c.publish_all-passes.ensures.directory;
      err = tt;
      why = tt;
    }

pub returns-in-Ok-prepare_next-clause-root : goal.returns-in-Ok-prepare_next-clause-root
returns-in-Ok-prepare_next-clause-root g c =
    root_published c.in-Ok-prepare_next.listing c.publish_all-passes.result.1 c.root-digest.result
    c.root-digest.ensures.root c.publish_all-passes.ensures.directory

-- the directory was refused its edits
pub returns-in-Err-prepare_next-clause-concludes : goal.returns-in-Err-prepare_next-clause-concludes
returns-in-Err-prepare_next-clause-concludes g c parts ps staged =
    let none : IsNone c.args.stopped = ap is_some c.in_default.is in
    record {
      ok = tt;
      err = block_left ps c.cancel_all-passes-in-Err-prepare_next.result.items
          c.args.stages.items c.args.directory c.in-Err-prepare_next.directory staged.left
          c.cancel_all-passes-in-Err-prepare_next.ensures.canceled
          (part_nothing c.in-Err-prepare_next.fault c.in-Ok.edits.items c.args.directory
          c.in-Err-prepare_next.directory c.in-Err-prepare_next.ensures.err);
      why = listing_refused c.in-Err-prepare_next.fault c.args.splits.now parts ps
          c.args.stages.items c.args.directory c.in-Err-prepare_next.directory
          c.in-Ok.edits.items (staged.all none)
          (c.in-Ok.ensures.listed ∙ ap (λ ts. listed_stages (shards_at c.args.splits.now) ts)
          c.as_slice.ensures.value) c.in-Err-prepare_next.ensures.err;
    }
