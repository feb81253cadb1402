use Rattle.mst_blocks.proofs.Names.{◌∙◌, ℕ, List, vec_items, ap, subst, Format, Known, IsSplits, AddsBatch, empty_listings}
use Rattle.mst_sharded_proof.specs.Shards.{shards as shards_at}
use Rattle.mst_blocks.proofs.Committing.{published_adds, root_published}
use Rattle.mst_blocks.proofs.writer.list_block_0.Goals as goal

pub returns-in-Ok-prepare_next : goal.returns-in-Ok-prepare_next
returns-in-Ok-prepare_next g c =
    let format : Format = c.args.map.now.directory.format in
    let splits : List (List ℕ) = c.args.map.now.splits in
    record {
      splits = subst IsSplits c.splits.ensures.splits c.splits.ensures.is;
      count = c.splits.ensures.count;
      made = subst (λ (p : Known). AddsBatch (empty_listings format (shards_at splits)) p
          c.publish.result) c.lift.ensures.same
          (published_adds (vec_items c.in-Ok.edits) (empty_listings format (shards_at splits))
          c.lift.result c.publish.result c.in-Ok-prepare_next.listing
          (c.in-Ok.ensures.listed
          ∙ ap (λ (f : Format). empty_listings f (shards_at c.splits.result.now))
          c.format.ensures.format
          ∙ ap (λ (s : List (List ℕ)). empty_listings format (shards_at s))
          c.splits.ensures.splits) c.in-Ok-prepare_next.ensures.ok c.publish.ensures.published);
      root = root_published c.in-Ok-prepare_next.listing c.publish.result c.root-digest.result
          c.root-digest.ensures.root c.publish.ensures.published;
      why = tt;
    }
