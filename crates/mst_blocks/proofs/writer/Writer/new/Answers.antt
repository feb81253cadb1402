use Rattle.mst_blocks.proofs.Names.{◌≡◌, ◌∙◌, ◌+◌, List, length, vec_items, rules, sym, ap, subst, arc_value, length-map, after, Known, StoreId, format_seen, whole, Shards, IsSplits, AddsBatch, IsWriterOf, empty_listings}
use Rattle.mst_node.specs.Text.{root as root_of}
use Rattle.mst_sharded_proof.specs.Shards.{shards as shards_at}
use Rattle.mst_shards.specs.Opening.{Dealt, IsLot}
use Rattle.mst_blocks.proofs.Begun.{begun_writer, begun_none}
use Rattle.mst_blocks.proofs.Kept.{begun_rooted}
use Rattle.mst_blocks.proofs.writer.Writer.new.Given.{Over}
use Rattle.mst_blocks.proofs.writer.Writer.new.Goals.{After-lay-directory}
use Rattle.mst_blocks.proofs.writer.Writer.new.Goals as goal

module _ (g : Over) (c : After-lay-directory g) where
  abbrev s : Shards
  s = arc_value c.in-Ok.share

  abbrev ps : List Known
  ps = vec_items c.passes.inside.passes

  abbrev d : Known
  d = c.passes.inside.directory

  abbrev e : Known
  e = c.lay-directory.result

  same_map : s ≡ arc_value c.args.map.now
  same_map = search rules

  lot_is : IsLot s (record { passes = ps; directory = d })
  lot_is = subst (λ (x : Shards). IsLot x (record { passes = ps; directory = d })) (sym same_map)
      (subst (λ (l : Dealt). IsLot (arc_value c.args.map.now) l)
      (sym (c.passes.view_is ∙ c.into_lot.ensures.same)) c.requires.lot)

  here : c.deref.result.now ≡ s
  here = search rules

  splits_are : IsSplits s.splits
  splits_are = subst (λ (x : Shards). IsSplits x.splits) here c.in_ok-listed.ensures.splits

  count : length ps ≡ length s.splits + 1
  count = sym (length-map ps (λ (p : Known). p.store))
      ∙ ap (λ (l : List StoreId). length l) lot_is.own
      ∙ subst (λ (x : Shards). length x.stores ≡ length x.splits + 1) here
      c.in_ok-listed.ensures.count

  adds : AddsBatch (empty_listings s.directory.format (shards_at s.splits)) d e
  adds =
      subst (λ (x : Known). AddsBatch (empty_listings s.directory.format (shards_at s.splits)) d x)
      (sym c.lay-directory.ensures.same)
      (subst (λ (x : Shards). AddsBatch (empty_listings x.directory.format (shards_at x.splits)) d
      c.in_ok-listed.listed) here c.in_ok-listed.ensures.made)

  writer_is : IsWriterOf s (whole s.splits ps e)
  writer_is = record {
    own = lot_is.own;
    directory = adds.wrote.same.0 ∙ lot_is.directory;
    writer = begun_writer s.directory.format s.splits ps d e splits_are count lot_is.new
        lot_is.directory_new adds;
  }

pub invariant_of-result : goal.invariant_of-result
invariant_of-result g c = (
  writer_is g c,
  begun_rooted (s g c).directory.format
      (empty_listings (s g c).directory.format (shards_at (s g c).splits)) (d g c) (e g c)
      c.in_ok-listed.root (lot_is g c).directory_new (adds g c)
      (c.in_ok-listed.ensures.root
      ∙ ap (λ (x : Known). root_of (format_seen x) (after x.seen))
      (sym c.lay-directory.ensures.same)),
)

pub returns-clause-none : goal.returns-clause-none
returns-clause-none g c =
    begun_none (s g c).directory.format (s g c).splits (ps g c) (d g c) (e g c) (splits_are g c)
    (count g c) (lot_is g c).new (lot_is g c).directory_new (adds g c)

pub returns-clause-own : goal.returns-clause-own
returns-clause-own g c =
    subst (λ (x : Shards). IsWriterOf x (whole (s g c).splits (ps g c) (e g c))) (same_map g c)
    (writer_is g c)

pub returns-clause-splits : goal.returns-clause-splits
returns-clause-splits g c = ap (λ (x : Shards). x.splits) (same_map g c)
