use Rattle.mst_blocks.proofs.Names.{◌≡◌, ◌<◌, ◌≤◌, ℕ, List, length, set, vec_items, vec_len, rules, sym, ap, subst, ◌∙◌, arith, arc_value, Known, StoreId, Whole, AreOf, sharding, LeavesAll, CountsAt, block_map, HasMade}
use Rattle.mst_blocks.proofs.Blocked.{writer_count, writes_still, map_still, made_no_block}
use Rattle.mst_blocks.proofs.Reading.{writer_sharding, set_back}
use Rattle.mst_blocks.proofs.RowsCounted.{counted_at, left_by_count, own_still}
use Rattle.mst_blocks.proofs.writer.Writer.free_rows.Given.{Over}
use Rattle.mst_blocks.proofs.writer.Writer.free_rows.Goals as goal

module _ (g : Over) (c : goal.After-lay_at g) where
  abbrev splits : List (List ℕ)
  splits = (arc_value c.self.inside.map).splits

  abbrev ps : List Known
  ps = vec_items c.self.inside.passes

  abbrev zs : List Known
  zs = vec_items c.lay_at.new.laid

  low : c.args.shard < length ps
  low = subst (λ (w : Whole). c.args.shard < length w.sharding.shards) (sym c.self.view_is)
      c.requires.there

  within : c.args.shard ≤ length splits
  within =
      let count = writer_count splits ps c.self.inside.directory c.self.invariant.0.writer in
      omega (arith, low, count)

  now : zs ≡ set ps c.args.shard c.count_free-pass.result.0
  now = set_back splits ps (vec_items c.lift_at-pass.new.laid) zs c.args.shard
      (vec_len c.self.inside.passes) (vec_len c.lift_at-pass.new.laid) (vec_len c.lay_at.new.laid)
      c.lift_at-pass.result c.count_free-pass.result.0
      (writer_sharding splits ps c.self.inside.directory c.self.invariant.0.writer) within
      c.self.inside.passes.ok.0 c.lift_at-pass.ensures.left c.lift_at-pass.ensures.len
      c.lay_at.ensures.len c.lay_at.new.laid.ok.0 c.lay_at.ensures.back

  left : LeavesAll ps zs c.self.inside.directory c.self.inside.directory
  left = left_by_count splits ps zs c.self.inside.directory c.args.shard c.lift_at-pass.result
      c.count_free-pass.result.0 low c.lift_at-pass.ensures.pass now c.count_free-pass.result.1
      c.count_free-pass.ensures.counts

pub invariant_of-self : goal.invariant_of-self
invariant_of-self g c =
    let s = arc_value c.self.inside.map in
    let d : Known = c.self.inside.directory in
    let was = c.self.invariant in (
      record {
        own = own_still (splits g c) (ps g c) (zs g c) d c.args.shard c.lift_at-pass.result
            c.count_free-pass.result.0 (low g c) c.lift_at-pass.ensures.pass (now g c)
            c.count_free-pass.result.1 c.count_free-pass.ensures.counts s.stores was.0.own;
        directory = was.0.directory;
        writer = writes_still (splits g c) (ps g c) (zs g c) d d was.0.writer (left g c);
      },
      was.1,
    )

pub lift_at-pass-requires-clause-there : goal.lift_at-pass-requires-clause-there
lift_at-pass-requires-clause-there g c =
    let low : c.args.shard < length (vec_items c.self.inside.passes) =
    subst (λ (w : Whole). c.args.shard < length w.sharding.shards) (sym c.self.view_is)
    c.requires.there in
    omega (arith, low, c.self.inside.passes.ok.0)

pub lift_at-pass-requires-clause-own : goal.lift_at-pass-requires-clause-own
lift_at-pass-requires-clause-own g c =
    let are : c.stores.result.now ≡ (arc_value c.self.inside.map).stores = search rules in
    subst (λ (l : List StoreId). AreOf l (vec_items c.self.inside.passes)) (sym are)
    c.self.invariant.0.own

pub returns-clause-counts : goal.returns-clause-counts
returns-clause-counts g c =
    subst (λ (w : Whole). CountsAt c.args.shard c.count_free-pass.result.1 w.sharding
    (sharding (splits g c) (zs g c))) c.self.view_is
    (counted_at (splits g c) (ps g c) (zs g c) c.self.inside.directory c.args.shard
    c.lift_at-pass.result c.count_free-pass.result.0 (low g c) c.lift_at-pass.ensures.pass (now g c)
    c.count_free-pass.result.1 c.count_free-pass.ensures.counts)

pub returns-clause-map : goal.returns-clause-map
returns-clause-map g c =
    let d : Known = c.self.inside.directory in
    map_still (splits g c) (ps g c) (zs g c) d d c.self.invariant.0.writer (left g c)
    ∙ ap block_map c.self.view_is

pub returns-clause-left : goal.returns-clause-left
returns-clause-left g c =
    let d : Known = c.self.inside.directory in
    subst (λ (w : Whole). LeavesAll w.sharding.shards (zs g c) w.directory d) c.self.view_is
    (left g c)

pub returns-clause-same : goal.returns-clause-same
returns-clause-same g c blocks h =
    let d : Known = c.self.inside.directory in
    made_no_block blocks (splits g c) (ps g c) (zs g c) d d c.self.invariant.0.writer (left g c)
    (subst (HasMade blocks) (sym c.self.view_is) h)
