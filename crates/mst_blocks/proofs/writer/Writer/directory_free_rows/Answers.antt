use Rattle.mst_blocks.proofs.Names.{◌≡◌, ℕ, List, vec_items, rules, sym, ap, subst, ◌∙◌, arc_value, Known, StoreId, Whole, LeavesAll, Counts, block_map, HasMade}
use Rattle.mst_shards.specs.Sharding.{Sharding}
use Rattle.mst_blocks.proofs.Blocked.{writes_still, map_still, made_no_block}
use Rattle.mst_blocks.proofs.RowsCounted.{left_by_listing, store_still, root_still}
use Rattle.mst_blocks.proofs.writer.Writer.directory_free_rows.Given.{Over}
use Rattle.mst_blocks.proofs.writer.Writer.directory_free_rows.Goals as goal

module _ (g : Over) (c : goal.After-replace_with g) where
  abbrev splits : List (List ℕ)
  splits = (arc_value c.self.inside.map).splits

  abbrev ps : List Known
  ps = vec_items c.self.inside.passes

  abbrev d : Known
  d = c.self.inside.directory

  abbrev e : Known
  e = c.replace_with.new.dest

  counts : Counts c.replace_with.result d e
  counts = search rules

  left : LeavesAll ps ps d e
  left = left_by_listing splits ps d e c.self.invariant.0.writer c.replace_with.result counts

pub replace_with-requires : goal.replace_with-requires
replace_with-requires g c = search rules

pub invariant_of-self : goal.invariant_of-self
invariant_of-self g c =
    let was = c.self.invariant in (
      record {
        own = was.0.own;
        directory = store_still (splits g c) (ps g c) (d g c) (e g c) was.0.writer
            c.replace_with.result (counts g c) ∙ was.0.directory;
        writer = writes_still (splits g c) (ps g c) (ps g c) (d g c) (e g c) was.0.writer
            (left g c);
      },
      root_still (splits g c) (ps g c) (d g c) (e g c) was.0.writer c.replace_with.result
          (counts g c) c.self.inside.root was.1,
    )

pub returns-clause-counts : goal.returns-clause-counts
returns-clause-counts g c =
    subst (λ (w : Whole). Counts c.replace_with.result w.directory (e g c)) c.self.view_is
    (counts g c)

pub returns-clause-shards : goal.returns-clause-shards
returns-clause-shards g c = ap (λ (w : Whole). w.sharding) c.self.view_is

pub returns-clause-map : goal.returns-clause-map
returns-clause-map g c =
    map_still (splits g c) (ps g c) (ps g c) (d g c) (e g c) c.self.invariant.0.writer (left g c)
    ∙ ap block_map c.self.view_is

pub returns-clause-left : goal.returns-clause-left
returns-clause-left g c =
    subst (λ (w : Whole). LeavesAll w.sharding.shards (ps g c) w.directory (e g c)) c.self.view_is
    (left g c)

pub returns-clause-same : goal.returns-clause-same
returns-clause-same g c blocks h =
    made_no_block blocks (splits g c) (ps g c) (ps g c) (d g c) (e g c) c.self.invariant.0.writer
    (left g c) (subst (HasMade blocks) (sym c.self.view_is) h)
