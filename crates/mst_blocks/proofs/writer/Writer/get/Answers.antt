use Rattle.mst_blocks.proofs.Names.{◌≡◌, ◌≢◌, ◌≤◌, ◌+◌, ℕ, List, length, set, vec_items, vec_len, rules, sym, ap, subst, ◌∙◌, arc_value, after, map_get, Known, Looks, StoreId, Whole, AreOf, place, sharding, Routes, last_made, LeavesAll, block_map, HasMade}
use Rattle.mst_blocks.proofs.Blocked.{writes_still, map_still, made_no_block}
use Rattle.mst_blocks.proofs.Reading.{writer_sharding, set_back, routed, left_by_look, still_own, found_last, if_found}
use Rattle.mst_blocks.proofs.writer.Writer.get.Given.{Over}
use Rattle.mst_blocks.proofs.writer.Writer.get.Goals as goal

module _ (g : Over) (c : goal.After-lay_at g) where
  abbrev splits : List (List ℕ)
  splits = (arc_value c.self.inside.map).splits

  abbrev ps : List Known
  ps = vec_items c.self.inside.passes

  are : c.splits.result.now ≡ splits
  are = search rules

  within : c.place_of-place.result ≤ length splits
  within = subst (λ (x : List (List ℕ)). c.place_of-place.result ≤ length x) are
      c.place_of-place.ensures.within

  at : c.place_of-place.result ≡ place splits c.args.key.now
  at = c.place_of-place.ensures.place ∙ ap (λ (x : List (List ℕ)). place x c.args.key.now) are

  now : vec_items c.lay_at.new.laid ≡ set ps c.place_of-place.result c.get_last-pass.result.0
  now = set_back splits ps (vec_items c.lift_at-pass.new.laid) (vec_items c.lay_at.new.laid)
      c.place_of-place.result (vec_len c.self.inside.passes) (vec_len c.lift_at-pass.new.laid)
      (vec_len c.lay_at.new.laid) c.lift_at-pass.result c.get_last-pass.result.0
      (writer_sharding splits ps c.self.inside.directory c.self.invariant.0.writer) within
      c.self.inside.passes.ok.0 c.lift_at-pass.ensures.left c.lift_at-pass.ensures.len
      c.lay_at.ensures.len c.lay_at.new.laid.ok.0 c.lay_at.ensures.back

  left : LeavesAll ps (vec_items c.lay_at.new.laid) c.self.inside.directory
      c.self.inside.directory
  left = left_by_look splits ps (vec_items c.lay_at.new.laid) c.self.inside.directory
      c.place_of-place.result c.lift_at-pass.result c.get_last-pass.result.0
      c.self.invariant.0.writer within c.lift_at-pass.ensures.pass now
      c.get_last-pass.ensures.looks

pub invariant_of-self : goal.invariant_of-self
invariant_of-self g c =
    let s = arc_value c.self.inside.map in
    let zs : List Known = vec_items c.lay_at.new.laid in
    let d : Known = c.self.inside.directory in
    let was = c.self.invariant in (
      record {
        own = still_own (splits g c) (ps g c) zs d c.place_of-place.result c.lift_at-pass.result
            c.get_last-pass.result.0 was.0.writer (within g c) c.lift_at-pass.ensures.pass (now g c)
            c.get_last-pass.ensures.looks s.stores was.0.own;
        directory = was.0.directory;
        writer = writes_still (splits g c) (ps g c) zs d d was.0.writer (left g c);
      },
      was.1,
    )

pub lift_at-pass-requires-clause-own : goal.lift_at-pass-requires-clause-own
lift_at-pass-requires-clause-own g c =
    let are : c.stores.result.now ≡ (arc_value c.self.inside.map).stores = search rules in
    subst (λ (l : List StoreId). AreOf l (vec_items c.self.inside.passes)) (sym are)
    c.self.invariant.0.own

pub returns-clause-found : goal.returns-clause-found
returns-clause-found g c =
    let k : List ℕ = c.args.key.now in
    let zs : List Known = vec_items c.lay_at.new.laid in
    let p : Known = c.lift_at-pass.result in
    let q : Known = c.get_last-pass.result.0 in
    if_found (λ found. (length q.seen ≡ last_made p) × (found ≡ map_get (after q.seen) k))
    (λ found. found ≡ map_get (block_map c.args.self.now) k) c.get_last-pass.result.1
    c.get_last-pass.ensures.found
    (λ found said. subst (λ (w : Whole). found ≡ map_get (block_map w) k) c.self.view_is
    (found_last (splits g c) (ps g c) zs c.self.inside.directory c.place_of-place.result p q
    c.self.invariant.0.writer (within g c) c.lift_at-pass.ensures.pass (now g c)
    c.get_last-pass.ensures.looks k found (at g c) said.0 said.1))

pub returns-clause-overtaken : goal.returns-clause-overtaken
returns-clause-overtaken g c err =
    let k : List ℕ = c.args.key.now in
    let zs : List Known = vec_items c.lay_at.new.laid in
    let step : Known → Known → Type 0 = λ x y. Looks x y × (length y.seen ≢ last_made x) in
    subst (λ (w : Whole). Routes k step w.sharding (sharding (splits g c) zs)) c.self.view_is
    (routed (splits g c) (ps g c) zs c.self.inside.directory c.place_of-place.result
    c.lift_at-pass.result c.get_last-pass.result.0 c.self.invariant.0.writer (within g c)
    c.lift_at-pass.ensures.pass (now g c) c.get_last-pass.ensures.looks k step (at g c)
    (c.get_last-pass.ensures.looks, c.get_last-pass.ensures.other err))

pub returns-clause-once : goal.returns-clause-once
returns-clause-once g c =
    let k : List ℕ = c.args.key.now in
    let zs : List Known = vec_items c.lay_at.new.laid in
    let step : Known → Known → Type 0 = λ x y. y.asked ≡ x.asked + 1 in
    subst (λ (w : Whole). Routes k step w.sharding (sharding (splits g c) zs)) c.self.view_is
    (routed (splits g c) (ps g c) zs c.self.inside.directory c.place_of-place.result
    c.lift_at-pass.result c.get_last-pass.result.0 c.self.invariant.0.writer (within g c)
    c.lift_at-pass.ensures.pass (now g c) c.get_last-pass.ensures.looks k step (at g c)
    c.get_last-pass.ensures.once)

pub returns-clause-map : goal.returns-clause-map
returns-clause-map g c =
    let zs : List Known = vec_items c.lay_at.new.laid in
    let d : Known = c.self.inside.directory in
    map_still (splits g c) (ps g c) zs d d c.self.invariant.0.writer (left g c)
    ∙ ap block_map c.self.view_is

pub returns-clause-left : goal.returns-clause-left
returns-clause-left g c =
    let zs : List Known = vec_items c.lay_at.new.laid in
    let d : Known = c.self.inside.directory in
    subst (λ (w : Whole). LeavesAll w.sharding.shards zs w.directory d) c.self.view_is (left g c)

pub returns-clause-same : goal.returns-clause-same
returns-clause-same g c blocks h =
    let zs : List Known = vec_items c.lay_at.new.laid in
    let d : Known = c.self.inside.directory in
    made_no_block blocks (splits g c) (ps g c) zs d d c.self.invariant.0.writer (left g c)
    (subst (HasMade blocks) (sym c.self.view_is) h)
