use Rattle.mst_parts.proofs.Names.{◌≡◌, ◌∙◌, ℕ, List, [], ◌∷◌, ◌++◌, length, map, vec_items, rules, refl, sym, ap, subst, arith, arc_value, length-map, MakesNothing, Origin, Begun, passes_of, edits_of, canceled_stage, AddsBlock, RefusesBlock, HasMade, BlockFault, whole, from_ok, from_err_of, writer_count, all_step_length}
use Rattle.mst_blocks.specs.Blocks.{version_made}
use Rattle.mst_parts.proofs.PartsCommitted.{from_err, parts_added, parts_refused, parts_more, parts_same, parts_writer, parts_last_root, parts_count}
use Rattle.mst_parts.proofs.block.Block.commit.Goals as goal

-- a growth of the lists was refused
pub returns-in-Err-clause-err : goal.returns-in-Err-clause-err
returns-in-Err-clause-err g c edits of =
    let left = c.cancel.ensures.left in
    record {
      splits = c.cancel.ensures.splits;
      nothing = left;
      why = tt;
      map = c.cancel.ensures.map;
      number = ap version_made left.directory.made;
    }

pub conclude-done-requires-clause-shards : goal.conclude-done-requires-clause-shards
conclude-done-requires-clause-shards g c =
    let ts = c.finish_all-staged.result.0.items in
    let given : List Origin = vec_items c.args.parts in
    let os : List Origin = vec_items c.self.inside.parts.value in
    let same : c.splits.result.now ≡ (arc_value c.self.inside.held.map).splits = search rules in
    let as_many : length given ≡ length os =
    ap (λ (l : List Origin). length l)
    (c.requires.own ∙ sym (ap (λ (b : Begun). b.parts) c.self.view_is)) in
    let long = all_step_length MakesNothing (passes_of given) (map canceled_stage ts)
    c.finish_all-staged.ensures.staged.left in
    let mapped = length-map ts canceled_stage in
    let passes = length-map given (λ (o : Origin). o.pass) in
    let all = length-map os (λ (o : Origin). o.pass) in
    let count = writer_count (arc_value c.self.inside.held.map).splits (passes_of os)
    c.self.inside.held.directory c.self.invariant.0.own.writer in
    let wide = ap (λ (l : List (List ℕ)). length l) same in
    omega (
      arith,
      as_many,
      long,
      mapped,
      passes,
      all,
      count,
      wide,
      c.finish_all-staged.result.0.ok.0,
    )

pub conclude-done-requires-clause-fits : goal.conclude-done-requires-clause-fits
conclude-done-requires-clause-fits g c =
    let ts = c.finish_all-staged.result.0.items in
    let given : List Origin = vec_items c.args.parts in
    let long = all_step_length MakesNothing (passes_of given) (map canceled_stage ts)
    c.finish_all-staged.ensures.staged.left in
    let mapped = length-map ts canceled_stage in
    let passes = length-map given (λ (o : Origin). o.pass) in
    let room = c.in-Ok.ensures.passes_room in
    let len = c.len.ensures in
    omega (
      arith,
      long,
      mapped,
      passes,
      room,
      len,
      c.args.parts.ok.0,
      c.finish_all-staged.result.0.ok.0,
    )

pub lay_all-passes-requires-clause-fits : goal.lay_all-passes-requires-clause-fits
lay_all-passes-requires-clause-fits g c =
    let count = parts_count (arc_value c.self.inside.held.map) c.splits.result.now
    (vec_items c.self.inside.parts.value) (vec_items c.args.parts)
    (vec_items c.conclude-done.result.0) (vec_items c.conclude-done.result.0)
    c.self.inside.held.directory c.lift-listing.result c.conclude-done.result.1
    c.conclude-done.result.1 c.args.self c.conclude-done.result.2 (search rules)
    (c.requires.own ∙ sym (ap (λ (b : Begun). b.parts) c.self.view_is))
    c.lift-listing.ensures.same refl refl
    c.self.view_is c.self.invariant.0
    (c.conclude-done.ensures.concludes (edits_of (vec_items c.args.parts))
    (passes_of (vec_items c.args.parts)) c.finish_all-staged.ensures.staged) in
    let room = c.self.invariant.3 in
    omega (arith, count, room, c.conclude-done.result.0.ok.0)

-- ---- the writer

pub from_held-writer-requires-clause-own : goal.from_held-writer-requires-clause-own
from_held-writer-requires-clause-own g c =
    parts_writer (arc_value c.self.inside.held.map) c.splits.result.now
    (vec_items c.self.inside.parts.value) (vec_items c.args.parts)
    (vec_items c.conclude-done.result.0) (vec_items c.lay_all-passes.result)
    c.self.inside.held.directory c.lift-listing.result c.conclude-done.result.1
    c.lay-directory.result c.args.self c.conclude-done.result.2 (search rules)
    (c.requires.own ∙ sym (ap (λ (b : Begun). b.parts) c.self.view_is))
    c.lift-listing.ensures.same c.lay_all-passes.ensures.same c.lay-directory.ensures.same
    c.self.view_is c.self.invariant.0
    (c.conclude-done.ensures.concludes (edits_of (vec_items c.args.parts))
    (passes_of (vec_items c.args.parts)) c.finish_all-staged.ensures.staged)

pub from_held-writer-requires-clause-root : goal.from_held-writer-requires-clause-root
from_held-writer-requires-clause-root g c =
    parts_last_root (arc_value c.self.inside.held.map) c.splits.result.now
    (vec_items c.self.inside.parts.value) (vec_items c.args.parts)
    (vec_items c.conclude-done.result.0) (vec_items c.lay_all-passes.result)
    c.self.inside.held.directory c.lift-listing.result c.conclude-done.result.1
    c.lay-directory.result c.args.self c.conclude-done.result.2 (search rules)
    (c.requires.own ∙ sym (ap (λ (b : Begun). b.parts) c.self.view_is))
    c.lift-listing.ensures.same c.lay_all-passes.ensures.same c.lay-directory.ensures.same
    c.self.view_is c.self.invariant.0
    (c.conclude-done.ensures.concludes (edits_of (vec_items c.args.parts))
    (passes_of (vec_items c.args.parts)) c.finish_all-staged.ensures.staged)
    c.last_root-root.result c.self.inside.held.root c.last_root-root.ensures.made
    c.last_root-root.ensures.same c.conclude-done.ensures.root c.self.invariant.1

-- ---- the block is made

pub returns-in-Ok-made-clause-ok : goal.returns-in-Ok-made-clause-ok
returns-in-Ok-made-clause-ok g c edits of =
    subst (AddsBlock edits c.args.self.writer) (sym c.from_held-writer.ensures.same)
    (from_ok c.conclude-done.result.2 c.in-Ok-made._root c.in-Ok-made.is
    (parts_added (arc_value c.self.inside.held.map) c.splits.result.now
    (vec_items c.self.inside.parts.value) (vec_items c.args.parts)
    (vec_items c.conclude-done.result.0) (vec_items c.lay_all-passes.result)
    c.self.inside.held.directory c.lift-listing.result c.conclude-done.result.1
    c.lay-directory.result c.args.self c.conclude-done.result.2 (search rules)
    (c.requires.own ∙ sym (ap (λ (b : Begun). b.parts) c.self.view_is))
    c.lift-listing.ensures.same c.lay_all-passes.ensures.same c.lay-directory.ensures.same
    c.self.view_is c.self.invariant.0
    (c.conclude-done.ensures.concludes (edits_of (vec_items c.args.parts))
    (passes_of (vec_items c.args.parts)) c.finish_all-staged.ensures.staged)
    edits of))

pub returns-in-Ok-made-clause-more : goal.returns-in-Ok-made-clause-more
returns-in-Ok-made-clause-more g c edits of blocks h =
    subst (HasMade (blocks ++ edits ∷ [])) (sym c.from_held-writer.ensures.same)
    (from_ok c.conclude-done.result.2 c.in-Ok-made._root c.in-Ok-made.is
    (parts_more (arc_value c.self.inside.held.map) c.splits.result.now
    (vec_items c.self.inside.parts.value) (vec_items c.args.parts)
    (vec_items c.conclude-done.result.0) (vec_items c.lay_all-passes.result)
    c.self.inside.held.directory c.lift-listing.result c.conclude-done.result.1
    c.lay-directory.result c.args.self c.conclude-done.result.2 (search rules)
    (c.requires.own ∙ sym (ap (λ (b : Begun). b.parts) c.self.view_is))
    c.lift-listing.ensures.same c.lay_all-passes.ensures.same c.lay-directory.ensures.same
    c.self.view_is c.self.invariant.0
    (c.conclude-done.ensures.concludes (edits_of (vec_items c.args.parts))
    (passes_of (vec_items c.args.parts)) c.finish_all-staged.ensures.staged)
    edits of) blocks h)

-- ---- it is refused

pub returns-clause-err : goal.returns-clause-err
returns-clause-err g c edits of =
    subst (RefusesBlock c.in-Err-made.fault edits c.args.self.writer)
    (sym c.from_held-writer.ensures.same)
    (from_err_of (λ (fault : BlockFault). RefusesBlock fault edits c.args.self.writer
    (whole (arc_value c.self.inside.held.map).splits (vec_items c.lay_all-passes.result)
    c.lay-directory.result)) c.conclude-done.result.2 c.in-Err-made.fault c.in-Err-made.is
    (parts_refused (arc_value c.self.inside.held.map) c.splits.result.now
    (vec_items c.self.inside.parts.value) (vec_items c.args.parts)
    (vec_items c.conclude-done.result.0) (vec_items c.lay_all-passes.result)
    c.self.inside.held.directory c.lift-listing.result c.conclude-done.result.1
    c.lay-directory.result c.args.self c.conclude-done.result.2 (search rules)
    (c.requires.own ∙ sym (ap (λ (b : Begun). b.parts) c.self.view_is))
    c.lift-listing.ensures.same c.lay_all-passes.ensures.same c.lay-directory.ensures.same
    c.self.view_is c.self.invariant.0
    (c.conclude-done.ensures.concludes (edits_of (vec_items c.args.parts))
    (passes_of (vec_items c.args.parts)) c.finish_all-staged.ensures.staged)
    edits of))

pub returns-clause-same : goal.returns-clause-same
returns-clause-same g c blocks h =
    subst (HasMade blocks) (sym c.from_held-writer.ensures.same)
    (from_err c.conclude-done.result.2 c.in-Err-made.fault c.in-Err-made.is
    (parts_same (arc_value c.self.inside.held.map) c.splits.result.now
    (vec_items c.self.inside.parts.value) (vec_items c.args.parts)
    (vec_items c.conclude-done.result.0) (vec_items c.lay_all-passes.result)
    c.self.inside.held.directory c.lift-listing.result c.conclude-done.result.1
    c.lay-directory.result c.args.self c.conclude-done.result.2 (search rules)
    (c.requires.own ∙ sym (ap (λ (b : Begun). b.parts) c.self.view_is))
    c.lift-listing.ensures.same c.lay_all-passes.ensures.same c.lay-directory.ensures.same
    c.self.view_is c.self.invariant.0
    (c.conclude-done.ensures.concludes (edits_of (vec_items c.args.parts))
    (passes_of (vec_items c.args.parts)) c.finish_all-staged.ensures.staged)) blocks h)
