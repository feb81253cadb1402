use Rattle.mst_parts.proofs.Names.{◌≡◌, ◌∙◌, List, length, vec_items, sym, ap, subst, arith, arc_value, Known, whole, Shards, Origin, begun, passes_of, edits_of, IsOf, IsWriterOf, writer_count}
use Rattle.mst_parts.proofs.block.Block.begin.Given.{Over}
use Rattle.mst_parts.proofs.block.Block.begin.Goals.{After-of-begun}
use Rattle.mst_parts.proofs.block.Block.begin.Goals as goal

-- a growth of the lists was refused
pub from_held-requires-clause-own : goal.from_held-requires-clause-own
from_held-requires-clause-own g c = c.into_held-held.ensures.own

pub from_held-requires-clause-root : goal.from_held-requires-clause-root
from_held-requires-clause-root g c = c.into_held-held.ensures.root

pub returns-in-Err-clause-err : goal.returns-in-Err-clause-err
returns-in-Err-clause-err g c = c.from_held.ensures.same ∙ c.into_held-held.ensures.same

pub begin_all-parts-requires-clause-dealt : goal.begin_all-parts-requires-clause-dealt
begin_all-parts-requires-clause-dealt g c =
    let held = c.into_held-held.result in
    let count = writer_count (arc_value held.map).splits (vec_items held.passes) held.directory
    c.into_held-held.ensures.own.writer in
    let dealt = c.in-Ok.ensures.dealt in
    omega (arith, count, dealt, held.passes.ok.0)

pub begin_all-parts-requires-clause-shares : goal.begin_all-parts-requires-clause-shares
begin_all-parts-requires-clause-shares g c =
    let held = c.into_held-held.result in
    let count = writer_count (arc_value held.map).splits (vec_items held.passes) held.directory
    c.into_held-held.ensures.own.writer in
    let shares = c.in-Ok.ensures.shares in
    omega (arith, count, shares, held.passes.ok.0)

pub begin_all-parts-requires-clause-fits : goal.begin_all-parts-requires-clause-fits
begin_all-parts-requires-clause-fits g c =
    let held = c.into_held-held.result in
    let count = writer_count (arc_value held.map).splits (vec_items held.passes) held.directory
    c.into_held-held.ensures.own.writer in
    let room = c.in-Ok.ensures.room in
    omega (arith, count, room, held.passes.ok.0)

module _ (g : Over) (c : After-of-begun g) where
  abbrev s : Shards
  s = arc_value c.into_held-held.result.map

  abbrev os : List Origin
  os = vec_items c.of-begun.result.value

  abbrev d : Known
  d = c.into_held-held.result.directory

  same : os ≡ vec_items c.begin_all-parts.result.0
  same = ap (λ v. vec_items v) c.of-begun.ensures

  passes : passes_of os ≡ vec_items c.into_held-held.result.passes
  passes = ap passes_of same ∙ c.begin_all-parts.ensures.passes

  writer : whole s.splits (passes_of os) d
      ≡ whole s.splits (vec_items c.into_held-held.result.passes) d
  writer = ap (λ (l : List Known). whole s.splits l d) passes

  of : IsOf c.args.edits.now (begun s.splits os d)
  of = record {
    parts = ap edits_of same ∙ c.begin_all-parts.ensures.edits ∙ c.in-Ok.ensures.edits;
    small = c.are_within_limits.ensures.small;
  }

pub invariant_of-block : goal.invariant_of-block
invariant_of-block g c =
    let room = c.begin_all-parts.ensures.room in
    let long = ap (λ (l : List Origin). length l) (same g c) in (
      record {
        own = subst (IsWriterOf (s g c)) (sym (writer g c)) c.into_held-held.ensures.own;
        edits = c.args.edits.now;
        of = of g c;
      },
      c.into_held-held.ensures.root,
      c.begin_all-parts.ensures.empty,
      omega (arith, room, long, c.begin_all-parts.result.0.ok.0),
    )

pub returns-clause-writer : goal.returns-clause-writer
returns-clause-writer g c = writer g c ∙ c.into_held-held.ensures.same

pub returns-clause-edits : goal.returns-clause-edits
returns-clause-edits g c = of g c
