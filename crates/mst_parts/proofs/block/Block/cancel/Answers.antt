use Rattle.mst_parts.proofs.Names.{◌≡◌, ◌∙◌, List, vec_items, sym, ap, arc_value, Origin, Begun}
use Rattle.mst_parts.proofs.Canceled.{taken_writer, taken_splits, taken_left, taken_map, taken_same}
use Rattle.mst_parts.proofs.block.Block.cancel.Goals as goal

pub from_held-requires-clause-own : goal.from_held-requires-clause-own
from_held-requires-clause-own g c =
    taken_writer (arc_value c.self.inside.held.map) (vec_items c.self.inside.parts.value)
    (vec_items c.args.parts) (vec_items c.cancel_parts-passes.result) c.self.inside.held.directory
    c.args.self (c.requires.own ∙ sym (ap (λ (b : Begun). b.parts) c.self.view_is)) c.self.view_is
    c.self.invariant.0 c.cancel_parts-passes.ensures.nothing

pub from_held-requires-clause-root : goal.from_held-requires-clause-root
from_held-requires-clause-root g c = c.self.invariant.1

pub returns-clause-splits : goal.returns-clause-splits
returns-clause-splits g c =
    taken_splits (arc_value c.self.inside.held.map) (vec_items c.self.inside.parts.value)
    (vec_items c.args.parts) (vec_items c.cancel_parts-passes.result) c.self.inside.held.directory
    c.args.self (c.requires.own ∙ sym (ap (λ (b : Begun). b.parts) c.self.view_is)) c.self.view_is
    c.self.invariant.0 c.cancel_parts-passes.ensures.nothing c.from_held.result
    c.from_held.ensures.same

pub returns-clause-left : goal.returns-clause-left
returns-clause-left g c =
    taken_left (arc_value c.self.inside.held.map) (vec_items c.self.inside.parts.value)
    (vec_items c.args.parts) (vec_items c.cancel_parts-passes.result) c.self.inside.held.directory
    c.args.self (c.requires.own ∙ sym (ap (λ (b : Begun). b.parts) c.self.view_is)) c.self.view_is
    c.self.invariant.0 c.cancel_parts-passes.ensures.nothing c.from_held.result
    c.from_held.ensures.same

pub returns-clause-map : goal.returns-clause-map
returns-clause-map g c =
    taken_map (arc_value c.self.inside.held.map) (vec_items c.self.inside.parts.value)
    (vec_items c.args.parts) (vec_items c.cancel_parts-passes.result) c.self.inside.held.directory
    c.args.self (c.requires.own ∙ sym (ap (λ (b : Begun). b.parts) c.self.view_is)) c.self.view_is
    c.self.invariant.0 c.cancel_parts-passes.ensures.nothing c.from_held.result
    c.from_held.ensures.same

pub returns-clause-same : goal.returns-clause-same
returns-clause-same g c blocks h =
    taken_same (arc_value c.self.inside.held.map) (vec_items c.self.inside.parts.value)
    (vec_items c.args.parts) (vec_items c.cancel_parts-passes.result) c.self.inside.held.directory
    c.args.self (c.requires.own ∙ sym (ap (λ (b : Begun). b.parts) c.self.view_is)) c.self.view_is
    c.self.invariant.0 c.cancel_parts-passes.ensures.nothing c.from_held.result
    c.from_held.ensures.same blocks h
