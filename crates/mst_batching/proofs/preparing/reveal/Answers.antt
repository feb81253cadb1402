use Rattle.std.proofs.Common.{List, sym, subst}
use Rattle.mst_key.specs.declared.history.Edit.{Edit}
use Rattle.mst_batching.specs.Preparing.{batch_of}
use Rattle.mst_versions.specs.Turns.{HasMade, Added}
use Rattle.mst_versions.specs.Revealing.{closed}
use Rattle.mst_batching.proofs.Prepared.{published_keeps, published_free, published_own, published_at}
use Rattle.mst_batching.proofs.preparing.reveal.Given.{Over}
use Rattle.mst_batching.proofs.preparing.reveal.Goals.{After-reveal}
use Rattle.mst_batching.proofs.preparing.reveal.Goals as goal

pub reveal-requires : goal.reveal-requires
reveal-requires g c =
    let p = c.args.prepared in
    record {
      ready = (
        p.root,
        p.turn.format,
        subst (λ (es : List Edit). HasMade p.turn p.root p.turn.format
            (batch_of c.args.parameters.number es) c.args.seat.now.me) (sym c.new.ensures.edits)
            c.requires.prepared.made,
        c.requires.prepared.filled,
      );
    }

module _ (g : Over) (c : After-reveal g) where
  added : Added (batch_of c.args.parameters.number c.args.edits.now) c.args.seat.now.me
      (closed c.reveal.new.seat.me)
  added = subst (λ (es : List Edit). Added (batch_of c.args.parameters.number es)
      c.args.seat.now.me (closed c.reveal.new.seat.me)) c.new.ensures.edits c.reveal.ensures.added

pub returns-clause-pass : goal.returns-clause-pass
returns-clause-pass g c =
    published_keeps c.args.parameters.number c.args.edits.now c.args.prepared c.args.seat.now
    c.reveal.new.seat c.requires.prepared
    (added g (goal.at.returns-clause-pass g c).After-reveal)

pub returns-clause-free : goal.returns-clause-free
returns-clause-free g c =
    published_free c.args.parameters.number c.args.edits.now c.args.prepared c.args.seat.now
    c.reveal.new.seat c.requires.prepared
    (added g (goal.at.returns-clause-free g c).After-reveal)

pub returns-clause-own : goal.returns-clause-own
returns-clause-own g c =
    published_own c.args.parameters.number c.args.edits.now c.args.prepared c.args.seat.now
    c.reveal.new.seat c.requires.prepared
    (added g (goal.at.returns-clause-own g c).After-reveal)

pub returns-clause-published : goal.returns-clause-published
returns-clause-published g c =
    published_at c.args.parameters.number c.args.edits.now c.args.prepared c.args.seat.now
    c.reveal.new.seat c.requires.prepared
    (added g (goal.at.returns-clause-published g c).After-reveal) c.reveal.ensures.same
    c.reveal.result.version c.reveal.ensures.version
