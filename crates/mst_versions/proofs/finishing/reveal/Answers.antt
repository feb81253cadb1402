use Rattle.mst_versions.proofs.Names.{rules, arith, None, [], ◌∷◌, Some, ap, State, SeatState}
use Rattle.std.proofs.lemmas.Grind.{elements}
use Rattle.mst_versions.proofs.Ready.{readying, giving}
use Rattle.mst_versions.proofs.finishing.reveal.Goals as goal

pub overflow_add-made : goal.overflow_add-made
overflow_add-made g c = search rules

pub advance-requires-clause-there : goal.advance-requires-clause-there
advance-requires-clause-there g c = search rules

pub advance-requires-clause-other : goal.advance-requires-clause-other
advance-requires-clause-other g c = search rules

pub advance-requires-clause-more : goal.advance-requires-clause-more
advance-requires-clause-more g c = search rules

pub publish-found-requires-clause-named : goal.publish-found-requires-clause-named
publish-found-requires-clause-named g c = search rules

pub publish-found-requires-clause-ready : goal.publish-found-requires-clause-ready
publish-found-requires-clause-ready g c =
    let r = c.requires.ready in
    readying c.args.turn r.0 r.1 c.args.event.now c.args.seat.now.me r.2 r.3 c.advance.new.self
    c.advance.ensures.current

pub returns-clause-same : goal.returns-clause-same
returns-clause-same g c = search rules

pub returns-clause-revealed : goal.returns-clause-revealed
returns-clause-revealed g c =
    let r = c.requires.ready in
    let s : State = c.advance.new.self in
    let p = c.publish-found.ensures.published in record {
      holder = search rules;
      there = search rules;
      due = search rules;
      mask = search rules;
      slot = search rules;
      giving = giving c.args.turn r.0 r.1 c.args.event.now c.args.seat.now.me r.2 r.3 s p.mask
          (record c.publish-found.new.self.me.0 { due = None }, (0, Some s) ∷ [])
          c.advance.ensures.current
          (ap (λ (z : SeatState). (record z.0 { due = None }, (0, Some s) ∷ [])) p.is);
    }

pub returns-clause-added : goal.returns-clause-added
returns-clause-added g c = search rules

pub returns-clause-version : goal.returns-clause-version
returns-clause-version g c = grind (arith, elements)
