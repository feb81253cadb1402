use Rattle.std.proofs.Common.{ℕ, ◌+◌, sym, ap, subst, ◌∙◌}
use Rattle.mst_words.specs.Access.{Seated}
use Rattle.mst_versions.specs.Turns.{HasMade}
use Rattle.mst_versions.proofs.Ready.{still_made, readying}
use Rattle.mst_store_tests.proofs.seats.transfers.publish_by_steps.Goals as goal

pub publish-found-requires-clause-ready : goal.publish-found-requires-clause-ready
publish-found-requires-clause-ready c =
    let t = c.args.turn in
    let w = c.write_root in
    let made = subst (HasMade t c.args.root.now t.format c.args.event.now)
    (sym (ap (λ (z : Seated). z.me) w.ensures.kept))
    (still_made t c.args.root.now t.format c.args.event.now c.args.seat.now.me c.requires.made
    w.new.seat.me.0.known_words w.ensures.others) in
    readying t c.args.root.now t.format c.args.event.now w.new.seat.me made
    (record {
      version = w.ensures.version ∙ ap (λ (p : ℕ × ℕ). p.1 + 1) c.current-old.ensures.current;
      root_is = w.ensures.root;
      number = w.ensures.number;
    }) c.advance.new.self c.advance.ensures.current
