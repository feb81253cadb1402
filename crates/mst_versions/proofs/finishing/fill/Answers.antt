use Rattle.mst_versions.proofs.Names.{rules, sym, ap, subst, ◌∙◌, ℕ, ◌+◌, Seated, HasMade}
use Rattle.mst_versions.proofs.Ready.{still_made}
use Rattle.mst_versions.proofs.finishing.fill.Goals as goal

pub overflow_add-made : goal.overflow_add-made
overflow_add-made g c = search rules

pub write_root-requires-clause-there : goal.write_root-requires-clause-there
write_root-requires-clause-there g c = search rules

pub write_root-requires-clause-holder : goal.write_root-requires-clause-holder
write_root-requires-clause-holder g c = search rules

pub write_root-requires-clause-drained : goal.write_root-requires-clause-drained
write_root-requires-clause-drained g c = search rules

pub write_root-requires-clause-wide : goal.write_root-requires-clause-wide
write_root-requires-clause-wide g c = search rules

pub returns-clause-kept : goal.returns-clause-kept
returns-clause-kept g c = c.write_root.ensures.kept

pub returns-clause-filled : goal.returns-clause-filled
returns-clause-filled g c =
    let w = c.write_root.ensures in record {
      version = w.version ∙ ap (λ (p : ℕ × ℕ). p.1 + 1) c.current-version.ensures.current;
      root_is = w.root;
      number = w.number;
    }

pub returns-clause-made : goal.returns-clause-made
returns-clause-made g c event made =
    let w = c.write_root in
    subst (HasMade c.args.turn.now c.args.root.now c.args.format event)
    (sym (ap (λ (z : Seated). z.me) w.ensures.kept))
    (still_made c.args.turn.now c.args.root.now c.args.format event c.args.seat.now.me made
    w.new.seat.me.0.known_words w.ensures.others)
