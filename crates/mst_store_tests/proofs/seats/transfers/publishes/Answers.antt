use Rattle.std.proofs.Common.{rules, ℕ, ◌≡◌, sym, ap, subst, ◌∙◌}
use Rattle.mst_key.specs.declared.format.Format.{Format}
use Rattle.mst_key.specs.declared.history.Event.{Event}
use Rattle.mst_key.specs.History.{changed_format}
use Rattle.mst_key.proofs.HistoryLaws.{format_kept}
use Rattle.mst_versions.specs.Turns.{HasMade}
use Rattle.mst_store_tests.proofs.seats.transfers.publishes.Goals as goal

pub publish_by_steps-requires : goal.publish_by_steps-requires
publish_by_steps-requires c =
    let t = c.in-Ok.turn in let e : Event = c.args.event.now in
    let number : c.begin_write.new.seat.me.0.number ≡ e.pass = search rules in
    record {
      made =
          subst (λ (f : Format). HasMade c.make.new.turn c.in-Ok-make.root f e c.make.new.seat.me)
          (format_kept t.format e.change c.requires.keyed ∙ sym c.make.ensures.kept)
          (subst (λ (z : Event). HasMade c.make.new.turn c.in-Ok-make.root
          (changed_format t.format e.change) z c.make.new.seat.me)
          (ap (λ (p : ℕ). record { pass = p; change = e.change }) number)
          c.in-Ok-make.ensures.made.has);
    }
