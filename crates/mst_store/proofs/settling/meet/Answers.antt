use Rattle.mst_store.proofs.Names.{◌≡◌, ℕ, ap, sym, subst, ◌∙◌, rules, History, events_of, IsPrefix, IsPrefix-chain, IsOfPasses, SeatState, having_seen}
use Rattle.mst_versions.specs.Known.{Known}
use Rattle.mst_store.proofs.settling.meet.Goals as goal

pub collect-requires-clause-own : goal.collect-requires-clause-own
collect-requires-clause-own g c = search rules

pub collect-requires-clause-courier : goal.collect-requires-clause-courier
collect-requires-clause-courier g c = search rules

pub deliver-requires-clause-own : goal.deliver-requires-clause-own
deliver-requires-clause-own g c = search rules

pub deliver-requires-clause-later : goal.deliver-requires-clause-later
deliver-requires-clause-later g c =
    let sent = c.send_courier-courier in
    let log : History = c.collect.new.courier.me.0.seen in
    subst (λ (p : Known). IsPrefix p.seen log) (sym sent.ensures.same)
    (IsPrefix-chain c.args.one.now.seen sent.result.me.0.seen log sent.ensures.later
    c.collect.ensures.courier.later)

pub deliver-requires-2-clause-own : goal.deliver-requires-2-clause-own
deliver-requires-2-clause-own g c = search rules

pub deliver-requires-2-clause-later : goal.deliver-requires-2-clause-later
deliver-requires-2-clause-later g c = search rules

pub returns : goal.returns
returns g c =
    let sent = c.send_courier-courier in
    let log : History = c.collect.new.courier.me.0.seen in
    let first : sent.new.pass ≡ c.args.one.now = sent.ensures.same in
    let second : c.collect.new.pass ≡ c.args.other.now = c.collect.ensures.same in
    let told : c.deliver.new.courier.me ≡ c.collect.new.courier.me = c.deliver.ensures.same in
    let goes = c.collect.ensures.courier in
    record {
      met = record {
        log = log;
        now = (
          c.deliver.ensures.now ∙ ap (having_seen log) first,
          c.deliver-2.ensures.now
              ∙ ap (λ (m : SeatState). having_seen m.0.seen c.collect.new.pass) told
              ∙ ap (having_seen log) second,
        );
        later = (
          IsPrefix-chain c.args.one.now.seen sent.result.me.0.seen log sent.ensures.later
              goes.later,
          c.collect.ensures.later,
        );
        own = (
          subst (λ (p : Known). events_of p.number log ≡ p.mine) first c.deliver.ensures.own,
          subst (λ (p : Known). events_of p.number log ≡ p.mine) second
              (subst (λ (m : SeatState). events_of c.collect.new.pass.number m.0.seen
              ≡ c.collect.new.pass.mine) told c.deliver-2.ensures.own),
        );
        alone = subst (λ (n : ℕ). IsOfPasses n log)
            (goes.passes_is ∙ sym sent.ensures.own.passes_is) goes.courier.alone;
      };
    }
