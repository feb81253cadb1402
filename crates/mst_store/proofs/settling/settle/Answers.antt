use Rattle.mst_store.proofs.Names.{◌≡◌, ◌++◌, List, map, sym, ap, ◌∙◌, subst, rules, All, All-append, All-map, History, events_of, IsPrefix, StoreId, Known, new_pass, having_asked, SeatState, having_seen, IsBeside}
use Rattle.mst_store.proofs.AllPasses.{all_of_front, all_of_back}
use Rattle.mst_store.proofs.Courier.{beside_on, later_on, asked_beside, asked_thrice, all_before, all_alone}
use Rattle.mst_store.proofs.settling.settle.Goals as goal

pub collect_held-requires-clause-own : goal.collect_held-requires-clause-own
collect_held-requires-clause-own g c = let first = c.in-Some.courier in let after =
    c.collect_all.new.courier in
    beside_on first.table after.table first.me after.me c.first_courier.new.held
    c.collect_all.ensures.table c.collect_all.ensures.courier.passes_is
    (subst (All (IsBeside first.table first.me.0.passes)) (sym c.first_courier.ensures.same.1)
    (all_of_back (IsBeside first.table first.me.0.passes) c.args.free.now c.args.held.now
    c.in-Some.ensures.own))

pub deliver_all-requires-clause-own : goal.deliver_all-requires-clause-own
deliver_all-requires-clause-own g c = let first = c.in-Some.courier in let last =
    c.collect_held.new.courier in let there = c.collect_all.ensures in let held =
    c.collect_held.ensures in
    beside_on first.table last.table first.me last.me c.collect_all.new.line
    (held.table ∙ there.table) (held.courier.passes_is ∙ there.courier.passes_is)
    (subst (All (IsBeside first.table first.me.0.passes))
    (sym (there.same ∙ c.first_courier.ensures.same.0))
    (all_of_front (IsBeside first.table first.me.0.passes) c.args.free.now c.args.held.now
    c.in-Some.ensures.own))

pub deliver_all-requires-clause-later : goal.deliver_all-requires-clause-later
deliver_all-requires-clause-later g c = let after = c.collect_all.new.courier in let last =
    c.collect_held.new.courier in let there = c.collect_all.ensures in
    later_on after.me last.me c.collect_all.new.line c.collect_held.ensures.courier
    (subst (All (λ p. IsPrefix p.seen after.me.0.seen)) (sym there.same) there.later)

pub deliver_held-requires-clause-own : goal.deliver_held-requires-clause-own
deliver_held-requires-clause-own g c = let first = c.in-Some.courier in let end =
    c.deliver_all.new.courier in let there = c.collect_all.ensures in let held =
    c.collect_held.ensures in let back = c.deliver_all.ensures in
    beside_on first.table end.table first.me end.me c.collect_held.new.line
    (back.table ∙ held.table ∙ there.table)
    (ap (λ (m : SeatState). m.0.passes) back.same ∙ held.courier.passes_is
    ∙ there.courier.passes_is)
    (subst (All (IsBeside first.table first.me.0.passes))
    (sym (held.asked ∙ ap (map (having_asked 1)) c.first_courier.ensures.same.1))
    (asked_beside first.table first.me.0.passes 1 c.args.held.now
    (all_of_back (IsBeside first.table first.me.0.passes) c.args.free.now c.args.held.now
    c.in-Some.ensures.own)))

pub deliver_held-requires-clause-later : goal.deliver_held-requires-clause-later
deliver_held-requires-clause-later g c = let held = c.collect_held.ensures in let h : History =
    c.deliver_all.new.courier.me.0.seen in
    subst (All (λ p. IsPrefix p.seen h)) (sym held.asked)
    (All-map (λ (p : Known). IsPrefix p.seen h) (having_asked 1) c.first_courier.new.held
    (subst (λ (m : SeatState). All (λ p. IsPrefix p.seen m.0.seen) c.first_courier.new.held)
    (sym c.deliver_all.ensures.same) held.later))

pub returns : goal.returns
returns g c = let w = c.requires.whole in let free : List Known = c.args.free.now in
    let held : List Known = c.args.held.now in let same = c.first_courier.ensures.same in
    let first = c.in-Some.courier in let last = c.collect_held.new.courier in
    let there = c.collect_all.ensures in let pinned = c.collect_held.ensures in let back =
    c.deliver_all.ensures in let home = c.deliver_held.ensures in
    let log : History = last.me.0.seen in
    let beside = c.in-Some.ensures.own 0 (new_pass w.store 0) c.in-Some.ensures.some in
    record {
      settled = record {
        log = log;
        now = back.now ∙ ap (map (having_seen log)) (there.same ∙ same.0);
        still = home.asked ∙ ap (map (having_asked 2)) pinned.asked
            ∙ asked_thrice c.first_courier.new.held ∙ ap (map (having_asked 3)) same.1;
        later = All-append (λ (p : Known). IsPrefix p.seen log) free held
            (subst (All (λ p. IsPrefix p.seen log)) same.0
            (later_on c.collect_all.new.courier.me last.me c.first_courier.new.free
            pinned.courier there.later))
            (subst (All (λ p. IsPrefix p.seen log)) same.1 pinned.later);
        own = All-append (λ (p : Known). events_of p.number log ≡ p.mine) free held
            (subst (All (λ p. events_of p.number log ≡ p.mine)) (there.same ∙ same.0) back.own)
            (subst (All (λ p. events_of p.number log ≡ p.mine)) same.1
            (all_before (λ (p : Known). events_of p.number log ≡ p.mine) (having_asked 1)
            c.first_courier.new.held
            (subst (All (λ p. events_of p.number log ≡ p.mine)) pinned.asked
            (subst (λ (m : SeatState). All (λ p. events_of p.number m.0.seen ≡ p.mine)
            c.collect_held.new.line) back.same home.own))));
        alone = all_alone (free ++ held) last.me.0.passes log w
            (pinned.courier.passes_is ∙ there.courier.passes_is ∙ sym beside.passes_is
            ∙ ap (λ (s : StoreId). s.passes)
            (w.of_one 0 (new_pass w.store 0) c.in-Some.ensures.some)) pinned.courier.courier.alone;
      };
    }

pub first_courier-requires : goal.first_courier-requires
first_courier-requires g c = search rules

pub returns-in_default : goal.returns-in_default
returns-in_default g c = search rules

pub collect_all-requires-clause-own : goal.collect_all-requires-clause-own
collect_all-requires-clause-own g c = let first = c.in-Some.courier in
    subst (All (IsBeside first.table first.me.0.passes)) (sym c.first_courier.ensures.same.0)
    (all_of_front (IsBeside first.table first.me.0.passes) c.args.free.now c.args.held.now
    c.in-Some.ensures.own)

pub collect_all-requires-clause-courier : goal.collect_all-requires-clause-courier
collect_all-requires-clause-courier g c = search rules

pub collect_held-requires-clause-courier : goal.collect_held-requires-clause-courier
collect_held-requires-clause-courier g c = search rules
