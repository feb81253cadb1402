use Rattle.mst_load.proofs.Names.{vec_len, rules, arith, ap, ◌∙◌, StoreId, AreAllPasses}
use Rattle.std.specs.Prelude.{◌≡◌, ◌+◌, ◌≤◌, length}
use Rattle.std.specs.Prelude.{get_or}
use Rattle.mst_load.proofs.Kept.{each_keeps, settled_count}
use Rattle.mst_load.proofs.Returning.{dealt_worker, dealt_number, all_back}
use Rattle.mst_load.proofs.Merged.{all_puts}
use Rattle.mst_load.proofs.NoneRefused.{all_made}
use Rattle.mst_load.proofs.engine.load.Goals as goal

-- the passes that go to the workers are those that were dealt
pub run_all-requires-clause-own : goal.run_all-requires-clause-own
run_all-requires-clause-own g c κs within =
    let store = c.in-Ok-opened.opened.0 in let dealt = c.in-Ok-deal in
    let count : vec_len dealt.passes ≡ store.passes = search rules in
    (λ k d below. dealt_worker store dealt.passes.items k d dealt.ensures.ok
    (omega (arith, below, count)))

-- and those that are returned are all of them
pub report_of-requires : goal.report_of-requires
report_of-requires g c =
    let store = c.in-Ok-opened.opened.0 in let back = c.in_ok-passes in let passes =
    back.passes.items in
    let count : length passes ≡ store.passes = search rules in
    let whole : AreAllPasses passes =
    all_back store passes count (λ k d below. (back.ensures.own k d (search rules)).of_store)
    (λ k d below. back.ensures.numbered k d (search rules)) in
    let shape : store.passes ≡ c.args.readers + c.args.writers = c.in-Ok-opened.ensures.store.1 in
    let writers : 1 ≤ c.args.writers = c.requires.writers.0 in
    record {
      some = omega (arith, count, shape, writers);
      whole = whole;
      rows =
          λ k d below. (let own = back.ensures.own k d (search rules) in
          ap (λ (s : StoreId). s.rows) own.of_store ∙ c.in-Ok-opened.ensures.store.0);
      format =
          λ k d below. (let own = back.ensures.own k d (search rules) in
          ap (λ (s : StoreId). s.format) own.of_store ∙ c.in-Ok-opened.ensures.store.2);
      numbered = λ k d below. back.ensures.numbered k d (search rules);
      keeps =
          λ k d below. (let own = back.ensures.own k d (search rules) in
          each_keeps (get_or passes k d).mine own.keeps);
      worked = λ k d below. (back.ensures.own k d (search rules)).worked;
    }

-- they are numbered from 1 on
pub run_all-requires-clause-numbered : goal.run_all-requires-clause-numbered
run_all-requires-clause-numbered g c κs within =
    let store = c.in-Ok-opened.opened.0 in let dealt = c.in-Ok-deal in
    let count : vec_len dealt.passes ≡ store.passes = search rules in
    (λ k d below. dealt_number store dealt.passes.items k d dealt.ensures.ok
    (omega (arith, below, count)))

-- no put was refused
pub returns-clause-all : goal.returns-clause-all
returns-clause-all g c =
    let count : vec_len c.in_ok-passes.passes ≡ c.in-Ok-opened.opened.0.passes = search rules in
    let told = c.report_of.result in
    all_made c.args.readers c.args.writers c.args.calls told.events told.root
    (settled_count (vec_len c.in_ok-passes.passes) (c.args.readers + c.args.writers) c.args.writers
    c.args.calls told.events told.root c.report_of.ensures.settled
    (count ∙ c.in-Ok-opened.ensures.store.1))
    c.requires.readers c.requires.writers.1 c.requires.calls.1

-- so the map is the one that all calls leave
pub returns-clause-whole : goal.returns-clause-whole
returns-clause-whole g c =
    let count : vec_len c.in_ok-passes.passes ≡ c.in-Ok-opened.opened.0.passes = search rules in
    let told = c.report_of.result in
    let settled = settled_count (vec_len c.in_ok-passes.passes)
    (c.args.readers + c.args.writers) c.args.writers c.args.calls told.events told.root
    c.report_of.ensures.settled (count ∙ c.in-Ok-opened.ensures.store.1) in
    all_puts c.args.readers c.args.writers c.args.calls told.events told.root settled told.built
    (search rules)
    (all_made c.args.readers c.args.writers c.args.calls told.events told.root settled
    c.requires.readers c.requires.writers.1 c.requires.calls.1)
