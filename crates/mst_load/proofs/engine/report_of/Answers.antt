use Rattle.mst_load.proofs.Names.{◌≡◌, List, [], length, sym, ◌∙◌, subst, arith, rules, Known, AreAllPasses, Settled, none_held}
use Rattle.mst_load.proofs.Kept.{all_whole, settled_back, told_settled, one_settled, seen_by_last}
use Rattle.mst_load.proofs.engine.report_of.Goals as goal

pub settle-requires : goal.settle-requires
settle-requires g c =
    let items : c.as_mut_slice.result.now ≡ c.args.passes.items = search rules in
    record {
      whole =
          none_held c.as_mut_slice.result.now (subst AreAllPasses (sym items) c.requires.whole);
    }

-- the pass that was taken, and those before it
pub version_of-events-requires-clause-whole : goal.version_of-events-requires-clause-whole
version_of-events-requires-clause-whole g c =
    let ws = c.args.passes.items in
    let free = c.settle.new.free in
    let held = c.settle.new.held in
    let items : c.as_mut_slice.result.now ≡ ws = search rules in
    let settled = subst (λ (l : List Known). Settled l [] free held) items c.settle.ensures.settled
    in
    let taken = settled_back ws free held c.args.passes.len settled (search rules)
    ∙ c.in-Some.ensures.items in
    subst AreAllPasses taken (all_whole ws free held settled c.requires.whole)

pub version_of-events-requires-clause-seen : goal.version_of-events-requires-clause-seen
version_of-events-requires-clause-seen g c =
    let ws = c.args.passes.items in
    let free = c.settle.new.free in
    let held = c.settle.new.held in
    let items : c.as_mut_slice.result.now ≡ ws = search rules in
    let settled = subst (λ (l : List Known). Settled l [] free held) items c.settle.ensures.settled
    in
    let taken = settled_back ws free held c.args.passes.len settled (search rules)
    ∙ c.in-Some.ensures.items in
    seen_by_last ws free held c.pop.new.self.items c.in-Some.pass settled (sym taken)

pub returns-clause-settled : goal.returns-clause-settled
returns-clause-settled g c =
    let ws = c.args.passes.items in
    let free = c.settle.new.free in
    let held = c.settle.new.held in
    let items : c.as_mut_slice.result.now ≡ ws = search rules in
    let settled = subst (λ (l : List Known). Settled l [] free held) items c.settle.ensures.settled
    in
    let taken = settled_back ws free held c.args.passes.len settled (search rules)
    ∙ c.in-Some.ensures.items in
    let told = c.version_of-events.ensures in record {
      passes = ws;
      all = c.requires.whole;
      count_is = search rules;
      numbered =
          λ k d below. (let size : length ws ≡ c.args.passes.len =
          search rules in c.requires.numbered k d (omega (arith, below, size)));
      rows = c.requires.rows;
      format = c.requires.format;
      worked = c.requires.worked;
      settled = told_settled ws free held c.pop.new.self.items c.in-Some.pass
          c.version_of-events.result.0 c.version_of-events.result.1 settled (sym taken)
          c.requires.format c.requires.keeps told.events told.root;
    }

pub returns-clause-version : goal.returns-clause-version
returns-clause-version g c =
    let ws = c.args.passes.items in
    let free = c.settle.new.free in
    let held = c.settle.new.held in
    let items : c.as_mut_slice.result.now ≡ ws = search rules in
    let settled = subst (λ (l : List Known). Settled l [] free held) items c.settle.ensures.settled
    in
    let taken = settled_back ws free held c.args.passes.len settled (search rules)
    ∙ c.in-Some.ensures.items in
    let told = c.version_of-events.ensures in
    one_settled ws c.version_of-events.result.0 c.version_of-events.result.1
    (told_settled ws free held c.pop.new.self.items c.in-Some.pass c.version_of-events.result.0
    c.version_of-events.result.1 settled (sym taken) c.requires.format c.requires.keeps
    told.events told.root)
