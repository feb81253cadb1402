use Rattle.mst_batch.proofs.Names.{◌≡◌, ◌-◌, ℕ, List, length, Option, IsSome, refl, sym, ◌∙◌, ap, subst, arith, rules, Format, keyed_links, entry_value, Chain, LiesBehind, AtCell, at_cell, at_end, Content, AreThere, known_of_entry, plan_of}
use Rattle.mst_read.proofs.Still.{read_still}
use Rattle.mst_batch.proofs.Heads.{next_some, next_there}
use Rattle.mst_batch.proofs.KnownShapes.{entry_there}
use Rattle.mst_batch.proofs.SameNodes.{IsSameFrom, other_count, value_at, one_more, not_all, tail_decides}
use Rattle.mst_batch.proofs.sharing.has_entries.Given.{Over}
use Rattle.mst_batch.proofs.sharing.has_entries.Goals.{After-entry-links}
use Rattle.mst_batch.proofs.sharing.has_entries.Goals as goal

pub returns-then-entries-head-clause-entries : goal.returns-then-entries-head-clause-entries
returns-then-entries-head-clause-entries g c f w lies =
    other_count c.args.entries.now (plan_of c.args.tail.now) w lies c.if-entries-head.true

pub loop-entry-init : goal.loop-entry-init
loop-entry-init g c = record {
  same = refl;
  onward = λ f w lies. record {
    rest = w;
    first_is = lies.first;
    tail_is = lies.tail;
    left = omega (arith, lies.count, c.if-entries-head.false);
    rows = lies.rows;
    holds = (λ is. is, λ is. is);
  };
}

-- ---- the next entry

pub overflow_sub-row : goal.overflow_sub-row
overflow_sub-row g c =
    let z = c.requires.lies in
    next_some (c.loop-entry.invariant.onward z.0 z.1 z.2) c.loop-entry-test.true

pub entry-links-requires : goal.entry-links-requires
entry-links-requires g c =
    let z = c.requires.lies in
    record {
      there = next_there (c.loop-entry.invariant.onward z.0 z.1 z.2) c.loop-entry-test.true
          (ap g.R.Rows.content c.loop-entry.invariant.same);
    }

pub is_entry-requires-clause-known : goal.is_entry-requires-clause-known
is_entry-requires-clause-known g c =
    subst (λ (x : Content). AreThere x (known_of_entry c.entry-item.result))
    (sym (ap g.R.Rows.content (c.entry-links.ensures.same ∙ c.loop-entry.invariant.same)))
    (entry_there (g.R.Rows.content c.args.rows.now) c.args.entries.now c.loop-entry.entry-index
    c.entry-item.result c.loop-entry-test.true c.entry-item.is c.requires.known)

module _ (g : Over) (c : goal.After-entry-links g) (f : Format) (w : Chain)
    (lies : LiesBehind f (g.R.Rows.content c.args.rows.now) c.args.head.now w) where
  here : AtCell f (g.R.Rows.content c.args.rows.now) c.args.head.now.tail (c.loop-entry.next - 1)
      c.loop-entry.entry-index (length c.args.entries.now) c.entry-links.result
      (IsSameFrom c.args.entries.now (plan_of c.args.tail.now) w c.loop-entry.entry-index)
  here = at_cell (c.loop-entry.invariant.onward f w lies) c.loop-entry-test.true
      (ap g.R.Rows.content c.loop-entry.invariant.same) c.entry-links.ensures.value

pub is_entry-requires-clause-there : goal.is_entry-requires-clause-there
is_entry-requires-clause-there g c =
    let z = c.requires.lies in
    let at = (goal.at.is_entry-requires-clause-there g c).After-entry-links in
    let a = here g at z.0 z.1 z.2 in
    subst (λ (v : Option (List ℕ)). IsSome v)
    (sym (read_still
    (ap g.R.Rows.content (c.entry-links.ensures.same ∙ c.loop-entry.invariant.same)) entry_value
    (c.loop-entry.next - 1) (value_at c.args.entries.now (plan_of c.args.tail.now) z.1 a))) refl

pub is_entry-requires-clause-links : goal.is_entry-requires-clause-links
is_entry-requires-clause-links g c =
    read_still (ap g.R.Rows.content c.entry-links.ensures.same) keyed_links
    (c.loop-entry.next - 1) c.entry-links.ensures.value

pub returns-then-not-is_entry-clause-entries : goal.returns-then-not-is_entry-clause-entries
returns-then-not-is_entry-clause-entries g c f w lies =
    let at = (goal.at.returns-then-not-is_entry-clause-entries g c).After-entry-links in
    let a = here g at f w lies in
    not_all c.args.entries.now (plan_of c.args.tail.now) w a c.entry-item.result
    c.loop-entry-test.true c.entry-item.is
    (c.is_entry.ensures.entry a.value
    (read_still (ap g.R.Rows.content (c.entry-links.ensures.same ∙ c.loop-entry.invariant.same))
    entry_value (c.loop-entry.next - 1)
    (value_at c.args.entries.now (plan_of c.args.tail.now) w a)))
    c.if-not-is_entry.true

pub loop-entry-preserved : goal.loop-entry-preserved
loop-entry-preserved g c = record {
  same = c.is_entry.ensures.same ∙ c.entry-links.ensures.same ∙ c.loop-entry.invariant.same;
  onward = λ f w lies.
      let at = (goal.at.loop-entry-preserved g c).After-entry-links in
      let a = here g at f w lies in
      one_more c.args.entries.now (plan_of c.args.tail.now) w a c.entry-item.result
      c.loop-entry-test.true c.entry-item.is
      ((c.is_entry.ensures.entry a.value
      (read_still
      (ap g.R.Rows.content (c.entry-links.ensures.same ∙ c.loop-entry.invariant.same))
      entry_value (c.loop-entry.next - 1)
      (value_at c.args.entries.now (plan_of c.args.tail.now) w a))).0 c.if-not-is_entry.false);
}

-- ---- all entries are as they are to be

pub returns-clause-entries : goal.returns-clause-entries
returns-clause-entries g c f w lies =
    let all : length c.args.entries.now ≡ c.loop-entry.entry-index = omega arith in
    let a = at_end (c.loop-entry.invariant.onward f w lies) all in
    search (rules, tail_decides c.args.entries.now (plan_of c.args.tail.now) w a all)
