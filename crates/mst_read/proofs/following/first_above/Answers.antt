use Rattle.mst_read.proofs.Names.{◌-◌, refl, ◌∙◌, ap, arith, keyed_links, links_at}
use Rattle.mst_read.proofs.Still.{there_still, read_before}
use Rattle.mst_read.proofs.Stops.{all_ahead, ends_still, stop_before, ends_ahead, gap_link, above_found, none_above, found_link, found_there, found_left, behind_found, nothing_left}
use Rattle.mst_read.proofs.following.first_above.Goals as goal

pub loop-count-init : goal.loop-count-init
loop-count-init g c =
    record { same = refl; onward = λ f chain lies. all_ahead c.args.bound.now lies }

pub search-requires : goal.search-requires
search-requires g c =
    let lies = c.requires.lies in
    record {
      there =
          ends_still (ap g.R.Rows.content c.loop-count.invariant.same) c.args.bound.now
          c.loop-count.count c.loop-count.first
          (ends_ahead c.args.bound.now lies.1
          (c.loop-count.invariant.onward lies.0 lies.1 lies.2));
    }

-- ---- the search ends before an entry

pub overflow_sub-result : goal.overflow_sub-result
overflow_sub-result g c =
    let lies = c.requires.lies in
    let some = gap_link c.args.bound.now lies.1
    (c.loop-count.invariant.onward lies.0 lies.1 lies.2)
    (stop_before (ap g.R.Rows.content c.loop-count.invariant.same) c.args.bound.now
    c.loop-count.count c.loop-count.first c.search.ensures.stop) c.in-Gap.is in
    omega (arith, some)

pub returns-in-Gap-clause-first : goal.returns-in-Gap-clause-first
returns-in-Gap-clause-first g c f chain lies =
    above_found c.args.bound.now chain (c.loop-count.invariant.onward f chain lies)
    (stop_before (ap g.R.Rows.content c.loop-count.invariant.same) c.args.bound.now
    c.loop-count.count c.loop-count.first c.search.ensures.stop) c.in-Gap.is

-- ---- it ends at an entry, and goes on behind it

pub overflow_sub-link : goal.overflow_sub-link
overflow_sub-link g c =
    let lies = c.requires.lies in
    let some = found_link c.args.bound.now lies.1
    (c.loop-count.invariant.onward lies.0 lies.1 lies.2)
    (stop_before (ap g.R.Rows.content c.loop-count.invariant.same) c.args.bound.now
    c.loop-count.count c.loop-count.first c.search.ensures.stop) c.in-Found.is in
    omega (arith, some)

pub links-first-requires : goal.links-first-requires
links-first-requires g c =
    let lies = c.requires.lies in
    record {
      there = there_still
          (ap g.R.Rows.content (c.search.ensures.same ∙ c.loop-count.invariant.same))
          keyed_links (c.in-Found.link - 1)
          (found_there c.args.bound.now lies.1
          (c.loop-count.invariant.onward lies.0 lies.1 lies.2)
          (stop_before (ap g.R.Rows.content c.loop-count.invariant.same) c.args.bound.now
          c.loop-count.count c.loop-count.first c.search.ensures.stop) c.in-Found.is);
    }

pub overflow_sub-count : goal.overflow_sub-count
overflow_sub-count g c =
    let lies = c.requires.lies in
    let left = found_left c.args.bound.now lies.1
    (c.loop-count.invariant.onward lies.0 lies.1 lies.2)
    (stop_before (ap g.R.Rows.content c.loop-count.invariant.same) c.args.bound.now
    c.loop-count.count c.loop-count.first c.search.ensures.stop) c.in-Found.is in
    omega (arith, left)

pub loop-count-smaller : goal.loop-count-smaller
loop-count-smaller g c =
    let lies = c.requires.lies in
    let left = found_left c.args.bound.now lies.1
    (c.loop-count.invariant.onward lies.0 lies.1 lies.2)
    (stop_before (ap g.R.Rows.content c.loop-count.invariant.same) c.args.bound.now
    c.loop-count.count c.loop-count.first c.search.ensures.stop) c.in-Found.is in
    omega (arith, left)

pub loop-count-preserved : goal.loop-count-preserved
loop-count-preserved g c = record {
  same = c.links-first.ensures.same ∙ c.search.ensures.same ∙ c.loop-count.invariant.same;
  onward = λ f chain lies. behind_found c.args.bound.now chain
      (c.loop-count.invariant.onward f chain lies)
      (stop_before (ap g.R.Rows.content c.loop-count.invariant.same) c.args.bound.now
      c.loop-count.count c.loop-count.first c.search.ensures.stop) c.in-Found.is
      (read_before (ap g.R.Rows.content (c.search.ensures.same ∙ c.loop-count.invariant.same))
      keyed_links (c.in-Found.link - 1)
      (links_at (g.R.Rows.content c.search.new.self) (c.in-Found.link - 1) c.links-first.result
      c.links-first.ensures.value).1);
}

-- ---- no entry is left

pub returns-in-End-clause-first : goal.returns-in-End-clause-first
returns-in-End-clause-first g c f chain lies =
    none_above c.args.bound.now chain (c.loop-count.invariant.onward f chain lies)
    (stop_before (ap g.R.Rows.content c.loop-count.invariant.same) c.args.bound.now
    c.loop-count.count c.loop-count.first c.search.ensures.stop) c.in-End.is

pub returns-clause-first : goal.returns-clause-first
returns-clause-first g c f chain lies =
    nothing_left c.args.bound.now chain (c.loop-count.invariant.onward f chain lies)
    (omega (arith, c.loop-count-test.false))
