use Rattle.mst_path.proofs.Names.{One, ◌≡◌, ◌-◌, ◌+◌, ℕ, List, Some, IsSome, refl, ◌∙◌, sym, ap, subst, arith, Content, part_at, keyed_links, KeyedLinks, EntryRun, EntriesLie, CutGap, PlacedEntry}
use Rattle.mst_arena.specs.Ways.{entry_way, way_at}
use Rattle.mst_arena.specs.declared.sought.Way.TheVariants.{Here}
use Rattle.mst_arena.proofs.WayLemmas.{way_is, to_child, is_here, to_next}
use Rattle.mst_path.proofs.lemmas.rows.CopyRows.{links_there}
use Rattle.mst_path.proofs.lemmas.trees.Cutting.{Onward, AtEntry, onward_starts, at_entry, next_links, cut_end, cut_gap, cut_found, cut_on}
use Rattle.mst_path.proofs.cut.cut_at.Given.{Over}
use Rattle.mst_path.proofs.cut.cut_at.Goals.{In-loop-count, After-way}
use Rattle.mst_path.proofs.cut.cut_at.Goals as goal

pub loop-count-init : goal.loop-count-init
loop-count-init g c =
    record { same = refl; onward = λ format es lie. onward_starts format _ _ _ es lie }

-- ---- the next entry; where it stands does not depend on the format, so format 1 serves

module _ (g : Over) (c : goal.In-loop-count g) where
  next : AtEntry One (g.R.Rows.content c.args.rows.now) c.args.key.now c.requires.lies.0
      c.loop-count.link c.loop-count.count c.args.head.now.count
      (c.loop-count.invariant.onward One c.requires.lies.0 c.requires.lies.1)
  next =
      at_entry One _ _ _ _ _ _
      (c.loop-count.invariant.onward One c.requires.lies.0 c.requires.lies.1) c.loop-count-test.true

  there : IsSome (part_at keyed_links (g.R.Rows.content c.loop-count.rows) (c.loop-count.link - 1))
  there = subst (λ (x : Content). IsSome (part_at keyed_links x (c.loop-count.link - 1)))
      (sym (ap g.R.Rows.content c.loop-count.invariant.same)) (links_there _ _ _ _ _ next.row)

pub overflow_sub-row : goal.overflow_sub-row
overflow_sub-row g c = omega (arith, (next g (goal.at.overflow_sub-row g c).In-loop-count).link_is)

pub way-requires : goal.way-requires
way-requires g c = record { there = there g (goal.at.way-requires g c).In-loop-count }

pub entry-entry-requires : goal.entry-entry-requires
entry-entry-requires g c =
    record {
      there = subst (λ (x : Content). IsSome (part_at keyed_links x (c.loop-count.link - 1)))
          (sym (ap g.R.Rows.content c.way.ensures.same))
          (there g (goal.at.entry-entry-requires g c).In-loop-count);
    }

-- ---- the way from it is known

module _ (g : Over) (c : goal.After-way g) where
  answered : part_at (entry_way c.args.key.now) (g.R.Rows.content c.args.rows.now)
      (c.loop-count.link - 1) ≡ Some c.way.result
  answered = cc (c.way.ensures.way, c.loop-count.invariant.same)

  -- its links, and the way by them
  way_on : (es : List PlacedEntry) → EntriesLie (g.R.Rows.content c.args.rows.now) c.args.head.now
      es → (e : KeyedLinks)
      × (part_at keyed_links (g.R.Rows.content c.args.rows.now) (c.loop-count.link - 1) ≡ Some e)
      × (way_at c.args.key.now e.child e.next e.key ≡ c.way.result)
  way_on es lie =
      let links = next_links One _ _ _ _ _ _ (c.loop-count.invariant.onward One es lie)
      c.loop-count-test.true in (
        links.0,
        links.1,
        way_is (g.R.Rows.content c.args.rows.now) _ c.args.key.now links.0 _
            links.1 answered,
      )

pub returns-in-Child-clause-cut : goal.returns-in-Child-clause-cut
returns-in-Child-clause-cut g c format es tail lie tail_is =
    let on = way_on g (goal.at.returns-in-Child-clause-cut g c).After-way es lie in
    let is = to_child c.args.key.now on.0 c.in-Child.child (on.2 ∙ c.in-Child.is) in
    subst (λ (child : ℕ). CutGap format c.args.key.now es tail
    (record { first = c.args.head.now.first; count = c.loop-count.count }) child
    (record { first = c.loop-count.link; count = c.args.head.now.count - c.loop-count.count }))
    is.1
    (cut_gap format _ _ _ es lie _ _ _ refl (c.loop-count.invariant.onward format es lie)
    c.loop-count-test.true on.0 on.1 tail is.0)

pub returns-in-Here-clause-cut : goal.returns-in-Here-clause-cut
returns-in-Here-clause-cut g c format es tail lie tail_is =
    let e = c.entry-entry.result in
    let part : part_at keyed_links (g.R.Rows.content c.args.rows.now) (c.loop-count.link - 1) ≡ Some
    e = cc (c.entry-entry.ensures.value, c.way.ensures.same, c.loop-count.invariant.same) in
    let way : way_at c.args.key.now e.child e.next e.key ≡ Here =
    way_is (g.R.Rows.content c.args.rows.now) _ c.args.key.now e _ part
    (answered g (goal.at.returns-in-Here-clause-cut g c).After-way) ∙ c.in-Here.is in
    cut_found format _ _ _ es lie _ _ _ refl (c.loop-count.invariant.onward format es lie)
    c.loop-count-test.true e part tail (is_here c.args.key.now e way)

pub returns-in-Here-clause-same : goal.returns-in-Here-clause-same
returns-in-Here-clause-same g c = c.entry-entry.ensures.same ∙ c.way.ensures.same
    ∙ c.loop-count.invariant.same

pub loop-count-preserved : goal.loop-count-preserved
loop-count-preserved g c =
    record {
      same = c.way.ensures.same ∙ c.loop-count.invariant.same;
      onward = λ format es lie.
          let on = way_on g (goal.at.loop-count-preserved g c).After-way es lie in
          let is = to_next c.args.key.now on.0 c.in-Next.next (on.2 ∙ c.in-Next.is) in
          subst (λ (n : ℕ). Onward format (g.R.Rows.content c.args.rows.now) c.args.key.now es n
          (c.loop-count.count + 1) c.args.head.now.count) is.1
          (cut_on format _ _ _ es lie _ _ _ refl (c.loop-count.invariant.onward format es lie)
          c.loop-count-test.true on.0 on.1 is.0);
    }

-- ---- all entries are below the key

pub returns-clause-cut : goal.returns-clause-cut
returns-clause-cut g c format es tail lie tail_is =
    subst (λ (back : EntryRun). CutGap format c.args.key.now es tail
    (record { first = c.args.head.now.first; count = c.args.head.now.count })
    c.args.head.now.tail back) (sym c.no_run.ensures.none)
    (cut_end format _ _ _ es lie _ _ _ refl (c.loop-count.invariant.onward format es lie) tail
    tail_is (omega (arith, c.loop-count-test.false, c.loop-count.auto.count-end)))
