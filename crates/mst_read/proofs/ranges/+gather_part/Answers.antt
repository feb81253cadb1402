use Rattle.mst_read.proofs.Names.{◌≡◌, ◌-◌, ℕ, List, inl, Option, Some, None, IsSome, refl, sym, ◌∙◌, ap, subst, arith, rules, pairs, entries_pairs, part_at, keyed_links, entry_pair, KeyedLinks, links_at, tree_of, entries_of, HeadStands, filled}
use Rattle.std.proofs.Common.{Vec}
use Rattle.mst_key.specs.declared.key.Key.{Key}
use Rattle.mst_key.specs.declared.value.Value.{Value}
use Rattle.mst_read.proofs.Still.{read_still}
use Rattle.mst_read.proofs.Descend.{depth_is}
use Rattle.mst_read.proofs.Fillings.{own-ends, own-pushed, pushed}
use Rattle.mst_read.proofs.Parts.{opened}
use Rattle.mst_read.proofs.Walk.{AtCell, at_cell, at_end, child_lies, tail_lies}
use Rattle.mst_read.proofs.Gathering.{Rest, SomePart, start, at_none, child_stands, child_falls, goes_on, stops, cell_pair, ok_same, tail_stands, tail_falls}
use Rattle.mst_read.proofs.ranges.+gather_part.Given.{Over}
use Rattle.mst_read.proofs.ranges.+gather_part.Goals.{After-is_wanted, in-Some+in_ok-gather_part, in_default}
use Rattle.mst_read.proofs.ranges.+gather_part.Goals as goal

pub loop-init : goal.loop-init
loop-init g t c = record {
  same = refl;
  onward = λ s. start s.2;
}

-- ---- the gap before an entry is gathered

pub head_at-requires : goal.head_at-requires
head_at-requires g t c =
    let a = at_cell (c.loop.invariant.onward c.requires.stands) c.loop-test.true
    (ap g.R.Rows.content c.loop.invariant.same)
    (links_at (g.R.Rows.content c.loop.rows) (c.loop.link - 1) c.links-links.result
    c.links-links.ensures.value).1 in
    record {
      lies = (
        c.requires.stands.0,
        a.child,
        child_lies a
            (ap g.R.Rows.content (c.links-links.ensures.same ∙ c.loop.invariant.same)),
      );
    }

pub gather_part-requires : goal.gather_part-requires
gather_part-requires g t c κs within =
    let here = at_cell (c.loop.invariant.onward c.requires.stands) c.loop-test.true
    (ap g.R.Rows.content c.loop.invariant.same)
    (links_at (g.R.Rows.content c.loop.rows) (c.loop.link - 1) c.links-links.result
    c.links-links.ensures.value).1 in
    let same = ap g.R.Rows.content (c.links-links.ensures.same ∙ c.loop.invariant.same) in
    let falls = child_falls here same c.head_at.ensures.head in
    let o =
    opened c.in-Some.is
    (child_stands here same c.head_at.ensures.head (ap g.R.Rows.content c.head_at.ensures.same))
    in (
      omega (arith, depth_is c.in-Some.is, falls, c.decreases),
      (search rules, (search rules, (c.requires.stands.0, o.chain, o.stands))),
    )

-- ---- and then the entry's own pair is added

module _ (g : Over) (n : ℕ) (c : goal.After-is_wanted g n) where
  read : (k : List ℕ) × (part_at keyed_links (g.R.Rows.content c.loop.rows) (c.loop.link - 1)
      ≡ Some (record {
        child = c.links-links.result.child;
        next = c.links-links.result.next;
        key = k;
      }))
  read = links_at (g.R.Rows.content c.loop.rows) (c.loop.link - 1) c.links-links.result
      c.links-links.ensures.value

  abbrev e : KeyedLinks
  e = record {
    child = c.links-links.result.child;
    next = c.links-links.result.next;
    key = read.0;
  }

  rows_still : c.match-head_at.rows ≡ c.args.rows.now
  rows_still = elim c.match-head_at.branch [
    | in-Some+in_ok-gather_part w ↦ w.rows-is ∙ w.gather_part.ensures.same ∙ c.head_at.ensures.same
        ∙ c.links-links.ensures.same ∙ c.loop.invariant.same
    | in_default w ↦ w.rows-is ∙ c.head_at.ensures.same ∙ c.links-links.ensures.same
        ∙ c.loop.invariant.same
  ]

  links : part_at keyed_links (g.R.Rows.content c.match-head_at.rows) (c.loop.link - 1) ≡ Some
      e
  links = read_still (ap g.R.Rows.content (rows_still ∙ sym c.loop.invariant.same)) keyed_links
      (c.loop.link - 1) read.1

  module _ (s : SomePart (g.R.Rows.content c.args.rows.now) c.args.part.now) where
    entry : AtCell s.0 (g.R.Rows.content c.args.rows.now) c.args.part.now.tail (c.loop.link - 1)
        c.loop.counter c.args.part.now.count e
        (Rest c.args.to.now c.args.limit s.0 c.args.part.now.layer c.loop.found.items
        (filled None c.args.to.now c.args.limit c.args.found.now.items
        (entries_pairs (entries_of s.0 s.1))))
    entry = at_cell (c.loop.invariant.onward s) c.loop-test.true
        (ap g.R.Rows.content c.loop.invariant.same) read.1

    gap : HeadStands s.0 (g.R.Rows.content c.head_at.new.rows) c.head_at.result entry.child
    gap =
        child_stands entry
        (ap g.R.Rows.content (c.links-links.ensures.same ∙ c.loop.invariant.same))
        c.head_at.ensures.head (ap g.R.Rows.content c.head_at.ensures.same)

    in_gap : c.match-head_at.found.items ≡ filled None c.args.to.now c.args.limit
        c.loop.found.items (pairs (tree_of s.0 entry.child))
    in_gap = elim c.match-head_at.branch [
      | in-Some+in_ok-gather_part w ↦
          let o = opened w.in-Some.is gap in
          ap (λ (v : Vec (Key × Value) g.row.A.Denot). v.items) w.found-is
          ∙ (w.in_ok-gather_part.ensures.found s.0 o.chain o.stands
          ∙ ap (filled None c.args.to.now c.args.limit c.loop.found.items) o.same)
      | in_default w ↦
          ap (λ (v : Vec (Key × Value) g.row.A.Denot). v.items) w.found-is
          ∙ (at_none None c.args.to.now c.args.limit c.loop.found.items entry.child
          w.in_default.is gap)
    ]

    there : part_at entry_pair (g.R.Rows.content c.is_wanted.new.rows) (c.loop.link - 1)
        ≡ Some (e.key, entry.value)
    there = read_still (ap g.R.Rows.content (c.is_wanted.ensures.same ∙ rows_still))
        entry_pair (c.loop.link - 1) (cell_pair entry)

pub make_room-requires : goal.make_room-requires
make_room-requires g t c =
    let at = (goal.at.make_room-requires g t c).After-is_wanted in
    let wanted = c.if-not-is_wanted.ensures.wanted _ (links g t at) refl in
    record { some = omega (arith, wanted.0) }

pub push_pair-requires : goal.push_pair-requires
push_pair-requires g t c =
    let at = (goal.at.push_pair-requires g t c).After-is_wanted in
    let Is : Option KeyedLinks → Type 0 = IsSome in
    let still = read_still (ap g.R.Rows.content c.if-not-is_wanted.ensures.same) keyed_links
    (c.loop.link - 1) (links g t at) in
    record {
      there = subst Is (sym still) refl;
      room = c.in_ok-make_room.ensures.ok;
    }

pub returns-then-not-is_wanted-clause-found : goal.returns-then-not-is_wanted-clause-found
returns-then-not-is_wanted-clause-found g t c f p s =
    let at = (goal.at.returns-then-not-is_wanted-clause-found g t c).After-is_wanted in
    let ends = c.if-not-is_wanted.ensures.ends _ (links g t at) refl in
    stops (entry g t at (f, p, s)) (in_gap g t at (f, p, s))
    (own-ends c.args.to.now c.args.limit c.match-head_at.found.items
    (read g t at).0 (entry g t at (f, p, s)).value ends) ends

pub returns-then-len-limit-clause-found : goal.returns-then-len-limit-clause-found
returns-then-len-limit-clause-found g t c f p s =
    let at = (goal.at.returns-then-len-limit-clause-found g t c).After-is_wanted in
    let own = own-pushed c.args.to.now c.args.limit c.match-head_at.found.items
    c.push_pair.new.list.items (read g t at).0 (entry g t at (f, p, s)).value
    _ _ (pushed _ c.in_ok-make_room.ensures.same
    (c.push_pair.ensures.pushed _ (there g t at (f, p, s))))
    (there g t at (f, p, s)) (there g t at (f, p, s))
    (c.if-not-is_wanted.ensures.wanted _ (links g t at) refl) in
    stops (entry g t at (f, p, s)) (in_gap g t at (f, p, s)) own
    (inl (omega (arith, c.if-len-limit.true, c.len.ensures)))

pub loop-preserved : goal.loop-preserved
loop-preserved g t c =
    let at = (goal.at.loop-preserved g t c).After-is_wanted in
    record {
      same = c.push_pair.ensures.same ∙ c.if-not-is_wanted.ensures.same ∙ rows_still g t at;
      onward = λ s.
          let own = own-pushed c.args.to.now c.args.limit c.match-head_at.found.items
          c.push_pair.new.list.items (read g t at).0 (entry g t at s).value
          _ _ (pushed _ c.in_ok-make_room.ensures.same
          (c.push_pair.ensures.pushed _ (there g t at s)))
          (there g t at s) (there g t at s)
          (c.if-not-is_wanted.ensures.wanted _ (links g t at) refl) in
          goes_on (entry g t at s) (in_gap g t at s) own;
    }

-- ---- the last gap is gathered

pub head_at-requires-2 : goal.head_at-requires-2
head_at-requires-2 g t c =
    let a = at_end (c.loop.invariant.onward c.requires.stands) (omega (arith, c.loop-test.false)) in
    record {
      lies =
          (c.requires.stands.0, a.child, tail_lies a (ap g.R.Rows.content c.loop.invariant.same));
    }

pub gather_part-requires-in-Some-head_at : goal.gather_part-requires-in-Some-head_at
gather_part-requires-in-Some-head_at g t c κs within =
    let last = at_end (c.loop.invariant.onward c.requires.stands) (omega (arith, c.loop-test.false))
    in
    let falls = tail_falls last (ap g.R.Rows.content c.loop.invariant.same) c.head_at-2.ensures.head
    in
    let o =
    opened c.in-Some-head_at.is
    (tail_stands last (ap g.R.Rows.content c.loop.invariant.same) c.head_at-2.ensures.head
    (ap g.R.Rows.content c.head_at-2.ensures.same)) in (
      omega (arith, depth_is c.in-Some-head_at.is, falls, c.decreases),
      (search rules, (search rules, (c.requires.stands.0, o.chain, o.stands))),
    )

pub returns-in-Some-head_at-clause-found : goal.returns-in-Some-head_at-clause-found
returns-in-Some-head_at-clause-found g t c f p s =
    let last = at_end (c.loop.invariant.onward (f, p, s)) (omega (arith, c.loop-test.false)) in
    let o =
    opened c.in-Some-head_at.is
    (tail_stands last (ap g.R.Rows.content c.loop.invariant.same) c.head_at-2.ensures.head
    (ap g.R.Rows.content c.head_at-2.ensures.same)) in
    ok_same c.gather_part-in-Some-head_at.result _ _ _
    (c.gather_part-in-Some-head_at.ensures.found f o.chain o.stands)
    (ap (filled None c.args.to.now c.args.limit c.loop.found.items) o.same
    ∙ last.holds.holds)

pub returns-in-None-clause-found : goal.returns-in-None-clause-found
returns-in-None-clause-found g t c f p s =
    let last = at_end (c.loop.invariant.onward (f, p, s)) (omega (arith, c.loop-test.false)) in
    at_none None c.args.to.now c.args.limit c.loop.found.items last.child c.in-None.is
    (tail_stands last (ap g.R.Rows.content c.loop.invariant.same) c.head_at-2.ensures.head
    (ap g.R.Rows.content c.head_at-2.ensures.same)) ∙ last.holds.holds
