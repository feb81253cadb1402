use Rattle.mst_read.proofs.Names.{◌<◌, ◌-◌, [], Option, None, inl, IsSome, refl, ◌∙◌, sym, ap, subst, arith, keyed_links, entry_pair, KeyedLinks, links_at, filled, past_gap}
use Rattle.mst_read.proofs.Still.{read_still}
use Rattle.mst_read.proofs.Fillings.{filled-full, filled-nothing, own-ends, own-pushed, pushed}
use Rattle.mst_read.proofs.Gathering.{cell_pair, ok_same, no_entries, own, others_stand, both, ends_there}
use Rattle.mst_read.proofs.ranges.gather_behind.Goals as goal

pub returns-then-part-eq0-clause-found : goal.returns-then-part-eq0-clause-found
returns-then-part-eq0-clause-found g c f p s =
    sym (ap (filled None c.args.to.now c.args.limit c.args.found.now.items)
    (no_entries s c.if-part-eq0.true)
    ∙ filled-nothing None c.args.to.now c.args.limit c.args.found.now.items [] tt)

pub returns-then-len-limit-clause-found : goal.returns-then-len-limit-clause-found
returns-then-len-limit-clause-found g c f p s =
    sym (filled-full None c.args.to.now c.args.limit c.args.found.now.items
    (past_gap f p) (omega (arith, c.if-len-limit.true, c.len.ensures)))

pub make_room-requires : goal.make_room-requires
make_room-requires g c =
    let wanted = c.if-not-is_wanted.ensures.wanted _
    (read_still (ap g.R.Rows.content c.links-links.ensures.same) keyed_links
    (c.args.part.now.first - 1)
    (links_at (g.R.Rows.content c.args.rows.now) (c.args.part.now.first - 1)
    c.links-links.result
    c.links-links.ensures.value).1) refl in
    record { some = omega (arith, wanted.0) }

pub push_pair-requires : goal.push_pair-requires
push_pair-requires g c =
    let Is : Option KeyedLinks → Type 0 = IsSome in
    record {
      room = c.in_ok-make_room.ensures.ok;
      there =
          subst Is (sym (read_still (ap g.R.Rows.content
          (c.if-not-is_wanted.ensures.same ∙ c.links-links.ensures.same)) keyed_links
          (c.args.part.now.first - 1)
          (links_at (g.R.Rows.content c.args.rows.now) (c.args.part.now.first - 1)
          c.links-links.result
          c.links-links.ensures.value).1))
          refl;
    }

pub returns-then-not-is_wanted-clause-found : goal.returns-then-not-is_wanted-clause-found
returns-then-not-is_wanted-clause-found g c f p s =
    let some : 0 < c.args.part.now.count = omega (arith, c.if-part-eq0.false) in
    let ends =
    c.if-not-is_wanted.ensures.ends _
    (read_still (ap g.R.Rows.content c.links-links.ensures.same)
    keyed_links (c.args.part.now.first - 1)
    (links_at (g.R.Rows.content c.args.rows.now) (c.args.part.now.first - 1)
    c.links-links.result
    c.links-links.ensures.value).1) refl in
    ends_there s some (links_at (g.R.Rows.content c.args.rows.now) (c.args.part.now.first - 1)
    c.links-links.result
    c.links-links.ensures.value).1 c.args.to.now c.args.limit
    c.args.found.now.items
    (own-ends c.args.to.now c.args.limit c.args.found.now.items
    (links_at (g.R.Rows.content c.args.rows.now) (c.args.part.now.first - 1) c.links-links.result
    c.links-links.ensures.value).0
    (own s some (links_at (g.R.Rows.content c.args.rows.now) (c.args.part.now.first - 1)
    c.links-links.result
    c.links-links.ensures.value).1).value ends) ends

pub returns-then-len-limit-2-clause-found : goal.returns-then-len-limit-2-clause-found
returns-then-len-limit-2-clause-found g c f p s =
    let some : 0 < c.args.part.now.count = omega (arith, c.if-part-eq0.false) in
    let here =
    own s some (links_at (g.R.Rows.content c.args.rows.now) (c.args.part.now.first - 1)
    c.links-links.result
    c.links-links.ensures.value).1 in
    let value = read_still (ap g.R.Rows.content
    (c.if-not-is_wanted.ensures.same ∙ c.links-links.ensures.same)) entry_pair
    (c.args.part.now.first - 1) (cell_pair here) in
    let added = own-pushed c.args.to.now c.args.limit c.args.found.now.items
    c.push_pair.new.list.items
    (links_at (g.R.Rows.content c.args.rows.now) (c.args.part.now.first - 1)
    c.links-links.result
    c.links-links.ensures.value).0 here.value _ _
    (pushed _ c.in_ok-make_room.ensures.same (c.push_pair.ensures.pushed _ value)) value
    value
    (c.if-not-is_wanted.ensures.wanted _
    (read_still (ap g.R.Rows.content c.links-links.ensures.same)
    keyed_links (c.args.part.now.first - 1)
    (links_at (g.R.Rows.content c.args.rows.now) (c.args.part.now.first - 1)
    c.links-links.result
    c.links-links.ensures.value).1) refl) in
    ends_there s some (links_at (g.R.Rows.content c.args.rows.now) (c.args.part.now.first - 1)
    c.links-links.result
    c.links-links.ensures.value).1 c.args.to.now c.args.limit
    c.args.found.now.items added (inl (omega (arith, c.if-len-limit-2.true, c.len-2.ensures)))

pub gather_part-requires : goal.gather_part-requires
gather_part-requires g c =
    let s = c.requires.stands in
    let some : 0 < c.args.part.now.count = omega (arith, c.if-part-eq0.false) in
    record {
      stands = (
        s.0,
        (own s.2 some (links_at (g.R.Rows.content c.args.rows.now) (c.args.part.now.first - 1)
            c.links-links.result
            c.links-links.ensures.value).1).rest,
        others_stand s.2 some
            (links_at (g.R.Rows.content c.args.rows.now) (c.args.part.now.first - 1)
            c.links-links.result
            c.links-links.ensures.value).1
            (ap g.R.Rows.content (c.push_pair.ensures.same ∙ c.if-not-is_wanted.ensures.same
            ∙ c.links-links.ensures.same))
            c.part_of-rest.ensures,
      );
    }

pub returns-clause-found : goal.returns-clause-found
returns-clause-found g c f p s =
    let some : 0 < c.args.part.now.count = omega (arith, c.if-part-eq0.false) in
    let here =
    own s some (links_at (g.R.Rows.content c.args.rows.now) (c.args.part.now.first - 1)
    c.links-links.result
    c.links-links.ensures.value).1 in
    let rest =
    others_stand s some (links_at (g.R.Rows.content c.args.rows.now) (c.args.part.now.first - 1)
    c.links-links.result
    c.links-links.ensures.value).1
    (ap g.R.Rows.content (c.push_pair.ensures.same ∙ c.if-not-is_wanted.ensures.same
    ∙ c.links-links.ensures.same))
    c.part_of-rest.ensures in
    let value = read_still (ap g.R.Rows.content
    (c.if-not-is_wanted.ensures.same ∙ c.links-links.ensures.same)) entry_pair
    (c.args.part.now.first - 1) (cell_pair here) in
    let added = own-pushed c.args.to.now c.args.limit c.args.found.now.items
    c.push_pair.new.list.items
    (links_at (g.R.Rows.content c.args.rows.now) (c.args.part.now.first - 1)
    c.links-links.result
    c.links-links.ensures.value).0 here.value _ _
    (pushed _ c.in_ok-make_room.ensures.same (c.push_pair.ensures.pushed _ value)) value
    value
    (c.if-not-is_wanted.ensures.wanted _
    (read_still (ap g.R.Rows.content c.links-links.ensures.same)
    keyed_links (c.args.part.now.first - 1)
    (links_at (g.R.Rows.content c.args.rows.now) (c.args.part.now.first - 1)
    c.links-links.result
    c.links-links.ensures.value).1) refl) in
    ok_same c.gather_part.result _ _ _ (c.gather_part.ensures.found f here.rest rest)
    (both s some (links_at (g.R.Rows.content c.args.rows.now) (c.args.part.now.first - 1)
    c.links-links.result
    c.links-links.ensures.value).1 c.args.to.now c.args.limit
    c.args.found.now.items added)
