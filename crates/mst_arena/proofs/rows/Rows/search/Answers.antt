use Rattle.mst_arena.proofs.Names.{◌-◌, IsSome, refl, sym, ◌∙◌, ap, subst, arith, Content, part_at, keyed_links, entry_way}
use Rattle.mst_arena.proofs.StopLemmas.{from_first, entry_met, in_gap, at_key, past_entry, behind_all}
use Rattle.mst_arena.proofs.rows.Rows.search.Goals as goal

pub loop-passed-init : goal.loop-passed-init
loop-passed-init g c =
    record { same = refl; goes = from_first _ _ c.args.count c.args.first c.requires.there }

pub overflow_sub-link : goal.overflow_sub-link
overflow_sub-link g c =
    omega (arith, (entry_met c.loop-passed.invariant.goes c.loop-passed-test.true).some)

pub way-requires : goal.way-requires
way-requires g c = record {
  there =
      subst (λ (x : Content). IsSome (part_at keyed_links x (c.loop-passed.link - 1)))
      (sym (ap g.Self.Rows.content c.loop-passed.invariant.same))
      (entry_met c.loop-passed.invariant.goes c.loop-passed-test.true).there;
}

pub returns-in-Child-clause-stop : goal.returns-in-Child-clause-stop
returns-in-Child-clause-stop g c =
    in_gap c.loop-passed.invariant.goes c.loop-passed-test.true
    (ap (λ (x : Content). part_at (entry_way c.args.key.now) x (c.loop-passed.link - 1))
    (sym (ap g.Self.Rows.content c.loop-passed.invariant.same)) ∙ c.way.ensures.way) c.in-Child.is

pub returns-in-Here-clause-stop : goal.returns-in-Here-clause-stop
returns-in-Here-clause-stop g c =
    at_key c.loop-passed.invariant.goes c.loop-passed-test.true
    (ap (λ (x : Content). part_at (entry_way c.args.key.now) x (c.loop-passed.link - 1))
    (sym (ap g.Self.Rows.content c.loop-passed.invariant.same)) ∙ c.way.ensures.way) c.in-Here.is

pub loop-passed-preserved : goal.loop-passed-preserved
loop-passed-preserved g c = record {
  same = c.way.ensures.same ∙ c.loop-passed.invariant.same;
  goes = record {
    some = c.requires.there;
    onward = past_entry c.loop-passed.invariant.goes c.loop-passed-test.true
        (ap (λ (x : Content). part_at (entry_way c.args.key.now) x (c.loop-passed.link - 1))
        (sym (ap g.Self.Rows.content c.loop-passed.invariant.same)) ∙ c.way.ensures.way)
        c.in-Next.is;
  };
}

pub returns-clause-stop : goal.returns-clause-stop
returns-clause-stop g c =
    behind_all c.loop-passed.invariant.goes (omega (arith, c.loop-passed-test.false))
