use Rattle.mst_words.proofs.Names.{◌-◌, refl, ◌∙◌, arith, entry_met}
use Rattle.mst_arena.proofs.StopLemmas.{from_first, behind_all}
use Rattle.mst_words.proofs.WordWays.{may_be_read, met, loaded_still, stops_before, stops_at, goes_on}
use Rattle.mst_words.proofs.board.Board.search.Goals as goal

pub loop-passed-init : goal.loop-passed-init
loop-passed-init g c = record {
  table = refl;
  id = refl;
  me = refl;
  narrow = c.ranges.first.fits;
  goes = from_first _ _ c.args.count c.args.first c.requires.there;
}

pub order-requires-clause-some : goal.order-requires-clause-some
order-requires-clause-some g c =
    (entry_met c.loop-passed.invariant.goes c.loop-passed-test.true).some

pub order-requires-clause-narrow : goal.order-requires-clause-narrow
order-requires-clause-narrow g c = omega (arith, c.loop-passed.invariant.narrow)

pub order-requires-clause-readable : goal.order-requires-clause-readable
order-requires-clause-readable g c =
    may_be_read c.loop-passed.invariant.goes c.loop-passed-test.true c.loop-passed.invariant.me

-- ---- the key is below that of the entry

pub overflow_cast-result : goal.overflow_cast-result
overflow_cast-result g c = omega (arith, c.loop-passed.invariant.narrow)

pub linked_word-requires-clause-some : goal.linked_word-requires-clause-some
linked_word-requires-clause-some g c =
    (entry_met c.loop-passed.invariant.goes c.loop-passed-test.true).some

pub linked_word-requires-clause-narrow : goal.linked_word-requires-clause-narrow
linked_word-requires-clause-narrow g c = omega (arith, c.loop-passed.invariant.narrow)

pub linked_word-requires-clause-readable : goal.linked_word-requires-clause-readable
linked_word-requires-clause-readable g c =
    may_be_read c.loop-passed.invariant.goes c.loop-passed-test.true
    (c.order.ensures.same.2 ∙ c.loop-passed.invariant.me)

pub overflow_cast-result-in-Less : goal.overflow_cast-result-in-Less
overflow_cast-result-in-Less g c =
    let is = loaded_still (c.order.ensures.same.2 ∙ c.loop-passed.invariant.me)
    (c.loop-passed.link - 1) 1 c.linked_word.ensures.word in
    let small = (met c.loop-passed.invariant.goes c.loop-passed-test.true c.order.ensures.limits
    c.order.ensures.range c.loop-passed.invariant.me c.order.ensures.order).child in
    omega (arith, is, small)

pub returns-in-Less-clause-stop : goal.returns-in-Less-clause-stop
returns-in-Less-clause-stop g c =
    stops_before c.loop-passed.invariant.goes c.loop-passed-test.true c.order.ensures.limits
    c.order.ensures.range c.loop-passed.invariant.me c.order.ensures.order c.in-Less.is
    (loaded_still (c.order.ensures.same.2 ∙ c.loop-passed.invariant.me) (c.loop-passed.link - 1) 1
    c.linked_word.ensures.word)

-- ---- it is that key

pub overflow_cast-result-in-Equal : goal.overflow_cast-result-in-Equal
overflow_cast-result-in-Equal g c = omega (arith, c.loop-passed.invariant.narrow)

pub returns-in-Equal-clause-stop : goal.returns-in-Equal-clause-stop
returns-in-Equal-clause-stop g c =
    stops_at c.loop-passed.invariant.goes c.loop-passed-test.true c.order.ensures.limits
    c.order.ensures.range c.loop-passed.invariant.me c.order.ensures.order c.in-Equal.is

-- ---- it is above that key

pub linked_word-link-requires-clause-some : goal.linked_word-link-requires-clause-some
linked_word-link-requires-clause-some g c =
    (entry_met c.loop-passed.invariant.goes c.loop-passed-test.true).some

pub linked_word-link-requires-clause-narrow : goal.linked_word-link-requires-clause-narrow
linked_word-link-requires-clause-narrow g c = omega (arith, c.loop-passed.invariant.narrow)

pub linked_word-link-requires-clause-readable : goal.linked_word-link-requires-clause-readable
linked_word-link-requires-clause-readable g c =
    may_be_read c.loop-passed.invariant.goes c.loop-passed-test.true
    (c.order.ensures.same.2 ∙ c.loop-passed.invariant.me)

pub loop-passed-preserved : goal.loop-passed-preserved
loop-passed-preserved g c =
    let l = c.loop-passed.invariant in
    let same = c.order.ensures.same.2 ∙ l.me in
    let is = loaded_still same (c.loop-passed.link - 1) 2 c.linked_word-link.ensures.word in
    let small = (met l.goes c.loop-passed-test.true c.order.ensures.limits
    c.order.ensures.range l.me c.order.ensures.order).next in
    record {
      table = c.linked_word-link.ensures.same.0 ∙ c.order.ensures.same.0 ∙ l.table;
      id = c.linked_word-link.ensures.same.1 ∙ c.order.ensures.same.1 ∙ l.id;
      me = c.linked_word-link.ensures.same.2 ∙ same;
      narrow = omega (arith, is, small);
      goes = goes_on l.goes c.loop-passed-test.true c.order.ensures.limits
          c.order.ensures.range l.me c.order.ensures.order c.in-Greater.is is;
    }

pub returns-clause-stop : goal.returns-clause-stop
returns-clause-stop g c =
    behind_all c.loop-passed.invariant.goes (omega (arith, c.loop-passed-test.false))
