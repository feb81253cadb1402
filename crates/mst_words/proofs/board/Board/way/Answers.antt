use Rattle.mst_words.proofs.Names.{◌≡◌, ◌+◌, ◌-◌, ◌∙◌, ℕ, List, Option, ap, subst, arith, Me, View, known_row, may_read, words_order}
use Rattle.mst_arena.specs.Lives as lives
use Rattle.std.specs.declared.cmp.Ordering.{Ordering}
use Rattle.mst_words.proofs.ShortRows.{key_of}
use Rattle.mst_words.proofs.WordWays.{WayAt, way_of_row, way_to_child, way_here, way_to_next}
use Rattle.mst_words.proofs.board.Board.way.Given.{Over}
use Rattle.mst_words.proofs.board.Board.way.Goals.{After-word, After-word-in-Greater}
use Rattle.mst_words.proofs.board.Board.way.Goals as goal

pub order-requires-clause-readable : goal.order-requires-clause-readable
order-requires-clause-readable g c =
    let at : c.args.row + 1 - 1 ≡ c.args.row = omega arith in
    ap (may_read c.args.seat.now.me.0) at
    ∙ (key_of c.args.seat.now.me.0 c.args.row c.requires.there).readable

-- the order of the key and the entry's
by_row : {o : Ordering} (k : List ℕ) (v : View) (x : ℕ)
    → o ≡ words_order k (known_row v (x + 1 - 1)) → o ≡ words_order k (known_row v x)
by_row {o} k v x order =
    let at : x + 1 - 1 ≡ x = omega arith in
    subst (λ (n : ℕ). o ≡ words_order k (known_row v n)) at order

-- ---- the key is below that of the entry

module _ (g : Over) (c : goal.After-word g) where
  before : WayAt c.args.key.now c.args.seat.now.me.0 c.args.row
  before = way_of_row c.args.key.now c.args.seat.now.me.0 c.args.row c.order.ensures.limits
      c.order.ensures.range c.requires.there

  child_is : c.word.result ≡ known_row c.args.seat.now.me.0 c.args.row 1
  child_is = c.word.ensures.word
      ∙ ap (λ (m : Me (Option lives.State) View). known_row m.0 c.args.row 1)
      c.order.ensures.same.2

pub overflow_cast-result : goal.overflow_cast-result
overflow_cast-result g c = omega (arith, child_is g c, (before g c).child)

pub returns-in-Less-clause-way : goal.returns-in-Less-clause-way
returns-in-Less-clause-way g c =
    way_to_child (before g c)
    (by_row c.args.key.now c.args.seat.now.me.0 c.args.row c.order.ensures.order) c.in-Less.is
    (child_is g c)

-- ---- it is that key

pub returns-in-Equal-clause-way : goal.returns-in-Equal-clause-way
returns-in-Equal-clause-way g c =
    way_here (way_of_row c.args.key.now c.args.seat.now.me.0 c.args.row c.order.ensures.limits
    c.order.ensures.range c.requires.there)
    (by_row c.args.key.now c.args.seat.now.me.0 c.args.row c.order.ensures.order) c.in-Equal.is

-- ---- it is above that key

module _ (g : Over) (c : goal.After-word-in-Greater g) where
  behind : WayAt c.args.key.now c.args.seat.now.me.0 c.args.row
  behind = way_of_row c.args.key.now c.args.seat.now.me.0 c.args.row c.order.ensures.limits
      c.order.ensures.range c.requires.there

  next_is : c.word-in-Greater.result ≡ known_row c.args.seat.now.me.0 c.args.row 2
  next_is = c.word-in-Greater.ensures.word
      ∙ ap (λ (m : Me (Option lives.State) View). known_row m.0 c.args.row 2)
      c.order.ensures.same.2

pub overflow_cast-result-in-Greater : goal.overflow_cast-result-in-Greater
overflow_cast-result-in-Greater g c = omega (arith, next_is g c, (behind g c).next)

pub returns-in-Greater-clause-way : goal.returns-in-Greater-clause-way
returns-in-Greater-clause-way g c =
    way_to_next (behind g c)
    (by_row c.args.key.now c.args.seat.now.me.0 c.args.row c.order.ensures.order) c.in-Greater.is
    (next_is g c)
