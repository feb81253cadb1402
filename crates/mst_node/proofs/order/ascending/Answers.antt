use Rattle.mst_node.proofs.Names.{common_steps, ◌≡◌, ℕ, ◌+◌, ◌-◌, get_or, sym, ap, ◌∙◌, arith, rules, Pair, key_cmp}
use Rattle.mst_node.proofs.RisingKeys.{rising-at, rising-more}
use Rattle.mst_node.proofs.order.ascending.Goals as goal

pub returns-then-not-precedes : goal.returns-then-not-precedes
returns-then-not-precedes c =
    let m = c.args.pairs.now in
    let i = c.loop-i.i in
    let x = c.index-pairs-i.result in
    let y = c.index-pairs-i-in-loop-i.result in
    let e : i ≡ i - 1 + 1 = omega arith in
    let js : y ≡ get_or m (i - 1 + 1) y = c.index-pairs-i-in-loop-i.is
    ∙ ap (λ (j : ℕ). get_or m j y) e in
    record {
      rising = (
        λ f. absurd (search rules),
        λ rise. c.if-not-precedes.ensures.less.1
            (ap (λ (u : Pair). key_cmp u.0 (get_or m i y).0) (sym c.index-pairs-i.is)
            ∙ ap (λ (u : Pair). key_cmp x.0 u.0) (sym c.index-pairs-i-in-loop-i.is)
            ∙ rising-at m (i - 1) x y rise (omega arith) c.index-pairs-i.is js),
      );
    }

pub loop-i-preserved : goal.loop-i-preserved
loop-i-preserved c =
    let m = c.args.pairs.now in
    let x = c.index-pairs-i.result in
    let y = c.index-pairs-i-in-loop-i.result in
    rising-more m c.loop-i.i x y c.loop-i.invariant (omega arith) (omega arith) c.index-pairs-i.is
    c.index-pairs-i-in-loop-i.is
    (ap (λ (u : Pair). key_cmp u.0 y.0) c.index-pairs-i.is
    ∙ ap (λ (u : Pair). key_cmp (get_or m (c.loop-i.i - 1) x).0 u.0)
    c.index-pairs-i-in-loop-i.is ∙ c.if-not-precedes.ensures.less.0 (search rules))

pub loop-i-init : goal.loop-i-init
loop-i-init c = search rules

pub overflow_sub-i : goal.overflow_sub-i
overflow_sub-i c = search rules

pub offset_bounds-pairs-i : goal.offset_bounds-pairs-i
offset_bounds-pairs-i c = search rules

pub bounds-pairs-i : goal.bounds-pairs-i
bounds-pairs-i c = search rules

pub offset_bounds-pairs-i-in-loop-i : goal.offset_bounds-pairs-i-in-loop-i
offset_bounds-pairs-i-in-loop-i c = search rules

pub bounds-pairs-i-in-loop-i : goal.bounds-pairs-i-in-loop-i
bounds-pairs-i-in-loop-i c = search rules

pub returns : goal.returns
returns c = grind (arith, common_steps)
