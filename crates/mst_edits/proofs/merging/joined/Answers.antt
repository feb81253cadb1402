use Rattle.std.proofs.Common.{List, Less, Equal, Greater, refl, sym, subst}
use Rattle.mst_key.specs.History.{key_of}
use Rattle.mst_key.specs.Map.{Pair}
use Rattle.mst_edits.specs.Listed.{listed}
use Rattle.mst_edits.proofs.Joins.{Joins, joins-begin}
use Rattle.mst_edits.proofs.JoinSteps.{step_added, step_kept, step_passed, step_made, joined_is}
use Rattle.mst_edits.proofs.Parts.{falls_left, falls_right, order_of}
use Rattle.mst_edits.proofs.merging.joined.Goals as goal

pub loop-left-init : goal.loop-left-init
loop-left-init g c =
    subst (λ (z : List Pair). Joins c.args.pairs.now (listed c.args.edits.now) z c.args.pairs.now
    (listed c.args.edits.now)) (sym c.new-all.ensures.items)
    (joins-begin c.args.pairs.now (listed c.args.edits.now) c.requires.ascending c.requires.rising)

pub loop-left-smaller-then-rest-lt1 : goal.loop-left-smaller-then-rest-lt1
loop-left-smaller-then-rest-lt1 g c =
    falls_right c.loop-left.rest.now c.loop-left.left.now c.in-len1-up.len_at_least

pub loop-left-preserved-then-rest-lt1 : goal.loop-left-preserved-then-rest-lt1
loop-left-preserved-then-rest-lt1 g c =
    step_added c.args.pairs.now c.args.edits.now c.loop-left.all.items c.push_put.new.list.items
    c.loop-left.rest.now c.loop-left.left.now c.loop-left.invariant c.edit-item.result
    c.in-len1-up.len_at_least c.edit-item.is c.in-empty.len_below
    c.in_ok-push_put-in-empty.ensures.items

pub loop-left-smaller-in-Less : goal.loop-left-smaller-in-Less
loop-left-smaller-in-Less g c =
    falls_left c.loop-left.rest.now c.loop-left.left.now c.in-len1-up-rest.len_at_least

pub loop-left-preserved-in-Less : goal.loop-left-preserved-in-Less
loop-left-preserved-in-Less g c =
    step_kept c.args.pairs.now c.args.edits.now c.loop-left.all.items c.push.new.self.items
    c.loop-left.rest.now c.loop-left.left.now c.loop-left.invariant c.edit-item.result
    c.in-len1-up.len_at_least c.edit-item.is c.pair-item.result
    c.in-len1-up-rest.len_at_least c.pair-item.is
    (order_of c.pair-item.result.0 c.key.result.now c.pair-item.result.0
    (key_of c.edit-item.result.now) c.cmp.result Less refl c.key.ensures.key c.cmp.ensures
    c.in-Less.is) c.copy_of.result c.copy_of.ensures.same c.in_ok-push-in-Less.ensures.items

pub loop-left-smaller-in-Equal : goal.loop-left-smaller-in-Equal
loop-left-smaller-in-Equal g c =
    falls_left c.loop-left.rest.now c.loop-left.left.now c.in-len1-up-rest.len_at_least

pub loop-left-preserved-in-Equal : goal.loop-left-preserved-in-Equal
loop-left-preserved-in-Equal g c =
    step_passed c.args.pairs.now c.args.edits.now c.loop-left.all.items c.loop-left.all.items
    c.loop-left.rest.now c.loop-left.left.now c.loop-left.invariant c.edit-item.result
    c.in-len1-up.len_at_least c.edit-item.is c.pair-item.result
    c.in-len1-up-rest.len_at_least c.pair-item.is
    (order_of c.pair-item.result.0 c.key.result.now c.pair-item.result.0
    (key_of c.edit-item.result.now) c.cmp.result Equal refl c.key.ensures.key c.cmp.ensures
    c.in-Equal.is)

pub loop-left-smaller : goal.loop-left-smaller
loop-left-smaller g c =
    falls_right c.loop-left.rest.now c.loop-left.left.now c.in-len1-up.len_at_least

pub loop-left-preserved : goal.loop-left-preserved
loop-left-preserved g c =
    step_made c.args.pairs.now c.args.edits.now c.loop-left.all.items
    c.push_put-in-Greater.new.list.items c.loop-left.rest.now c.loop-left.left.now
    c.loop-left.invariant c.edit-item.result
    c.in-len1-up.len_at_least c.edit-item.is c.pair-item.result
    c.in-len1-up-rest.len_at_least c.pair-item.is
    (order_of c.pair-item.result.0 c.key.result.now c.pair-item.result.0
    (key_of c.edit-item.result.now) c.cmp.result Greater refl c.key.ensures.key c.cmp.ensures
    c.in-Greater.is) c.in_ok-push_put-in-Greater.ensures.items

pub returns : goal.returns
returns g c = record {
  pairs = joined_is c.args.pairs.now c.args.edits.now c.loop-left.all.items
      c.push_all.new.list.items c.loop-left.rest.now c.loop-left.left.now c.loop-left.invariant
      c.in_default.len_below c.in_ok-push_all.ensures.items;
}
