use Rattle.std.proofs.Common.{List, Bor, Less, Equal, Greater, sym, subst}
use Rattle.mst_key.specs.declared.history.Edit.{Edit}
use Rattle.mst_key.specs.History.{key_of}
use Rattle.mst_edits.specs.Listed.{listed}
use Rattle.mst_edits.proofs.Merges.{Merges, merges-begin}
use Rattle.mst_edits.proofs.MergeSteps.{step_last, step_less, step_equal, step_greater, merged_rises, merged_leaves}
use Rattle.mst_edits.proofs.Parts.{falls_left, falls_right, order_of}
use Rattle.mst_edits.proofs.merging.merged.Goals as goal

pub loop-right-init : goal.loop-right-init
loop-right-init g c =
    let F : List Edit = listed c.args.first.now in
    let S : List Edit = listed c.args.second.now in
    subst (λ (z : List (Bor Edit)). Merges F S (listed z) F S) (sym c.in_ok-all.ensures.items)
    (merges-begin F S c.requires.first c.requires.second)

pub loop-right-smaller-then-left-lt1 : goal.loop-right-smaller-then-left-lt1
loop-right-smaller-then-left-lt1 g c =
    falls_right c.loop-right.left.now c.loop-right.right.now c.in-len1-up.len_at_least

pub loop-right-preserved-then-left-lt1 : goal.loop-right-preserved-then-left-lt1
loop-right-preserved-then-left-lt1 g c =
    step_last c.args.first.now c.args.second.now c.loop-right.all.items c.push.new.self.items
    c.loop-right.left.now c.loop-right.right.now c.later-item.result c.in-len1-up.len_at_least
    c.later-item.is c.loop-right.invariant c.in-empty.len_below c.in_ok-push-in-empty.ensures.items

pub loop-right-smaller-in-Less : goal.loop-right-smaller-in-Less
loop-right-smaller-in-Less g c =
    falls_left c.loop-right.left.now c.loop-right.right.now c.in-len1-up-left.len_at_least

pub loop-right-preserved-in-Less : goal.loop-right-preserved-in-Less
loop-right-preserved-in-Less g c =
    step_less c.args.first.now c.args.second.now c.loop-right.all.items
    c.push-in-Less.new.self.items c.loop-right.left.now c.loop-right.right.now c.later-item.result
    c.in-len1-up.len_at_least
    c.later-item.is c.loop-right.invariant c.earlier-item.result c.in-len1-up-left.len_at_least
    c.earlier-item.is
    (order_of c.key.result.now c.key-in-len1-up-left.result.now (key_of c.earlier-item.result.now)
    (key_of c.later-item.result.now) c.cmp.result Less c.key.ensures.key
    c.key-in-len1-up-left.ensures.key c.cmp.ensures c.in-Less.is)
    c.in_ok-push-in-Less.ensures.items

pub loop-right-smaller-in-Equal : goal.loop-right-smaller-in-Equal
loop-right-smaller-in-Equal g c =
    falls_left c.loop-right.left.now c.loop-right.right.now c.in-len1-up-left.len_at_least

pub loop-right-preserved-in-Equal : goal.loop-right-preserved-in-Equal
loop-right-preserved-in-Equal g c =
    step_equal c.args.first.now c.args.second.now c.loop-right.all.items c.loop-right.all.items
    c.loop-right.left.now c.loop-right.right.now c.later-item.result c.in-len1-up.len_at_least
    c.later-item.is c.loop-right.invariant c.earlier-item.result c.in-len1-up-left.len_at_least
    c.earlier-item.is
    (order_of c.key.result.now c.key-in-len1-up-left.result.now (key_of c.earlier-item.result.now)
    (key_of c.later-item.result.now) c.cmp.result Equal c.key.ensures.key
    c.key-in-len1-up-left.ensures.key c.cmp.ensures c.in-Equal.is)

pub loop-right-smaller : goal.loop-right-smaller
loop-right-smaller g c =
    falls_right c.loop-right.left.now c.loop-right.right.now c.in-len1-up.len_at_least

pub loop-right-preserved : goal.loop-right-preserved
loop-right-preserved g c =
    step_greater c.args.first.now c.args.second.now c.loop-right.all.items
    c.push-in-Greater.new.self.items c.loop-right.left.now c.loop-right.right.now
    c.later-item.result c.in-len1-up.len_at_least c.later-item.is c.loop-right.invariant
    c.earlier-item.result c.in-len1-up-left.len_at_least c.earlier-item.is
    (order_of c.key.result.now c.key-in-len1-up-left.result.now (key_of c.earlier-item.result.now)
    (key_of c.later-item.result.now) c.cmp.result Greater c.key.ensures.key
    c.key-in-len1-up-left.ensures.key c.cmp.ensures c.in-Greater.is)
    c.in_ok-push-in-Greater.ensures.items

pub returns-clause-rises : goal.returns-clause-rises
returns-clause-rises g c =
    merged_rises c.args.first.now c.args.second.now c.loop-right.all.items
    c.extend_from_slice.new.self.items c.loop-right.left.now c.loop-right.right.now
    c.in_default.len_below c.in_ok-extend_from_slice.ensures.items c.loop-right.invariant

pub returns-clause-leaves : goal.returns-clause-leaves
returns-clause-leaves g c =
    merged_leaves c.args.first.now c.args.second.now c.loop-right.all.items
    c.extend_from_slice.new.self.items c.loop-right.left.now c.loop-right.right.now
    c.in_default.len_below c.in_ok-extend_from_slice.ensures.items c.loop-right.invariant
