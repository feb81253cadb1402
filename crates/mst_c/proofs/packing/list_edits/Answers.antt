use Rattle.mst_c.proofs.Names.{rules, ◌≡◌, ◌<◌, List, length, sym, subst, Edit}
use Rattle.mst_c.proofs.Readings.{Reading, begins, next, never_bad, ends, some}
use Rattle.mst_c.proofs.packing.list_edits.Goals as goal

pub loop-rest-init : goal.loop-rest-init
loop-rest-init c = subst (λ (es : List Edit). Reading c.args.packed.now es c.args.packed.now)
    (sym c.in_ok-list.ensures.items) (begins c.args.packed.now)

pub unreachable-requires : goal.unreachable-requires
unreachable-requires c =
    let left : 0 < length c.loop-rest.rest.now = search rules in
    never_bad c.args.packed.now c.loop-rest.list.items c.loop-rest.rest.now c.loop-rest.invariant
    c.in_default.field-0 c.in_default.ensures.fault left c.requires.edits.0 c.requires.edits.1

-- there is an edit, so the buffer has some
pub returns-in_err-push-clause-memory : goal.returns-in_err-push-clause-memory
returns-in_err-push-clause-memory c =
    let more : 0 < length c.requires.edits.0 = some c.args.packed.now c.loop-rest.list.items
    c.loop-rest.rest.now c.loop-rest.invariant c.in-Ok.edit c.in-Ok.behind.now
    c.in-Ok.ensures.ok c.in-Ok.ensures.less c.requires.edits.0 c.requires.edits.1 in
    search (rules, more, c.requires.edits.2)

pub loop-rest-preserved : goal.loop-rest-preserved
loop-rest-preserved c =
    subst (λ (es : List Edit). Reading c.args.packed.now es c.in-Ok.behind.now)
    (sym c.in_ok-push.ensures.items)
    (next c.args.packed.now c.loop-rest.list.items c.loop-rest.rest.now c.loop-rest.invariant
    c.in-Ok.edit c.in-Ok.behind.now c.in-Ok.ensures.ok c.in-Ok.ensures.less)

pub returns-clause-ok : goal.returns-clause-ok
returns-clause-ok c =
    let none : length c.loop-rest.rest.now ≡ 0 = search rules in
    ends c.args.packed.now c.loop-rest.list.items c.loop-rest.rest.now c.loop-rest.invariant none
