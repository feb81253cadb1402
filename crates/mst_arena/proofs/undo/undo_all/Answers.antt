use Rattle.mst_arena.proofs.Names.{◌≡◌, ◌<◌, ◌≤◌, ◌+◌, ◌++◌, List, ℕ, Bool, length, get_or, sym, ◌∙◌, subst, arith, Some, ap, slice_get, slice_set, slice_get-get_or, Life, Free, is_free}
use Rattle.mst_arena.proofs.UndoLemmas.{Undoing, added, undo_step, undo_end, undo_lists, was_free, stays_free}
use Rattle.mst_arena.proofs.undo.undo_all.Goals as goal

pub loop-row-preserved : goal.loop-row-preserved
loop-row-preserved g c =
    let k = c.loop-row.row in
    let n = c.args.next in
    let start = c.args.lives.now in
    let lives = c.loop-row.lives in
    let was = c.loop-row.invariant in
    let len = c.loop-row.auto.lives in
    let test = c.loop-row-test.true in
    let low : k < length lives = omega (arith, len, test) in
    let x = get_or lives k Free in
    let step = undo_step n k start lives c.loop-row.free c.loop-row.dead.items was.undoing x
    (slice_get-get_or lives k Free low) in
    let y = c.undone-now.result in
    let now : Undoing n (k + 1) start (slice_set lives k y)
    (slice_set c.loop-row.free k (is_free y)) (c.loop-row.dead.items ++ added y k) =
    subst (λ (z : Life). Undoing n (k + 1) start (slice_set lives k z)
    (slice_set c.loop-row.free k (is_free z)) (c.loop-row.dead.items ++ added z k))
    (sym c.undone-now.ensures.undone) step in
    let more = c.note_dead.ensures.len in
    let few = was.few in
    record {
      undoing = subst (λ (f : List Bool). Undoing n (k + 1) start (slice_set lives k y) f
          c.note_dead.new.dead.items) (sym c.note_free.ensures.noted)
          (subst (λ (d : List ℕ). Undoing n (k + 1) start (slice_set lives k y)
          (slice_set c.loop-row.free k (is_free y)) d) (sym c.note_dead.ensures.noted) now);
      few = omega (arith, more, few);
      room = c.note_dead.ensures.room ∙ was.room;
    }

pub returns-clause-undone : goal.returns-clause-undone
returns-clause-undone g c =
    let len = c.loop-row.auto.lives in
    let test = c.loop-row-test.false in
    undo_end c.args.next c.loop-row.row c.args.lives.now c.loop-row.lives c.loop-row.free
    c.loop-row.dead.items c.loop-row.invariant.undoing (omega (arith, len, test))

pub returns-clause-dead : goal.returns-clause-dead
returns-clause-dead g c =
    let len = c.loop-row.auto.lives in
    let test = c.loop-row-test.false in
    undo_lists c.args.next c.loop-row.row c.args.lives.now c.loop-row.lives c.loop-row.free
    c.loop-row.dead.items c.loop-row.invariant.undoing (omega (arith, len, test))

pub note_free-requires-clause-was : goal.note_free-requires-clause-was
note_free-requires-clause-was g c =
    let k = c.loop-row.row in
    let lives = c.loop-row.lives in
    let len = c.loop-row.auto.lives in
    let test = c.loop-row-test.true in
    let low : k < length lives = omega (arith, len, test) in
    was_free c.args.next k c.args.lives.now lives c.loop-row.free c.loop-row.dead.items
    c.loop-row.invariant.undoing (get_or lives k Free) (slice_get-get_or lives k Free low)

pub note_free-requires-clause-more : goal.note_free-requires-clause-more
note_free-requires-clause-more g c =
    λ free. ap is_free c.undone-now.ensures.undone
    ∙ stays_free c.args.next (get_or c.loop-row.lives c.loop-row.row Free) free

pub returns-clause-free : goal.returns-clause-free
returns-clause-free g c =
    c.loop-row.invariant.undoing.free_is

pub returns-clause-room : goal.returns-clause-room
returns-clause-room g c =
    c.loop-row.invariant.room
