use Rattle.mst_arena.proofs.Names.{◌≡◌, List, ℕ, [], length, get_or, sym, ◌∙◌, subst, arith, Some, length-set, slice_get-get_or, and_parts, append-nil, slice_get, Free, swept_life}
use Rattle.std.proofs.Math.ListN.{set}
use Rattle.mst_arena.proofs.SweepLemmas.{Sweeping, sweep_end, dead_there, not_free, sweep_free, sweep_keep, older_free, older_keep, stays_dead, held_room, length_nil}
use Rattle.mst_arena.proofs.sweep.free_unreached.Goals as goal

pub slice_copy_out-after_sweep : goal.slice_copy_out-after_sweep
slice_copy_out-after_sweep g c =
    dead_there _ _ _ _ _ _ _
    (subst (λ (d : List ℕ). Sweeping c.args.live.now c.args.lives.now c.loop-row.lives
    c.loop-row.free d c.loop-row.held.items) c.in-Some.ensures.items
    c.loop-row.invariant.sweeping)

pub bounds-lives-row : goal.bounds-lives-row
bounds-lives-row g c =
    dead_there _ _ _ _ _ _ _
    (subst (λ (d : List ℕ). Sweeping c.args.live.now c.args.lives.now c.loop-row.lives
    c.loop-row.free d c.loop-row.held.items) c.in-Some.ensures.items
    c.loop-row.invariant.sweeping)

pub put-requires : goal.put-requires
put-requires g c =
    let s =
    subst (λ (d : List ℕ). Sweeping c.args.live.now c.args.lives.now c.loop-row.lives
    c.loop-row.free d c.loop-row.held.items) c.in-Some.ensures.items
    c.loop-row.invariant.sweeping in
    let x = get_or c.loop-row.lives c.in-Some.row Free in
    let at : slice_get c.loop-row.lives c.in-Some.row ≡ Some x =
    slice_get-get_or c.loop-row.lives c.in-Some.row Free (dead_there _ _ _ _ _ _ _ s) in
    record { out = not_free _ _ _ _ _ _ c.in-Some.row x s at }

pub loop-row-preserved-in-Free : goal.loop-row-preserved-in-Free
loop-row-preserved-in-Free g c =
    let s =
    subst (λ (d : List ℕ). Sweeping c.args.live.now c.args.lives.now c.loop-row.lives
    c.loop-row.free d c.loop-row.held.items) c.in-Some.ensures.items
    c.loop-row.invariant.sweeping in
    let x = get_or c.loop-row.lives c.in-Some.row Free in
    let at : slice_get c.loop-row.lives c.in-Some.row ≡ Some x =
    slice_get-get_or c.loop-row.lives c.in-Some.row Free (dead_there _ _ _ _ _ _ _ s) in
    let is : swept_life c.args.live.now x ≡ Free = sym c.after_sweep-life.ensures.swept
    ∙ c.in-Free.is in
    let len : length (set c.loop-row.lives c.in-Some.row c.after_sweep-life.result) ≡ length
    c.loop-row.lives = length-set c.loop-row.lives c.in-Some.row c.after_sweep-life.result in
    record {
      sweeping =
          rw (c.in-Free.is, c.put.ensures.put) (sweep_free _ _ _ _ _ _ c.in-Some.row x s at is);
      older =
          λ is_older start. rw c.in-Free.is
          (older_free _ _ _ _ _ _ _ c.in-Some.row x s at
          (c.loop-row.invariant.older is_older start));
      room = omega (arith, len, c.loop-row.invariant.room);
      held_cap = c.loop-row.invariant.held_cap;
      dead_cap = c.in-Some.ensures.capacity ∙ c.loop-row.invariant.dead_cap;
    }

pub push_reserved-requires : goal.push_reserved-requires
push_reserved-requires g c =
    let s =
    subst (λ (d : List ℕ). Sweeping c.args.live.now c.args.lives.now c.loop-row.lives
    c.loop-row.free d c.loop-row.held.items) c.in-Some.ensures.items
    c.loop-row.invariant.sweeping in
    omega (arith, held_room _ _ _ _ _ _ c.in-Some.row s, c.loop-row.invariant.room)

pub loop-row-preserved : goal.loop-row-preserved
loop-row-preserved g c =
    let s =
    subst (λ (d : List ℕ). Sweeping c.args.live.now c.args.lives.now c.loop-row.lives
    c.loop-row.free d c.loop-row.held.items) c.in-Some.ensures.items
    c.loop-row.invariant.sweeping in
    let x = get_or c.loop-row.lives c.in-Some.row Free in
    let at : slice_get c.loop-row.lives c.in-Some.row ≡ Some x =
    slice_get-get_or c.loop-row.lives c.in-Some.row Free (dead_there _ _ _ _ _ _ _ s) in
    let is : swept_life c.args.live.now x ≡ c.after_sweep-life.result =
    sym c.after_sweep-life.ensures.swept in
    let len : length (set c.loop-row.lives c.in-Some.row c.after_sweep-life.result) ≡ length
    c.loop-row.lives = length-set c.loop-row.lives c.in-Some.row c.after_sweep-life.result in
    record {
      sweeping =
          rw c.push_reserved.ensures.items
          (sweep_keep _ _ _ _ _ _ c.in-Some.row x c.after_sweep-life.result s at
          is c.in_default-life.not-Free);
      older = λ is_older start.
          let both = and_parts c.loop-row.older c.is_older_kept-older.result is_older in
          let dead = stays_dead _ _ _ _ _ _ c.in-Some.row x c.after_sweep-life.result s at
          is c.in_default-life.not-Free in
          rw c.push_reserved.ensures.items
          (older_keep _ _ _ _ _ _ _ c.in-Some.row x c.after_sweep-life.result s at
          (sym (c.is_older_kept-older.ensures.kept dead) ∙ both.1)
          (c.loop-row.invariant.older both.0 start));
      room = omega (arith, len, c.push_reserved.ensures.capacity, c.loop-row.invariant.room);
      held_cap = c.push_reserved.ensures.capacity ∙ c.loop-row.invariant.held_cap;
      dead_cap = c.in-Some.ensures.capacity ∙ c.loop-row.invariant.dead_cap;
    }

pub returns-clause-swept : goal.returns-clause-swept
returns-clause-swept g c =
    let none : c.loop-row.dead.items ≡ [] = c.in_default.ensures.items
    ∙ append-nil c.pop.new.self.items ∙ length_nil c.pop.new.self.items
    (omega (arith, c.in_default.ensures.cases)) in
    sweep_end _ _ _ _ _
    (subst (λ (d : List ℕ). Sweeping c.args.live.now c.args.lives.now c.loop-row.lives
    c.loop-row.free d c.loop-row.held.items) none c.loop-row.invariant.sweeping)
