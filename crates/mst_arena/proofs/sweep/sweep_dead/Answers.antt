use Rattle.mst_arena.proofs.Names.{◌≡◌, ◌∙◌, ◌-◌, List, ℕ, length, take, subst, sym, ap, inl, IsPermutation, IsNonDecreasing, AllReached}
use Rattle.mst_arena.proofs.Older.{held_in_front}
use Rattle.mst_arena.proofs.DeskLemmas.{kept_reached}
use Rattle.mst_arena.proofs.Rising.{swept_ranked, all_swept_ranked}
use Rattle.mst_arena.proofs.sweep.sweep_dead.Goals as goal

pub free_unreached-requires-clause-others : goal.free_unreached-requires-clause-others
free_unreached-requires-clause-others g c =
    let kept = c.if-remember.ensures.remembered in
    let ranked : IsPermutation c.args.live.now c.deref.result.now =
    subst (λ (l : List ℕ). IsPermutation c.args.live.now l) (sym c.deref.ensures.value) kept.0
    in
    λ r x at none. swept_ranked c.args.live.now c.deref.result.now ranked x ∙ c.requires.others r x
    at none

pub returns-then-free_unreached-clause-swept : goal.returns-then-free_unreached-clause-swept
returns-then-free_unreached-clause-swept g c =
    let kept = c.if-remember.ensures.remembered in
    let ranked : IsPermutation c.args.live.now c.deref.result.now =
    subst (λ (l : List ℕ). IsPermutation c.args.live.now l) (sym c.deref.ensures.value) kept.0
    in
    c.if-free_unreached.ensures.swept ∙ all_swept_ranked c.args.live.now c.deref.result.now ranked
    c.args.lives.now

pub returns-then-free_unreached-clause-lists : goal.returns-then-free_unreached-clause-lists
returns-then-free_unreached-clause-lists g c =
    let d = c.deref.result.now in
    let kept = c.if-remember.ensures.remembered in
    let ranked : IsPermutation c.args.live.now d =
    subst (λ (l : List ℕ). IsPermutation c.args.live.now l) (sym c.deref.ensures.value) kept.0
    in
    let rising : IsNonDecreasing d = subst (λ (l : List ℕ). IsNonDecreasing l)
    (sym c.deref.ensures.value) kept.1 in
    let held : AllReached (take (length d - 1) d) c.free_unreached.new.lives
    c.free_unreached.new.held.items = c.free_unreached.ensures.older c.if-free_unreached.true
    (held_in_front c.args.live.now d c.args.lives.now c.args.held.now.items ranked rising
    c.requires.held) in
    let last : c.pop.new.self.items ≡ take (length d - 1) d =
    c.pop.ensures.rest ∙ ap (λ n. take (n - 1) c.remember.new.last.items)
    (sym c.deref.ensures.len) ∙ ap (take (length d - 1)) (sym c.deref.ensures.value) in
    inl (
      rw last held,
      c.free_unreached.ensures.dead,
      c.free_unreached.ensures.empty,
      c.free_unreached.ensures.dead_room,
      c.free_unreached.ensures.room,
    )

pub returns-else-free_unreached-clause-swept : goal.returns-else-free_unreached-clause-swept
returns-else-free_unreached-clause-swept g c =
    let kept = c.if-remember.ensures.remembered in
    let ranked : IsPermutation c.args.live.now c.deref.result.now =
    subst (λ (l : List ℕ). IsPermutation c.args.live.now l) (sym c.deref.ensures.value) kept.0
    in
    c.if-free_unreached.ensures.swept ∙ all_swept_ranked c.args.live.now c.deref.result.now ranked
    c.args.lives.now

pub returns-else-free_unreached-clause-lists : goal.returns-else-free_unreached-clause-lists
returns-else-free_unreached-clause-lists g c =
    let held : AllReached c.deref.result.now c.free_unreached.new.lives
    c.free_unreached.new.held.items = kept_reached c.deref.result.now c.args.lives.now
    c.free_unreached.new.lives c.free_unreached.new.held.items c.free_unreached.ensures.swept
    c.free_unreached.ensures.dead in
    inl (
      rw c.deref.ensures.value at held,
      c.free_unreached.ensures.dead,
      c.free_unreached.ensures.empty,
      c.free_unreached.ensures.dead_room,
      c.free_unreached.ensures.room,
    )

pub free_unreached-requires-clause-rising : goal.free_unreached-requires-clause-rising
free_unreached-requires-clause-rising g c =
    λ _. subst (λ (l : List ℕ). IsNonDecreasing l) (sym c.deref.ensures.value)
    c.if-remember.ensures.remembered.1
