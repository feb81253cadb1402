use Rattle.mst_arena.proofs.Names.{◌≡◌, ◌∙◌, true, false, rules, arith, nat_lt, nat_tests}
use Rattle.std.proofs.Common.{of_calls}
use Rattle.std.specs.Prelude.{length}
use Rattle.std.proofs.lemmas.List.Sorted.{IsPartitionPoint-from_clause, IsPartitionedBy-ltb}
use Rattle.mst_arena.proofs.Rising.{first_decides}
use Rattle.mst_arena.proofs.sweep.is_reached.Goals as goal

pub returns-then-first-live : goal.returns-then-first-live
returns-then-first-live c =
    let rises = c.requires.rising c.if-not-rising.false in
    let point = IsPartitionPoint-from_clause (λ v. nat_lt v c.args.birth) c.args.live.now
    c.partition_point-first.result c.partition_point-first.ensures.partitioned
    (IsPartitionedBy-ltb (λ v. v) c.args.live.now c.args.birth rises)
    (λ a r f' k. search (rules, of_calls)) in
    let some : nat_lt c.partition_point-first.result (length c.args.live.now) ≡ true =
    grind (arith, nat_tests, c.if-first-live.true) in
    let e = first_decides c.args.birth c.args.death c.args.live.now c.partition_point-first.result
    rises c.partition_point-first.ensures.bound point in
    record { reached = rw some at e }

pub returns-else-first-live : goal.returns-else-first-live
returns-else-first-live c =
    let rises = c.requires.rising c.if-not-rising.false in
    let point = IsPartitionPoint-from_clause (λ v. nat_lt v c.args.birth) c.args.live.now
    c.partition_point-first.result c.partition_point-first.ensures.partitioned
    (IsPartitionedBy-ltb (λ v. v) c.args.live.now c.args.birth rises)
    (λ a r f' k. search (rules, of_calls)) in
    let none : nat_lt c.partition_point-first.result (length c.args.live.now) ≡ false =
    grind (arith, nat_tests, c.if-first-live.false) in
    let e = first_decides c.args.birth c.args.death c.args.live.now c.partition_point-first.result
    rises c.partition_point-first.ensures.bound point in
    record { reached = none ∙ (rw none at e) }

pub any-requires-clause-can : goal.any-requires-clause-can
any-requires-clause-can c = search rules

pub any-requires-clause-finite : goal.any-requires-clause-finite
any-requires-clause-finite c = search rules

pub any-requires-clause-callable : goal.any-requires-clause-callable
any-requires-clause-callable c = search rules

pub offset_bounds-live-first : goal.offset_bounds-live-first
offset_bounds-live-first c = search rules

pub bounds-live-first : goal.bounds-live-first
bounds-live-first c = search rules
