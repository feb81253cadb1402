use Rattle.mst_load.proofs.Names.{vec_items, vec_len, rules, arith, below_more, ap, sym, subst, ◌∙◌, Known, IsWorkerOf}
use Rattle.std.specs.Prelude.{◌≡◌, ℕ, ◌+◌, get_or}
use Rattle.mst_load.proofs.running.join_all.Goals as goal

-- what a thread gives back is of the store, by its type, and has the number that it promised
pub loop-handle-preserved : goal.loop-handle-preserved
loop-handle-preserved g c =
    let was = c.loop-handle.invariant in let done : ℕ = vec_len c.loop-handle.passes in let pushed =
    c.push in
    let grown : vec_len pushed.new.self ≡ done + 1 = search rules in
    let own : IsWorkerOf g.C.Course.store g.C.Course.writers g.C.Course.calls
    c.join-pass.result.pass = search rules in
    let next : c.in-Some.handle.promise.number ≡ done + 1 = let h = was.4 0 c.in-Some.handle in
    grind rules in
    let numbered : c.join-pass.result.pass.number ≡ done + 1 = c.join-pass.ensures ∙ next in (
      search rules,
      search rules,
      (λ k d below. below_more (λ i. IsWorkerOf g.C.Course.store g.C.Course.writers g.C.Course.calls
          (get_or (vec_items pushed.new.self) i d)) done
          (λ i low. subst (IsWorkerOf g.C.Course.store g.C.Course.writers g.C.Course.calls)
          (sym (pushed.ensures.by_index.0 i d low)) (was.2 i d low))
          (subst (IsWorkerOf g.C.Course.store g.C.Course.writers g.C.Course.calls)
          (sym (pushed.ensures.by_index.1 d (search rules))) own) k
          (omega (arith, below, grown))),
      (λ k d below. below_more (λ i. (get_or (vec_items pushed.new.self) i d).number ≡ i + 1) done
          (λ i low. ap (λ (p : Known). p.number) (pushed.ensures.by_index.0 i d low)
          ∙ was.3 i d low)
          (ap (λ (p : Known). p.number) (pushed.ensures.by_index.1 d (search rules)) ∙ numbered) k
          (omega (arith, below, grown))),
      (λ k d below. let h = was.4 (k + 1) d in grind rules),
    )
