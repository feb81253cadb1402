use Rattle.mst_load.proofs.Names.{vec_items, vec_len, rules, arith, below_more}
use Rattle.std.specs.Prelude.{◌≡◌, ℕ, ◌+◌, get_or}
use Rattle.mst_load.proofs.running.start_all.Goals as goal

-- the pass that is started next stands first among the rest
pub loop-pass-preserved : goal.loop-pass-preserved
loop-pass-preserved g c =
    let was = c.loop-pass.invariant in let done : ℕ = vec_len c.loop-pass.handles in let pushed =
    c.push in
    let grown : vec_len pushed.new.self ≡ done + 1 = search rules in
    let number : c.in-Some.pass.number ≡ done + 1 = let h = was.2 0 c.in-Some.pass in grind rules in
    let promised : c.in_ok-handle.handle.promise.number ≡ done + 1 = grind rules in (
      search rules,
      (λ k d below. let h = was.1 (k + 1) d in grind rules),
      (λ k d below. let h = was.2 (k + 1) d in grind rules),
      (λ k d below. below_more (λ i. (get_or (vec_items pushed.new.self) i d).promise.number ≡ i
          + 1) done
          (λ i low. let e = pushed.ensures.by_index.0 i d low in let h =
          was.3 i d low in grind rules)
          (let e = pushed.ensures.by_index.1 d (search rules) in grind rules) k
          (omega (arith, below, grown))),
    )
