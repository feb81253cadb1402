use Rattle.mst_arena.proofs.Names.{◌≡◌, ◌∙◌, arith, ap, sym, List, ℕ, ◌++◌, ◌∷◌, [], get_or, take, suc, ◌+◌, ◌<◌, length, take_all}
use Rattle.std.proofs.Math.Seq.{take-suc}
use Rattle.std.proofs.lemmas.List.Sorted.{IsNonDecreasingBy-from_sort}
use Rattle.mst_arena.proofs.sweep.remember.Goals as goal

pub returns-clause-remembered : goal.returns-clause-remembered
returns-clause-remembered g c =
    let e : c.loop-version.last.items ≡ c.args.live.now = c.loop-version.invariant.items
    ∙ take_all c.loop-version.version-index c.args.live.now
    (omega (arith, c.loop-version-test.false)) in (
      rw e at c.sort_unstable.ensures.permutation,
      IsNonDecreasingBy-from_sort (λ x. x)
          c.sort_unstable.new.self.items c.sort_unstable.ensures.sorted,
    )

pub loop-version-preserved : goal.loop-version-preserved
loop-version-preserved g c =
    let l = c.args.live.now in
    let k = c.loop-version.version-index in
    let within : k < length l = omega arith in
    let next : suc k ≡ k + 1 = omega arith in
    record {
      items = c.push_reserved.ensures.items
          ∙ ap (λ (xs : List ℕ). xs ++ (get_or l k 0 ∷ [])) c.loop-version.invariant.items
          ∙ sym (take-suc l k 0 within) ∙ ap (λ (n : ℕ). take n l) next;
      len = omega (arith, c.push_reserved.ensures.len, c.loop-version.invariant.len);
      room = c.push_reserved.ensures.capacity ∙ c.loop-version.invariant.room;
    }
