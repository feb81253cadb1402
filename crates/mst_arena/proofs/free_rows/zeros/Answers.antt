use Rattle.mst_arena.proofs.Names.{◌≡◌, ℕ, ◌+◌, List, [], ◌∷◌, ◌++◌, ◌∙◌, ap, arith, replicate, replicate_more}
use Rattle.mst_arena.proofs.free_rows.zeros.Goals as goal

pub loop-preserved : goal.loop-preserved
loop-preserved g c = record {
  items = c.push_reserved.ensures.items
      ∙ ap (λ (xs : List ℕ). xs ++ 0 ∷ []) c.loop.invariant.items
      ∙ replicate_more c.loop.counter 0;
  len = c.push_reserved.ensures.len ∙ ap (λ (n : ℕ). n + 1) c.loop.invariant.len;
  room = c.push_reserved.ensures.capacity ∙ c.loop.invariant.room;
}

pub returns : goal.returns
returns g c =
    let all : c.loop.counter ≡ c.args.count = omega arith in
    record {
      ok = (
        c.loop.invariant.items ∙ ap (λ (n : ℕ). replicate n 0) all,
        c.loop.invariant.room,
      );
    }
