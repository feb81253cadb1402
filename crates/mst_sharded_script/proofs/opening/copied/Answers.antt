use Rattle.mst_sharded_script.proofs.Names.{◌∙◌, ◌∷◌, ◌++◌, [], ℕ, List, take, sym, ap, arith}
use Rattle.std.proofs.lemmas.List.{take_more}
use Rattle.mst_sharded_script.proofs.opening.copied.Goals as goal

pub loop-split-preserved : goal.loop-split-preserved
loop-split-preserved g c =
    let was = c.loop-split.invariant in
    let splits : List (List ℕ) = c.args.splits.now in
    let i : ℕ = c.loop-split.split-index in
    let k : List ℕ = c.split-item.result in
    let len = c.push_reserved.ensures.len in
    let cap = c.push_reserved.ensures.capacity in
    let at = was.1 in
    let room = was.2 in (
      c.push_reserved.ensures.items
          ∙ ap (λ (l : List (List ℕ)). l ++ c.copy.result ∷ []) was.0
          ∙ ap (λ (x : List ℕ). take i splits ++ x ∷ []) (c.copy.ensures.same ∙ c.split-item.is)
          ∙ sym (take_more splits i k c.loop-split-test.true),
      omega (arith, at, len),
      omega (arith, room, cap),
    )
