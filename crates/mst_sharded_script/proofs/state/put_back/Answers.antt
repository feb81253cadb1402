use Rattle.mst_sharded_script.proofs.Names.{◌∷◌, ◌++◌, [], ◌∙◌, ℕ, List, length, vec_items, vec_len, sym, ap, subst, SwappedAt, PassState}
use Rattle.std.proofs.Common.{drop}
use Rattle.mst_shards.proofs.Moved.{written_whole}
use Rattle.mst_sharded_script.proofs.state.put_back.Goals as goal

pub returns-clause-back : goal.returns-clause-back
returns-clause-back g c =
    let pushed = c.push_reserved.new.self in
    let ws : List PassState = c.swap.new.self in
    let was = c.as_mut_slice.ensures.value ∙ c.push_reserved.ensures.items in
    let whole = c.as_mut_slice.ensures.value in
    let long = pushed.ok.0 ∙ ap (λ (l : List PassState). length l) (sym whole)
    ∙ sym c.swap.ensures.len in
    subst (λ (zs : List PassState). SwappedAt (vec_items c.args.passes.now ++ c.args.pass ∷ []) zs
    c.args.place (vec_len c.args.passes.now))
    (sym (written_whole pushed.len ws (drop (length ws) pushed.items) long))
    (subst (λ (n : ℕ). SwappedAt (vec_items c.args.passes.now ++ c.args.pass ∷ []) ws
    c.args.place n) c.len-last.ensures
    (subst (λ (ys : List PassState). SwappedAt ys ws c.args.place c.len-last.result) was
    c.swap.ensures.by_index))
