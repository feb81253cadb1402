use Rattle.mst_shards.proofs.Names.{◌∷◌, ◌++◌, [], ◌∙◌, ℕ, List, length, drop, vec_items, vec_len, sym, ap, subst, SwappedAt, Known}
use Rattle.mst_shards.proofs.Moved.{written_whole}
use Rattle.mst_shards.proofs.moving.lay_at.Goals as goal

pub returns-clause-back : goal.returns-clause-back
returns-clause-back g c =
    let pushed = c.push_reserved.new.self in
    let ws : List Known = c.swap.new.self in
    let all = c.push_reserved.ensures.items
    ∙ ap (λ (x : Known). vec_items c.args.laid.now ++ x ∷ []) c.lay.ensures.same in
    let was = c.as_mut_slice.ensures.value ∙ all in
    let long = pushed.ok.0 ∙ ap (λ (l : List Known). length l) (sym c.as_mut_slice.ensures.value)
    ∙ sym c.swap.ensures.len in
    subst (λ (zs : List Known). SwappedAt (vec_items c.args.laid.now ++ c.args.pass ∷ []) zs
    c.args.place (vec_len c.args.laid.now))
    (sym (written_whole pushed.len ws (drop (length ws) pushed.items) long))
    (subst (λ (n : ℕ). SwappedAt (vec_items c.args.laid.now ++ c.args.pass ∷ []) ws
    c.args.place n) c.len-last.ensures
    (subst (λ (ys : List Known). SwappedAt ys ws c.args.place c.len-last.result) was
    c.swap.ensures.by_index))
