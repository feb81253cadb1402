-- The edits of a block, dealt to the shards one after the other.
use Rattle.mst_blocks.proofs.Names.{◌≡◌, ℕ, zero, suc, ◌+◌, List, [], ◌∷◌, ◌++◌, length, map, sym, ap, ◌∙◌, arith, Edit, key_of, edits_at, picked, parts_from, parts_of, place}
use Rattle.mst_shards.proofs.Parted.{picked_is}

parts_next : (splits : List (List ℕ)) (edits : List Edit) (i n k : ℕ) → k ≡ i + n
    → parts_from splits edits i (suc n) ≡ parts_from splits edits i n ++ edits_at splits edits k
    ∷ []
parts_next splits edits i zero k at =
    let same : i ≡ k = omega (arith, at) in
    ap (λ (j : ℕ). edits_at splits edits j ∷ []) same
parts_next splits edits i (suc n) k at =
    ap (λ (l : List (List Edit)). edits_at splits edits i ∷ l)
    (parts_next splits edits (suc i) n k (omega (arith, at)))

-- one shard more
pub parts_more : (splits : List (List ℕ)) (edits : List Edit) (places : List ℕ) (n : ℕ)
    (parts new : List (List Edit)) (part : List Edit)
    → places ≡ map (λ e. place splits (key_of e)) edits → parts ≡ parts_from splits edits 0 n
    → part ≡ picked places edits n → new ≡ parts ++ part ∷ []
    → new ≡ parts_from splits edits 0 (n + 1)
parts_more splits edits places n parts new part are was picks pushed =
    let next : suc n ≡ n + 1 = omega arith in
    let part_is : part ≡ edits_at splits edits n =
    picks ∙ ap (λ (l : List ℕ). picked l edits n) are
    ∙ picked_is (λ (e : Edit). place splits (key_of e)) edits n in
    pushed ∙ ap (λ (l : List (List Edit)). l ++ part ∷ []) was
    ∙ ap (λ (p : List Edit). parts_from splits edits 0 n ++ p ∷ []) part_is
    ∙ sym (parts_next splits edits 0 n n (omega arith))
    ∙ ap (parts_from splits edits 0) next

-- all shards
pub parts_end : (splits : List (List ℕ)) (edits : List Edit) (n : ℕ) (parts : List (List Edit))
    → n ≡ suc (length splits) → parts ≡ parts_from splits edits 0 n
    → parts ≡ parts_of splits edits
parts_end splits edits n parts all is = is ∙ ap (parts_from splits edits 0) all
