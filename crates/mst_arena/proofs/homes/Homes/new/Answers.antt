use Rattle.mst_arena.proofs.Names.{◌≡◌, ℕ, zero, suc, ◌+◌, List, [], ◌∷◌, ◌++◌, ◌∙◌, ap, arith, sym, range_with_len}
use Rattle.mst_arena.proofs.homes.Homes.new.Goals as goal

range_more : (a n : ℕ) → range_with_len a (suc n) ≡ range_with_len a n ++ (a + n) ∷ []
range_more a zero = ap (λ (k : ℕ). k ∷ []) (omega arith)
range_more a (suc n) = ap (λ (l : List ℕ). a ∷ l)
    (range_more (a + 1) n ∙ ap (λ (k : ℕ). range_with_len (a + 1) n ++ k ∷ []) (omega arith))

pub loop-row-preserved : goal.loop-row-preserved
loop-row-preserved g c =
    let row = c.loop-row.row in
    let here : row ≡ 0 + row = omega arith in
    let more : suc row ≡ row + 1 = omega arith in
    record {
      items = c.push_reserved.ensures.items
          ∙ ap (λ (xs : List ℕ). xs ++ row ∷ []) c.loop-row.invariant.items
          ∙ ap (λ (k : ℕ). range_with_len 0 row ++ k ∷ []) here
          ∙ sym (range_more 0 row)
          ∙ ap (λ (k : ℕ). range_with_len 0 k) more;
      len = c.push_reserved.ensures.len ∙ ap (λ (n : ℕ). n + 1) c.loop-row.invariant.len;
      room = c.push_reserved.ensures.capacity ∙ c.loop-row.invariant.room;
    }

pub returns : goal.returns
returns g c =
    let all : c.loop-row.row ≡ c.args.rows = omega arith in
    record {
      own = c.loop-row.invariant.items ∙ ap (λ (k : ℕ). range_with_len 0 k) all;
    }
