use Rattle.mst_words.proofs.Names.{arith}
use Rattle.mst_words.proofs.Places.{by_lane}
use Rattle.mst_words.proofs.layout.row_word.Goals as goal

pub returns-then-k-lt1 : goal.returns-then-k-lt1
returns-then-k-lt1 c = let t = c.if-k-lt1.true in
    by_lane _ c.args.rows c.args.row c.args.k (λ a e. omega (arith, e))
    (λ a b e. absurd (omega (arith, t, a))) (λ a b e. absurd (omega (arith, t, a)))
    (λ a e. absurd (omega (arith, t, a)))

pub returns-then-k-lt5 : goal.returns-then-k-lt5
returns-then-k-lt5 c = let t = c.if-k-lt5.true in let f = c.if-k-lt1.false in
    by_lane _ c.args.rows c.args.row c.args.k (λ a e. absurd (omega (arith, f, a)))
    (λ a b e. omega (arith, a, e)) (λ a b e. absurd (omega (arith, t, a)))
    (λ a e. absurd (omega (arith, t, a)))

pub returns-then-k-lt12 : goal.returns-then-k-lt12
returns-then-k-lt12 c = let t = c.if-k-lt12.true in let f = c.if-k-lt5.false in
    by_lane _ c.args.rows c.args.row c.args.k (λ a e. absurd (omega (arith, f, a)))
    (λ a b e. absurd (omega (arith, f, b))) (λ a b e. omega (arith, a, e))
    (λ a e. absurd (omega (arith, t, a)))

pub returns-else-k-lt12 : goal.returns-else-k-lt12
returns-else-k-lt12 c = let f = c.if-k-lt12.false in
    by_lane _ c.args.rows c.args.row c.args.k (λ a e. absurd (omega (arith, f, a)))
    (λ a b e. absurd (omega (arith, f, b))) (λ a b e. absurd (omega (arith, f, b)))
    (λ a e. omega (arith, a, e))
