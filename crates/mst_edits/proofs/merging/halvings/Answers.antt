use Rattle.std.proofs.Common.{◌≡◌, ◌≤◌, ◌<◌, ◌-◌, ◌^◌, ℕ, subst, rules, arith}
use Rattle.std.specs.Int.Count.{count_leading_zeros}
use Rattle.std.proofs.lemmas.Nat.{leading_length}
use Rattle.mst_edits.proofs.merging.halvings.Goals as goal

-- a number fits as many halvings as it has binary digits
digits_fit : (n : ℕ) → n < 2 ^ 64 → n ≤ 2 ^ (64 - count_leading_zeros 64 n)
digits_fit n small =
    let top = leading_length 64 n small in
    let e : top.0 ≡ 64 - count_leading_zeros 64 n = omega (arith, top.1) in
    subst (λ d. n ≤ 2 ^ d) e (omega (arith, top.2))

pub returns-clause-enough : goal.returns-clause-enough
returns-clause-enough c = digits_fit c.args.number (search rules)
