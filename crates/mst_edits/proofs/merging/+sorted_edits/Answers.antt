use Rattle.std.proofs.Common.{◌≡◌, ◌≤◌, ◌<◌, ◌+◌, ◌-◌, ◌*◌, ◌^◌, ◌∙◌, ℕ, zero, suc, length, subst, rules, arith}
use Rattle.std.proofs.Math.Nat.{pow-suc}
use Rattle.std.proofs.lemmas.Result.{IfOk-weaker}
use Rattle.mst_edits.proofs.Halves.{halves}
use Rattle.mst_edits.proofs.merging.+sorted_edits.Goals as goal

-- a list of two or more is not at the end of the depth
goes_deeper : (n d : ℕ) → 1 < n → n ≤ 2 ^ d → 0 < d
goes_deeper n zero some few = absurd (omega (arith, some, few))
goes_deeper n (suc d) some few = omega arith

-- each of its halves fits one level less
half_fits : (n m d : ℕ) → 1 < n → n ≤ 2 ^ d → 2 * m ≤ n + 1 → m ≤ 2 ^ (d - 1)
half_fits n m zero some few half = absurd (omega (arith, some, few))
half_fits n m (suc d) some few half =
    let e : 2 ^ suc d ≡ 2 ^ d * 2 = pow-suc 2 d in
    let less : d ≡ suc d - 1 = omega arith in
    subst (λ k. m ≤ 2 ^ k) less (omega (arith, few, half, e))

pub sorted_edits-requires : goal.sorted_edits-requires
sorted_edits-requires g t c κs within =
    let some : 1 < length c.args.edits.now = omega (arith, c.in_default.len_at_least) in
    let deeper = goes_deeper (length c.args.edits.now) c.args.depth some c.requires.few in
    let half : 2 * length c.split_at.result.0.now ≤ length c.args.edits.now + 1 =
    omega (arith, c.split_at.ensures.front_len, c.split_at.ensures.back_len) in (
      omega (arith, c.decreases, deeper),
      (search rules, half_fits _ _ c.args.depth some c.requires.few half),
    )

pub sorted_edits-requires-in_default : goal.sorted_edits-requires-in_default
sorted_edits-requires-in_default g t c κs within =
    let some : 1 < length c.args.edits.now = omega (arith, c.in_default.len_at_least) in
    let deeper = goes_deeper (length c.args.edits.now) c.args.depth some c.requires.few in
    let half : 2 * length c.split_at.result.1.now ≤ length c.args.edits.now + 1 =
    omega (arith, c.split_at.ensures.front_len, c.split_at.ensures.back_len) in (
      omega (arith, c.decreases, deeper),
      (search rules, half_fits _ _ c.args.depth some c.requires.few half),
    )

pub returns-in_ok-second-in_default-clause-leaves :
    goal.returns-in_ok-second-in_default-clause-leaves
returns-in_ok-second-in_default-clause-leaves g t c =
    IfOk-weaker c.merged.result _ _
    (λ all leaves q old. leaves q old
    ∙ halves c.args.edits.now c.split_at.result.0.now c.split_at.result.1.now
    c.in_ok-first-in_default.first.items c.in_ok-second-in_default.second.items
    c.as_slice.result.now c.as_slice-in_default.result.now _ c.split_at.ensures.front
    c.split_at.ensures.back c.as_slice.ensures.value c.as_slice-in_default.ensures.value
    c.in_ok-first-in_default.ensures.leaves c.in_ok-second-in_default.ensures.leaves q old)
    c.merged.ensures.leaves
