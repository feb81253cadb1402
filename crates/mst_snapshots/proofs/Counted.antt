-- Tries of a snapshot, and the steps that they take.
use Rattle.mst_snapshots.proofs.Names.{◌≡◌, ℕ, zero, suc, ◌+◌, List, [], ◌∷◌, sym, subst, arith, Known, Whole, AllStep, PinsNow, all_still, PinsWhole, InVain, PinsAfter}
use Rattle.mst_snapshots.specs.Tries.{MakesSteps, AllMakeSteps}

-- each pass pins once more
one_more : (n : ℕ) (ps qs rs : List Known) → AllStep (MakesSteps n) ps qs
    → AllStep PinsNow qs rs → AllStep (MakesSteps (suc n)) ps rs
one_more n [] [] [] had pins = tt
one_more n [] [] (r ∷ rs) had pins = absurd pins
one_more n [] (q ∷ qs) rs had pins = absurd had
one_more n (p ∷ ps) [] rs had pins = absurd had
one_more n (p ∷ ps) (q ∷ qs) [] had pins = absurd pins
one_more n (p ∷ ps) (q ∷ qs) (r ∷ rs) had pins =
    let so_far : q.asked ≡ p.asked + n = had.0 in
    let once : r.asked ≡ q.asked + 1 = pins.0.1 in
    let now : r.asked ≡ p.asked + suc n = omega (arith, so_far, once) in
    (now, one_more n ps qs rs had.1 pins.1)

all_one_more : (n : ℕ) (w v x : Whole) → AllMakeSteps n w v → PinsWhole v x
    → AllMakeSteps (suc n) w x
all_one_more n w v x had pins =
    let so_far : v.directory.asked ≡ w.directory.asked + n = had.1 in
    let once : x.directory.asked ≡ v.directory.asked + 1 = pins.directory.1 in
    let now : x.directory.asked ≡ w.directory.asked + suc n = omega (arith, so_far, once) in (
      one_more n w.sharding.shards v.sharding.shards x.sharding.shards had.0 pins.shards.pins,
      now,
    )

no_step : (p : Known) → MakesSteps zero p p
no_step p = let none : p.asked ≡ p.asked + 0 = omega arith in none

in_vain : (n : ℕ) (w v : Whole) → InVain n w v → AllMakeSteps n w v
in_vain zero w v is =
    subst (λ (x : Whole). AllMakeSteps zero w x) (sym is)
    (all_still (MakesSteps zero) w.sharding.shards no_step, no_step w.directory)
in_vain (suc n) w v tried =
    all_one_more n w tried.0 v (in_vain n w tried.0 tried.1) tried.2

pub steps_of : (w v : Whole) (a : PinsAfter w v) → AllMakeSteps (a.tries + 1) w v
steps_of w v a =
    let next : suc a.tries ≡ a.tries + 1 = omega arith in
    subst (λ (n : ℕ). AllMakeSteps n w v) next
    (all_one_more a.tries w a.last v (in_vain a.tries w a.last a.vain) a.pins)
