-- Which task was done where the program ended, and what it came to with no words.
use Rattle.std.proofs.Common.{◌≡◌, ◌⊎◌, inl, inr, ℕ, ◌<◌, ◌≤◌, List, Result, Ok, Err, IfOk, arith}
use denote.Ref.{Bor}
use Rattle.mst_arguments.specs.Commanding.{AsksFor, status_at, status_of}
use Rattle.mst.specs.Tasks.{Did}
use Rattle.mst_arguments.specs.declared.task.Task.{Task}
use Rattle.mst_arguments.specs.declared.task.Ending.{Ending}
use Rattle.mst_arguments.specs.declared.task.Ending.TheVariants.{Done, ProofRefused}
use Rattle.mst_arguments.specs.declared.task.Refusal.{Refusal}
use Rattle.mst_arguments.specs.declared.task.Refusal.TheVariants.{Words, NotText, Shape, Splits, BadRoot, BadKey, Device, Memory}
use Rattle.mst.specs.Commanded.{Performed}

pub performed : {S W : Type 0} (gives : S → List ℕ → S → Type 0) (left : S → ℕ)
    (takes : W → List ℕ → W → Type 0) (words : List (Bor (List ℕ))) (task : Task)
    (r : Result Ending Refusal) (s t : S) (w x : W)
    → AsksFor words task → IfOk r (λ ending. Did gives left takes task s w ending t x)
    → IfOk r (λ ending. Performed gives left takes words s w ending t x)
performed gives left takes words task (Ok ending) s t w x asked did = (task, asked, did)
performed gives left takes words task (Err why) s t w x asked did = tt

-- the status says the ending
pub at_done : (P : Ending → Type 0) → P Done → (ending : Ending) → 0 ≡ status_at ending → P ending
at_done P p Done is = p
at_done P p ProofRefused is = absurd (omega (arith, is))

pub at_refused : (P : Ending → Type 0) → P ProofRefused → (ending : Ending) → 1 ≡ status_at ending
    → P ending
at_refused P p Done is = absurd (omega (arith, is))
at_refused P p ProofRefused is = p

at_most_one : (ending : Ending) → status_at ending ≤ 1
at_most_one Done = omega arith
at_most_one ProofRefused = omega arith

two_or_more : (why : Refusal) → 2 ≤ status_of why
two_or_more (Words text) = omega arith
two_or_more NotText = omega arith
two_or_more Shape = omega arith
two_or_more Splits = omega arith
two_or_more BadRoot = omega arith
two_or_more BadKey = omega arith
two_or_more Device = omega arith
two_or_more (Memory refused) = omega arith

-- a program that ended early has no status of an ending
pub no_ending : {E : Type 0} (failures : E → ℕ) (e f : E) (why : Refusal) (n : ℕ)
    → (failures f ≡ failures e) ⊎ ((failures e < failures f) × (n ≡ 3))
    → (failures f ≡ failures e → n ≡ status_of why)
    → (ending : Ending) → n ≡ status_at ending → ⊥
no_ending failures e f why n (inl same) status ending is =
    let early : n ≡ status_of why = status same in
    let low : status_at ending ≤ 1 = at_most_one ending in
    let high : 2 ≤ status_of why = two_or_more why in
    omega (arith, early, is, low, high)
no_ending failures e f why n (inr rose) status ending is =
    let low : status_at ending ≤ 1 = at_most_one ending in
    let three : n ≡ 3 = rose.1 in
    omega (arith, three, is, low)
