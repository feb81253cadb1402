-- Passes that pin, one after the other.
use Rattle.mst_shards.proofs.Names.{◌≡◌, suc, List, [], ◌∷◌, ◌++◌, length, refl, ap, Known, AllStep, PinsNow, SeesMore}
use Rattle.mst_shards.proofs.Stepping.{all_weaker}

-- one more pass made its step
pub all_step_more : (S : Known → Known → Type 0) (ps qs : List Known) (p q : Known)
    → AllStep S ps qs → S p q → AllStep S (ps ++ p ∷ []) (qs ++ q ∷ [])
all_step_more S [] [] p q all step = (step, tt)
all_step_more S [] (y ∷ qs) p q all step = absurd all
all_step_more S (x ∷ ps) [] p q all step = absurd all
all_step_more S (x ∷ ps) (y ∷ qs) p q all step = (all.0, all_step_more S ps qs p q all.1 step)

-- they are as many
pub all_step_length : (S : Known → Known → Type 0) (ps qs : List Known) → AllStep S ps qs
    → length qs ≡ length ps
all_step_length S [] [] all = refl
all_step_length S [] (y ∷ qs) all = absurd all
all_step_length S (x ∷ ps) [] all = absurd all
all_step_length S (x ∷ ps) (y ∷ qs) all = ap suc (all_step_length S ps qs all.1)

-- passes that pin see more
pub pins_more : (ps qs : List Known) → AllStep PinsNow ps qs → AllStep SeesMore ps qs
pins_more ps qs all = all_weaker PinsNow SeesMore ps qs (λ p q step. step.0.later) all
