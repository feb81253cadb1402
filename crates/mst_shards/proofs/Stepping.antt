-- Steps of each pass of a list.
use Rattle.mst_shards.proofs.Names.{◌≡◌, ℕ, zero, suc, ◌+◌, ◌<◌, ◌≤◌, List, [], ◌∷◌, length, get_or, sym, subst, arith, refl, ap, Known, AllStep, SeesMore, sharding, IsSharding, place}
use Rattle.std.proofs.Common.{slice_set}
use Rattle.std.proofs.lemmas.List.{get_or_read}
use Rattle.mst_key.proofs.HistoryLaws.{IsPrefix-itself}
use Rattle.mst_shards.specs.Sharding.{StepsFrom}

-- a step that each pass may make for itself
pub all_still : (Steps : Known → Known → Type 0) (ps : List Known) → ((p : Known) → Steps p p)
    → AllStep Steps ps ps
all_still Steps [] still = tt
all_still Steps (p ∷ ps) still = (still p, all_still Steps ps still)

pub all_see_again : (ps : List Known) → AllStep SeesMore ps ps
all_see_again ps = all_still SeesMore ps (λ p. IsPrefix-itself p.seen)

-- the pass at a place makes a step, and each other the one that it may make for itself
pub one_steps : (Steps : Known → Known → Type 0) (ps : List Known) (i : ℕ) (p q : Known)
    → ((x : Known) → Steps x x) → i < length ps → p ≡ get_or ps i p → Steps p q
    → AllStep Steps ps (slice_set ps i q)
one_steps Steps [] i p q still low is step = absurd (omega (arith, low))
one_steps Steps (x ∷ ps) zero p q still low is step =
    (subst (λ (y : Known). Steps y q) is step, all_still Steps ps still)
one_steps Steps (x ∷ ps) (suc i) p q still low is step =
    (still x, one_steps Steps ps i p q still (omega (arith, low)) is step)

-- the pass at a place has seen more, and all others what they had seen
pub one_sees_more : (ps : List Known) (i : ℕ) (p q : Known) → i < length ps → p ≡ get_or ps i p
    → SeesMore p q → AllStep SeesMore ps (slice_set ps i q)
one_sees_more ps i p q low is more =
    one_steps SeesMore ps i p q (λ x. IsPrefix-itself x.seen) low is more

-- a step of one kind is one of another
pub all_weaker : (Steps Others : Known → Known → Type 0) (ps qs : List Known)
    → ((p q : Known) → Steps p q → Others p q) → AllStep Steps ps qs → AllStep Others ps qs
all_weaker Steps Others [] [] weaker all = tt
all_weaker Steps Others [] (q ∷ qs) weaker all = absurd all
all_weaker Steps Others (p ∷ ps) [] weaker all = absurd all
all_weaker Steps Others (p ∷ ps) (q ∷ qs) weaker all =
    (weaker p q all.0, all_weaker Steps Others ps qs weaker all.1)

-- the pass at the place of a key's shard is what is read there
pub found_here : (splits : List (List ℕ)) (ps : List Known) (k : List ℕ) (i : ℕ) (p : Known)
    → IsSharding (sharding splits ps) → i ≤ length splits → i ≡ place splits k
    → p ≡ get_or ps i p → (d : Known) → get_or ps (place splits k) d ≡ p
found_here splits ps k i p is within at value d =
    let count : length ps ≡ length splits + 1 = is.count in
    let low : i < length ps = omega (arith, count, within) in
    subst (λ (n : ℕ). get_or ps n d ≡ p) at (sym (get_or_read ps i p low value d))

pub steps_length : (S : ℕ → Known → Known → Type 0) (from : ℕ) (ps qs : List Known)
    → StepsFrom S from ps qs → length qs ≡ length ps
steps_length S from [] [] steps = refl
steps_length S from [] (q ∷ qs) steps = absurd steps
steps_length S from (p ∷ ps) [] steps = absurd steps
steps_length S from (p ∷ ps) (q ∷ qs) steps = ap suc (steps_length S (suc from) ps qs steps.1)
