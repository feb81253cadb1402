-- All pairs of a snapshot, and the edits that put them.
use Rattle.mst_sharded_script.proofs.Names.{◌≡◌, ℕ, ◌<◌, List, [], ◌∷◌, length, take, None, true, refl, ap, ◌∙◌, subst, arith, IfOk, Pair}
use Rattle.std.proofs.Common.{zero, suc, filter, Vec}
use Rattle.std.specs.Prelude.{Result, Ok, Err, IfErr}
use Rattle.mst_key.specs.Map.{map_range}

-- no bound binds
unbound : (m : List Pair) (limit : ℕ) → map_range m None None limit ≡ take limit m
unbound m limit = ap (λ (l : List Pair). take limit l) (all_pass m)
  where
    all_pass : (m : List Pair) → filter (λ p. true) m ≡ m
    all_pass [] = refl
    all_pass (p ∷ m) = ap (λ (l : List Pair). p ∷ l) (all_pass m)

-- a beginning that is shorter than it may be is the whole
whole_taken : (m : List Pair) (limit : ℕ) → length (take limit m) < limit → take limit m ≡ m
whole_taken [] zero low = refl
whole_taken [] (suc limit) low = refl
whole_taken (p ∷ m) zero low = absurd (omega (arith, low))
whole_taken (p ∷ m) (suc limit) low =
    ap (λ (l : List Pair). p ∷ l) (whole_taken m limit (omega (arith, low)))

-- a list has fewer pairs than the limit, so that these are all
pub all_found : (m found : List Pair) (limit : ℕ) → found ≡ map_range m None None limit
    → length found < limit → found ≡ m
all_found m found limit is low =
    let taken = is ∙ unbound m limit in
    taken ∙ whole_taken m limit (subst (λ (l : List Pair). length l < limit) taken low)

-- the same of a list of pairs in memory, which has less than 2 ^ 63
pub if_all : {A E : Type 0} (m : List Pair) (r : Result (Vec Pair A) E)
    → IfOk r (λ found. found.items ≡ map_range m None None 18446744073709551615)
    → IfOk r (λ found. found.items ≡ m)
if_all m (Ok found) is =
    let long = found.ok in
    let small = found.small in
    all_found m found.items 18446744073709551615 is (omega (arith, long.0, long.1, small))
if_all m (Err refused) is = tt

-- what follows of a value follows of one that was returned, and so of an error
pub each_ok : {T E : Type 0} (P Q : T → Type 0) (r : Result T E) → ((v : T) → P v → Q v)
    → IfOk r P → IfOk r Q
each_ok P Q (Ok v) follows p = follows v p
each_ok P Q (Err e) follows p = tt

pub each_err : {T E : Type 0} (P Q : E → Type 0) (r : Result T E) → ((e : E) → P e → Q e)
    → IfErr r P → IfErr r Q
each_err P Q (Ok v) follows p = tt
each_err P Q (Err e) follows p = follows e p
