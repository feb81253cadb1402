-- The place of a key among splits that rise, and what it says of the key.
use Rattle.mst_shards.proofs.Names.{◌≡◌, ℕ, zero, suc, ◌+◌, ◌<◌, ◌≤◌, Bool, true, false, cond, List, [], ◌∷◌, length, get_or, refl, sym, ap, ◌∙◌, subst, arith, true≢false, ⊎_elim, Less, is_lt, false_from_ne_true, key_cmp, less_chain, less_from_test, by_order, AreSplits, place}
use Rattle.std.proofs.Common.{◌⊎◌, inl, inr}

-- a key that is not below a bound is not below a lesser one either
pub not_below : (k low s : List ℕ) → is_lt (key_cmp k s) ≡ false → key_cmp low s ≡ Less
    → is_lt (key_cmp k low) ≡ false
not_below k low s from less =
    false_from_ne_true (is_lt (key_cmp k low)) (λ e.
    true≢false (sym (ap is_lt (less_chain k low s (less_from_test k low e) less)) ∙ from))

-- a key below a bound that another key is not below is less than the other
pub less_than : (j k s : List ℕ) → is_lt (key_cmp j s) ≡ true → is_lt (key_cmp k s) ≡ false
    → key_cmp j k ≡ Less
less_than j k s to from =
    let less = less_from_test j s to in
    by_order s k (λ up. less_chain j s k less up)
    (λ same. subst (λ (b : List ℕ). key_cmp j b ≡ Less) same less)
    (λ down. absurd (true≢false (sym (ap is_lt down) ∙ from)))

-- and one that is not below a bound that another is less than is above the other
pub more_than : (j k s : List ℕ) → is_lt (key_cmp j s) ≡ false → key_cmp k s ≡ Less
    → key_cmp k j ≡ Less
more_than j k s from less =
    by_order s j (λ up. less_chain k s j less up)
    (λ same. subst (λ (b : List ℕ). key_cmp k b ≡ Less) same less)
    (λ down. absurd (true≢false (sym (ap is_lt down) ∙ from)))

-- each split is above the bound that the splits rise from
pub split_above : (low : List ℕ) (splits : List (List ℕ)) (i : ℕ) (x : List ℕ)
    → AreSplits low splits → i < length splits → x ≡ get_or splits i x → key_cmp low x ≡ Less
split_above low [] i x rising l is = absurd (omega (arith, l))
split_above low (s ∷ splits) zero x rising l is =
    subst (λ (y : List ℕ). key_cmp low y ≡ Less) (sym is) rising.0
split_above low (s ∷ splits) (suc i) x rising l is =
    less_chain low s x rising.0 (split_above s splits i x rising.2 (omega (arith, l)) is)

pub place_within : (splits : List (List ℕ)) (k : List ℕ) → place splits k ≤ length splits
place_within [] k = omega arith
place_within (s ∷ splits) k = go (is_lt (key_cmp k s)) (place_within splits k)
  where
    go : (b : Bool) → place splits k ≤ length splits
        → cond b 0 (suc (place splits k)) ≤ suc (length splits)
    go true most = omega arith
    go false most = omega (arith, most)

-- a split that is at most the key lies before the place, with all before it
pub place_behind : (low : List ℕ) (splits : List (List ℕ)) (k : List ℕ) (i : ℕ) (x : List ℕ)
    → AreSplits low splits → i < length splits → x ≡ get_or splits i x
    → is_lt (key_cmp k x) ≡ false → i + 1 ≤ place splits k
place_behind low [] k i x rising l is from = absurd (omega (arith, l))
place_behind low (s ∷ splits) k zero x rising l is from =
    subst (λ (b : Bool). 1 ≤ cond b 0 (suc (place splits k)))
    (sym (ap (λ (y : List ℕ). is_lt (key_cmp k y)) (sym is) ∙ from)) (omega arith)
place_behind low (s ∷ splits) k (suc i) x rising l is from =
    let later = place_behind s splits k i x rising.2 (omega (arith, l)) is from in
    let past = not_below k s x from (split_above s splits i x rising.2 (omega (arith, l)) is) in
    subst (λ (b : Bool). suc i + 1 ≤ cond b 0 (suc (place splits k))) (sym past)
    (omega (arith, later))

-- a split above the key does not lie before the place
pub place_before : (splits : List (List ℕ)) (k : List ℕ) (i : ℕ) (x : List ℕ)
    → i < length splits → x ≡ get_or splits i x → is_lt (key_cmp k x) ≡ true → place splits k ≤ i
place_before [] k i x l is to = absurd (omega (arith, l))
place_before (s ∷ splits) k zero x l is to =
    subst (λ (b : Bool). cond b 0 (suc (place splits k)) ≤ 0)
    (sym (ap (λ (y : List ℕ). is_lt (key_cmp k y)) (sym is) ∙ to)) (omega arith)
place_before (s ∷ splits) k (suc i) x l is to =
    go (is_lt (key_cmp k s)) (place_before splits k i x (omega (arith, l)) is to)
  where
    go : (b : Bool) → place splits k ≤ i → cond b 0 (suc (place splits k)) ≤ suc i
    go true later = omega arith
    go false later = omega (arith, later)

-- the lower bound of the key's shard is the first of all, or the key is not below it
pub place_bound : (low : List ℕ) (splits : List (List ℕ)) (k x : List ℕ)
    → x ≡ get_or (low ∷ splits) (place splits k) x → (x ≡ low) ⊎ (is_lt (key_cmp k x) ≡ false)
place_bound low [] k x is = inl is
place_bound low (s ∷ splits) k x is =
    go (is_lt (key_cmp k s)) refl is (λ here. place_bound s splits k x here)
  where
    go : (b : Bool) → is_lt (key_cmp k s) ≡ b
        → x ≡ get_or (low ∷ s ∷ splits) (cond b 0 (suc (place splits k))) x
        → (x ≡ get_or (s ∷ splits) (place splits k) x → (x ≡ s) ⊎ (is_lt (key_cmp k x) ≡ false))
        → (x ≡ low) ⊎ (is_lt (key_cmp k x) ≡ false)
    go true less is more = inl is
    go false past is more =
        ⊎_elim (λ (same : x ≡ s). inr (ap (λ (y : List ℕ). is_lt (key_cmp k y)) same ∙ past))
        (λ (from : is_lt (key_cmp k x) ≡ false). inr from) (more is)

-- what a search by halves says of the place
pub ruleset by_halves = (place_within, place_behind, place_before)
