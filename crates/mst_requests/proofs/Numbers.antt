-- Numbers that digits spell, digit by digit.
use Rattle.mst_requests.proofs.Names.{◌≡◌, ℕ, ◌+◌, ◌-◌, ◌*◌, ◌<◌, ◌≤◌, List, [], ◌∷◌, length, drop, get_or, sym, ap, ◌∙◌, refl, arith, Bool, true, false, cond, Some, None, nat_le, ◌&&◌, list_all, is_ascii_digit, spelt, number_up_to}
use Rattle.std.proofs.Common.{suc}
use Rattle.std.proofs.lemmas.Bool.{lt-leb}
use Rattle.std.proofs.Math.Seq.{drop-cons}

-- more digits make no smaller number
pub spelt_more : (n : ℕ) (ds : List ℕ) → n ≤ spelt n ds
spelt_more n [] = omega arith
spelt_more n (d ∷ ds) = let more = spelt_more (n * 10 + (d - 48)) ds in omega (arith, more)

and_false : (a : Bool) → (a && false) ≡ false
and_false true = refl
and_false false = refl

pub too_much : (most n : ℕ) (ds : List ℕ) → most < n → number_up_to most n ds ≡ None
too_much most n ds l =
    let over : nat_le (spelt n ds) most ≡ false =
    lt-leb (spelt n ds) most (let more = spelt_more n ds in omega (arith, more, l)) in
    ap (λ b. cond (list_all is_ascii_digit ds && b) (Some (spelt n ds)) None) over
    ∙ ap (λ b. cond b (Some (spelt n ds)) None) (and_false (list_all is_ascii_digit ds))

pub no_digit : (most n i : ℕ) (xs : List ℕ) → i < length xs → is_ascii_digit (get_or xs i 0) ≡ false
    → number_up_to most n (drop i xs) ≡ None
no_digit most n i xs l is = let d = get_or xs i 0 in let ds = drop (suc i) xs in
    ap (number_up_to most n) (drop-cons xs i 0 l)
    ∙ ap (λ b. cond ((b && list_all is_ascii_digit ds) && nat_le (spelt n (d ∷ ds)) most)
    (Some (spelt n (d ∷ ds))) None) is

pub one_digit : (most n m i : ℕ) (xs : List ℕ) → i < length xs → is_ascii_digit (get_or xs i 0)
    ≡ true → m ≡ n * 10 + (get_or xs i 0 - 48) → number_up_to most n (drop i xs) ≡ number_up_to most
    m (drop (i + 1) xs)
one_digit most n m i xs l is e = let d = get_or xs i 0 in let ds = drop (suc i) xs in
    let k : suc i ≡ i + 1 = omega arith in
    ap (number_up_to most n) (drop-cons xs i 0 l)
    ∙ ap (λ b. cond ((b && list_all is_ascii_digit ds) && nat_le (spelt n (d ∷ ds)) most)
    (Some (spelt n (d ∷ ds))) None) is
    ∙ ap (λ k. number_up_to most k ds) (sym e) ∙ ap (λ j. number_up_to most m (drop j xs)) k
