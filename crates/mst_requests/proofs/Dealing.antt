-- A request is of a dealt pass.
use Rattle.mst_requests.proofs.Names.{◌≡◌, ℕ, ◌+◌, ◌-◌, ◌*◌, ◌≤◌, ◌==◌, List, [], ◌∷◌, refl, arith, Bool, true, false, cond, Option, Some, None, nat_le, ◌&&◌, Result, Ok, Err, IfOk, list_all, is_ascii_digit, Fault, spelt, number_up_to, fields_of, asked, IsDealt}
use Rattle.std.proofs.lemmas.Bool.{leb-true, eqb-false}
use Rattle.mst_requests.specs.declared.request.Command.{Command}
use Rattle.mst_requests.specs.Fields.{pass_in}
use Rattle.mst_requests.specs.Grammar.{command_of, asked_of, by_pass, by_fields}
use Rattle.mst_requests.proofs.Numbers.{spelt_more}

-- the number of a pass is from 1 to n
abbrev IsNumber : ℕ → Option ℕ → Type 0
IsNumber n None = Unit {0}
IsNumber n (Some p) = (1 ≤ p) × (p ≤ n)

and_left : (a b : Bool) → (a && b) ≡ true → a ≡ true
and_left true b e = refl
and_left false b e = e

tested : (n m : ℕ) (a b : Bool) → (a ≡ true → 1 ≤ m) → nat_le m n ≡ b
    → IsNumber n (cond (a && b) (Some m) None)
tested n m true true low is = (low refl, leb-true m n is)
tested n m true false low is = tt
tested n m false b low is = tt

-- a number whose first digit is not 0 is not 0
some_number : (d : ℕ) (ds : List ℕ) → (d == 48) ≡ false → list_all is_ascii_digit (d ∷ ds) ≡ true
    → 1 ≤ spelt 0 (d ∷ ds)
some_number d ds not_zero digits =
    let digit = and_left (is_ascii_digit d) (list_all is_ascii_digit ds) digits in
    let low : 48 ≤ d = leb-true 48 d (and_left (nat_le 48 d) (nat_le d 57) digit) in
    let more = spelt_more (0 * 10 + (d - 48)) ds in
    omega (arith, low, more, eqb-false d 48 not_zero)

by_first : (n d : ℕ) (ds : List ℕ) (b : Bool) → (d == 48) ≡ b
    → IsNumber n (cond b None (number_up_to n 0 (d ∷ ds)))
by_first n d ds true is = tt
by_first n d ds false is =
    tested n (spelt 0 (d ∷ ds)) (list_all is_ascii_digit (d ∷ ds)) (nat_le (spelt 0 (d ∷ ds)) n)
    (some_number d ds is) refl

pass_dealt : (n : ℕ) (field : List ℕ) → IsNumber n (pass_in n field)
pass_dealt n [] = tt
pass_dealt n (d ∷ ds) = by_first n d ds (d == 48) refl

asked_of_dealt : (n p : ℕ) (r : Result Command Fault) → 1 ≤ p → p ≤ n → IfOk (asked_of p r)
    (IsDealt n)
asked_of_dealt n p (Ok command) low high = (low, high)
asked_of_dealt n p (Err fault) low high = tt

by_pass_dealt : (n : ℕ) (p : Option ℕ) (fs : List (List ℕ)) → IsNumber n p → IfOk (by_pass p fs)
    (IsDealt n)
by_pass_dealt n None fs is = tt
by_pass_dealt n (Some p) fs is = asked_of_dealt n p (command_of fs) is.0 is.1

by_fields_dealt : (n : ℕ) (fs : List (List ℕ)) → IfOk (by_fields n fs) (IsDealt n)
by_fields_dealt n [] = tt
by_fields_dealt n (f ∷ fs) = by_pass_dealt n (pass_in n f) fs (pass_dealt n f)

pub asked_dealt : (n : ℕ) (k : Option (List ℕ)) → IfOk (asked n k) (IsDealt n)
asked_dealt n None = tt
asked_dealt n (Some line) = by_fields_dealt n (fields_of line)
