-- What a comparison of keys or of layers chooses.
use Rattle.mst_change.proofs.Names.{◌≡◌, ℕ, ◌<◌, ◌==◌, cond, Bool, true, false, List, refl, ap, Less, Equal, Greater, arith, cond_both, nat_tests, key_cmp, by_order}
use Rattle.std.proofs.Common.{nat_lt, Ordering}
use Rattle.mst_key.proofs.KeyOrder.{same_from_equal, less_from_greater}

-- a fact of what is chosen, from a fact of each choice
pub at_key : {A : Type 0} (P : A → Type 0) (k key : List ℕ) (a b c : A)
    → (key_cmp k key ≡ Less → P a) → (k ≡ key → P b) → (key_cmp key k ≡ Less → P c)
    → P (by_order (key_cmp k key) a b c)
at_key {A} P k key a b c less same more = go (key_cmp k key) refl
  where
    go : (r : Ordering) → key_cmp k key ≡ r → P (by_order r a b c)
    go Less e = less e
    go Equal e = same (same_from_equal k key e)
    go Greater e = more (less_from_greater k key e)

-- a fact of several choices by one comparison
pub at_order : (P : Ordering → Type 0) (k key : List ℕ) → (key_cmp k key ≡ Less → P Less)
    → (k ≡ key → P Equal) → (key_cmp key k ≡ Less → P Greater) → P (key_cmp k key)
at_order P k key less same more = go (key_cmp k key) refl
  where
    go : (r : Ordering) → key_cmp k key ≡ r → P r
    go Less e = less e
    go Equal e = same (same_from_equal k key e)
    go Greater e = more (less_from_greater k key e)

pub at_layers : (P : Bool → Bool → Type 0) (j l : ℕ) → (j < l → (b : Bool) → P true b)
    → (j ≡ l → P false true) → (l < j → P false false) → P (nat_lt j l) (j == l)
at_layers P j l less same more = go (nat_lt j l) (j == l) refl refl
  where
    go : (a b : Bool) → nat_lt j l ≡ a → (j == l) ≡ b → P a b
    go true b e f = less (grind (arith, nat_tests)) b
    go false true e f = same (grind (arith, nat_tests))
    go false false e f = more (grind (arith, nat_tests))

pub at_layer : {A : Type 0} (P : A → Type 0) (j l : ℕ) (a b c : A) → (j < l → P a) → (j ≡ l → P b)
    → (l < j → P c) → P (cond (nat_lt j l) a (cond (j == l) b c))
at_layer {A} P j l a b c less same more =
    cond_both (nat_lt j l) a (cond (j == l) b c) P (λ e. less (grind (arith, nat_tests)))
    (λ e. cond_both (j == l) b c P (λ f. same (grind (arith, nat_tests)))
    (λ f. more (grind (arith, nat_tests))))

-- the choice by a comparison that is known
pub chosen : {A : Type 0} (r s : Ordering) (a b c : A) → r ≡ s → by_order r a b c ≡ by_order s a b c
chosen r s a b c e = ap (λ (x : Ordering). by_order x a b c) e

-- a choice by layers, if their order is known
pub chosen_higher : {A : Type 0} (j l : ℕ) (a b c : A) → j < l → cond (nat_lt j l) a
    (cond (j == l) b c) ≡ a
chosen_higher j l a b c h = let e : nat_lt j l ≡ true = grind (arith, nat_tests) in rw e

pub chosen_lower : {A : Type 0} (j l : ℕ) (a b c : A) → l < j → cond (nat_lt j l) a
    (cond (j == l) b c) ≡ c
chosen_lower j l a b c h =
    let e : nat_lt j l ≡ false = grind (arith, nat_tests) in
    let f : (j == l) ≡ false = grind (arith, nat_tests) in
    rw (e, f)

pub chosen_level : {A : Type 0} (l : ℕ) (a b c : A) → cond (nat_lt l l) a (cond (l == l) b c) ≡ b
chosen_level l a b c =
    let e : nat_lt l l ≡ false = grind (arith, nat_tests) in
    let f : (l == l) ≡ true = grind (arith, nat_tests) in
    rw (e, f)
