-- The order of keys is total, and two keys that it calls equal are one list of bytes.
use Rattle.mst_key.proofs.Names.{◌≡◌, ◌≢◌, ℕ, true, false, List, [], ◌∷◌, ◌++◌, ◌<◌, ◌==◌, cond, refl, sym, ap, ◌∙◌, Ordering, Less, Equal, Greater, is_eq, is_lt, is_gt, true≢false, cond-true, key_cmp}
use Rattle.std.proofs.Common.{nat_lt}
use Rattle.std.proofs.lemmas.Bool.{lt-ltb, false_from_ne_true}
use Rattle.std.proofs.lemmas.Cmp.{nat_cmp_total, nat_list_cmp_total, tied_itself}
use Rattle.std.specs.Cmp.{IsTotalOrder}
use Rattle.std.specs.Cmp.Lexicographic.{texts_ties, bytes_decides}
use Rattle.std.specs.Ordering.{ordering_reverse, ordering_then}

pub key_cmp-total : IsTotalOrder key_cmp
key_cmp-total = nat_list_cmp_total

pub key_cmp-itself : (k : List ℕ) → key_cmp k k ≡ Equal
key_cmp-itself k = tied_itself key_cmp-total k

-- a front of a key is less than the key
pub key_cmp-front : (k : List ℕ) (b : ℕ) (bs : List ℕ) → key_cmp k (k ++ b ∷ bs) ≡ Less
key_cmp-front [] b bs = refl
key_cmp-front (a ∷ k) b bs = ap (λ (r : Ordering). ordering_then r (key_cmp k (k ++ b ∷ bs)))
    (tied_itself nat_cmp_total a) ∙ key_cmp-front k b bs

-- the first byte in which two keys differ decides
pub key_cmp-first_byte : (front : List ℕ) (a b : ℕ) (xs bs : List ℕ) → a < b
    → key_cmp (front ++ a ∷ xs) (front ++ b ∷ bs) ≡ Less
key_cmp-first_byte [] a b xs bs less = ap (λ (r : Ordering). ordering_then r (key_cmp xs bs))
    (cond-true (nat_lt a b) Less (cond (a == b) Equal Greater) (lt-ltb a b less))
key_cmp-first_byte (c ∷ front) a b xs bs less =
    ap (λ (r : Ordering). ordering_then r (key_cmp (front ++ a ∷ xs) (front ++ b ∷ bs)))
    (tied_itself nat_cmp_total c) ∙ key_cmp-first_byte front a b xs bs less

-- equal keys are the same
pub same_from_test : (a b : List ℕ) → is_eq (key_cmp a b) ≡ true → a ≡ b
same_from_test a b e = (bytes_decides a b).0 (texts_ties a b ∙ e)

pub same_from_equal : (a b : List ℕ) → key_cmp a b ≡ Equal → a ≡ b
same_from_equal a b e = same_from_test a b (ap is_eq e)

-- and the same keys are equal
pub equal_from_same : (a b : List ℕ) → a ≡ b → key_cmp a b ≡ Equal
equal_from_same a b e = ap (key_cmp a) (sym e) ∙ key_cmp-itself a

pub test_of_same : (a b : List ℕ) → a ≡ b → is_eq (key_cmp a b) ≡ true
test_of_same a b e = ap is_eq (equal_from_same a b e)

pub test_of_other : (a b : List ℕ) → a ≢ b → is_eq (key_cmp a b) ≡ false
test_of_other a b n = false_from_ne_true (is_eq (key_cmp a b)) (λ e. n (same_from_test a b e))

pub less_chain : (a b c : List ℕ) → key_cmp a b ≡ Less → key_cmp b c ≡ Less → key_cmp a c ≡ Less
less_chain a b c = (key_cmp-total).trans a b c

pub less_from_greater : (a b : List ℕ) → key_cmp a b ≡ Greater → key_cmp b a ≡ Less
less_from_greater a b e = (key_cmp-total).antisymm b a ∙ ap ordering_reverse e

pub greater_from_less : (a b : List ℕ) → key_cmp a b ≡ Less → key_cmp b a ≡ Greater
greater_from_less a b e = (key_cmp-total).antisymm b a ∙ ap ordering_reverse e

-- a key that is less than another is another
pub other_from_less : (a b : List ℕ) → key_cmp a b ≡ Less → a ≢ b
other_from_less a b e same = true≢false (ap is_lt (sym e ∙ equal_from_same a b same))

-- the three ways in which two keys can stand, from the tests that a filter makes
pub less_from_test : (a b : List ℕ) → is_lt (key_cmp a b) ≡ true → key_cmp a b ≡ Less
less_from_test a b = go (key_cmp a b)
  where
    go : (r : Ordering) → is_lt r ≡ true → r ≡ Less
    go Less e = refl
    go Equal e = absurd (true≢false (sym e))
    go Greater e = absurd (true≢false (sym e))

pub greater_from_test : (a b : List ℕ) → is_gt (key_cmp a b) ≡ true → key_cmp a b ≡ Greater
greater_from_test a b = go (key_cmp a b)
  where
    go : (r : Ordering) → is_gt r ≡ true → r ≡ Greater
    go Less e = absurd (true≢false (sym e))
    go Equal e = absurd (true≢false (sym e))
    go Greater e = refl

-- a fact by the order of two keys
pub by_order : {G : Type 0} (a b : List ℕ) → (key_cmp a b ≡ Less → G) → (a ≡ b → G)
    → (key_cmp b a ≡ Less → G) → G
by_order {G} a b less same more = go (key_cmp a b) refl
  where
    go : (r : Ordering) → key_cmp a b ≡ r → G
    go Less e = less e
    go Equal e = same (same_from_equal a b e)
    go Greater e = more (less_from_greater a b e)

-- a fact by whether two keys are the same
pub by_same : {G : Type 0} (a b : List ℕ) → (a ≡ b → G) → (a ≢ b → G) → G
by_same a b same other = by_order a b (λ e. other (other_from_less a b e)) same
    (λ e. other (λ s. other_from_less b a e (sym s)))
