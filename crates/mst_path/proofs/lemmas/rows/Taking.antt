-- What is known of rows that were taken.
use Rattle.mst_path.proofs.Names.{◌≡◌, ◌≢◌, ℕ, zero, suc, ◌+◌, ◌<◌, Bool, IsTrue, cond, List, [], ◌∷◌, ◌++◌, length, Some, refl, sym, ◌∙◌, ap, subst, arith, slice_get, slice_set, AllByRecursion, Content, State, next, is_free, free_count, IsDistinct, Life, Free, Born, Dead, all-append, all-front, all-back, Takes, IsOut, KeepsBut, FreeIsBlank, FewRows, length-set}
use Rattle.std.proofs.lemmas.List.Recursion.{is_count_by}
use Rattle.mst_path.specs.Takes.{born_with}

-- ---- numbers in lists

pub out_back : (k : ℕ) (xs ys : List ℕ) → IsOut k (xs ++ ys) → IsOut k ys
out_back k xs ys out = all-back (λ r. k ≢ r) xs ys out

pub out_front : (k : ℕ) (xs ys : List ℕ) → IsOut k (xs ++ ys) → IsOut k xs
out_front k xs ys out = all-front (λ r. k ≢ r) xs ys out

pub out_both : (k : ℕ) (xs ys : List ℕ) → IsOut k xs → IsOut k ys → IsOut k (xs ++ ys)
out_both k xs ys a b = all-append (λ r. k ≢ r) xs ys a b

-- each number of the one list is none of the other
abbrev pub Apart : List ℕ → List ℕ → Type 0
Apart xs ys = AllByRecursion (λ x. IsOut x ys) xs

pub distinct-append : (xs ys : List ℕ) → IsDistinct xs → IsDistinct ys → Apart xs ys
    → IsDistinct (xs ++ ys)
distinct-append [] ys a b apart = b
distinct-append (x ∷ xs) ys a b apart =
    (out_both x xs ys a.0 apart.0, distinct-append xs ys a.1 b apart.1)

pub distinct-apart : (xs ys : List ℕ) → IsDistinct (xs ++ ys) → Apart xs ys
distinct-apart [] ys d = tt
distinct-apart (x ∷ xs) ys d = (out_back x xs ys d.0, distinct-apart xs ys d.1)

pub distinct_front : (xs ys : List ℕ) → IsDistinct (xs ++ ys) → IsDistinct xs
distinct_front [] ys d = tt
distinct_front (x ∷ xs) ys d = (out_front x xs ys d.0, distinct_front xs ys d.1)

pub apart_one : (r : ℕ) (xs : List ℕ) → Apart xs (r ∷ []) → IsOut r xs
apart_one r [] apart = tt
apart_one r (x ∷ xs) apart = (λ e. apart.0.0 (sym e), apart_one r xs apart.1)

pub out_flip : (k : ℕ) (xs : List ℕ) → IsOut k xs → AllByRecursion (λ r. r ≢ k) xs
out_flip k [] out = tt
out_flip k (x ∷ xs) out = (λ e. out.0 (sym e), out_flip k xs out.1)

-- ---- lives

set_free : (v : ℕ) (lives : List Life) (r k : ℕ) → slice_get (slice_set lives r (Born v)) k ≡ Some
    Free → (k ≢ r) × (slice_get lives k ≡ Some Free)
set_free v [] r k is = absurd cc
set_free v (l ∷ lives) zero zero is = absurd cc
set_free v (l ∷ lives) zero (suc k) is = (λ e. omega (arith, e), is)
set_free v (l ∷ lives) (suc r) zero is = (λ e. omega (arith, e), is)
set_free v (l ∷ lives) (suc r) (suc k) is =
    let more = set_free v lives r k is in
    (λ e. more.0 (omega (arith, e)), more.1)

pub born_free : (v : ℕ) (rows : List ℕ) (lives : List Life) (k : ℕ)
    → slice_get (born_with v rows lives) k ≡ Some Free → IsOut k rows
    × (slice_get lives k ≡ Some Free)
born_free v [] lives k is = (tt, is)
born_free v (r ∷ rows) lives k is =
    let later = born_free v rows (slice_set lives r (Born v)) k is in
    let first = set_free v lives r k later.1 in
    ((first.0, later.0), first.1)

pub born_append : (v : ℕ) (xs ys : List ℕ) (lives : List Life) → born_with v (xs ++ ys) lives
    ≡ born_with v ys (born_with v xs lives)
born_append v [] ys lives = refl
born_append v (x ∷ xs) ys lives = born_append v xs ys (slice_set lives x (Born v))

pub born_length : (v : ℕ) (rows : List ℕ) (lives : List Life) → length (born_with v rows lives)
    ≡ length lives
born_length v [] lives = refl
born_length v (r ∷ rows) lives = born_length v rows (slice_set lives r (Born v))
    ∙ length-set lives r (Born v)

unfoldable pub frees : List Life → ℕ
frees [] = 0
frees (l ∷ lives) = cond (is_free l) (1 + frees lives) (frees lives)

pub frees_is : (lives : List Life) → frees lives ≡ free_count lives
unfolding frees
frees_is = is_count_by frees is_free refl (λ x xs. refl)

pub frees_drop : (v : ℕ) (lives : List Life) (r : ℕ) → slice_get lives r ≡ Some Free
    → frees (slice_set lives r (Born v)) + 1 ≡ frees lives
unfolding frees
frees_drop v [] r at = absurd cc
frees_drop v (Free ∷ lives) zero at = omega arith
frees_drop v (Born b ∷ lives) zero at = absurd cc
frees_drop v (Dead b d ∷ lives) zero at = absurd cc
frees_drop v (Free ∷ lives) (suc r) at = omega (arith, frees_drop v lives r at)
frees_drop v (Born b ∷ lives) (suc r) at = frees_drop v lives r at
frees_drop v (Dead b d ∷ lives) (suc r) at = frees_drop v lives r at

set_other : (lives : List Life) (r k : ℕ) (x y : Life) → k ≢ r → slice_get lives k ≡ Some y
    → slice_get (slice_set lives r x) k ≡ Some y
set_other [] r k x y other is = is
set_other (l ∷ lives) zero zero x y other is = absurd (other refl)
set_other (l ∷ lives) zero (suc k) x y other is = is
set_other (l ∷ lives) (suc r) zero x y other is = is
set_other (l ∷ lives) (suc r) (suc k) x y other is =
    set_other lives r k x y (λ e. other (omega (arith, e))) is

pub still_free : (v : ℕ) (lives : List Life) (r : ℕ) (rows : List ℕ) → IsOut r rows
    → AllByRecursion (λ k. slice_get lives k ≡ Some Free) rows
    → AllByRecursion (λ k. slice_get (slice_set lives r (Born v)) k ≡ Some Free) rows
still_free v lives r [] out free = tt
still_free v lives r (k ∷ rows) out free = (
  set_other lives r k (Born v) Free (λ e. out.0 (sym e)) free.0,
  still_free v lives r rows out.1
      free.1,
)

born_count : (v : ℕ) (rows : List ℕ) (lives : List Life)
    → AllByRecursion (λ k. slice_get lives k ≡ Some Free) rows → IsDistinct rows
    → free_count (born_with v rows lives) + length rows ≡ free_count lives
born_count v [] lives free once = omega arith
born_count v (r ∷ rows) lives free once =
    let rest = born_count v rows (slice_set lives r (Born v))
    (still_free v lives r rows once.0 free.1) once.1 in
    omega (
      arith,
      rest,
      frees_drop v lives r free.0,
      frees_is lives,
      frees_is
          (slice_set lives r (Born v)),
    )

pub within_length : (lives : List Life) (k : ℕ) → slice_get lives k ≡ Some Free → k < length lives
within_length [] k is = absurd cc
within_length (l ∷ lives) zero is = omega arith
within_length (l ∷ lives) (suc k) is = omega (arith, within_length lives k is)

-- ---- rows that were taken

pub takes_none : (s : State) → Takes s s []
takes_none s = record { free = tt; once = tt; born = refl }

out_of_born : (v : ℕ) (lives : List Life) (xs ys : List ℕ)
    → AllByRecursion (λ k. slice_get (born_with v xs lives) k ≡ Some Free) ys
    → AllByRecursion (λ k. IsOut k xs × (slice_get lives k ≡ Some Free)) ys
out_of_born v lives xs [] free = tt
out_of_born v lives xs (y ∷ ys) free =
    (born_free v xs lives y free.0, out_of_born v lives xs ys free.1)

firsts : (lives : List Life) (xs ys : List ℕ)
    → AllByRecursion (λ k. IsOut k xs × (slice_get lives k ≡ Some Free)) ys
    → AllByRecursion (λ k. slice_get lives k ≡ Some Free) ys
firsts lives xs [] all = tt
firsts lives xs (y ∷ ys) all = (all.0.1, firsts lives xs ys all.1)

out_all : (lives : List Life) (x : ℕ) (xs ys : List ℕ)
    → AllByRecursion (λ k. IsOut k (x ∷ xs) × (slice_get lives k ≡ Some Free)) ys → IsOut x ys
    × AllByRecursion (λ k. IsOut k xs × (slice_get lives k ≡ Some Free)) ys
out_all lives x xs [] all = (tt, tt)
out_all lives x xs (y ∷ ys) all =
    let rest = out_all lives x xs ys all.1 in
    ((λ e. all.0.0.0 (sym e), rest.0), ((all.0.0.1, all.0.1), rest.1))

apart_of : (lives : List Life) (xs ys : List ℕ)
    → AllByRecursion (λ k. IsOut k xs × (slice_get lives k ≡ Some Free)) ys → Apart xs ys
apart_of lives [] ys all = tt
apart_of lives (x ∷ xs) ys all =
    let parts = out_all lives x xs ys all in
    (parts.0, apart_of lives xs ys parts.1)

-- rows that were taken one after another
pub takes_append : (a b c : State) (xs ys : List ℕ) → Takes a b xs → Takes b c ys
    → Takes a c (xs ++ ys)
takes_append a b c xs ys one two =
    let v = next a in
    let free_then : AllByRecursion (λ k. slice_get (born_with v xs a.lives) k ≡ Some Free) ys =
    subst (λ (s : State). AllByRecursion (λ k. slice_get s.lives k ≡ Some Free) ys) one.born
    two.free in
    let later = out_of_born v a.lives xs ys free_then in
    record {
      free = all-append (λ k. slice_get a.lives k ≡ Some Free) xs ys one.free
          (firsts a.lives xs ys later);
      once = distinct-append xs ys one.once two.once (apart_of a.lives xs ys later);
      born = two.born
          ∙ ap (λ (s : State). record s { lives = born_with (next s) ys s.lives }) one.born
          ∙ ap (λ (lives : List Life). record a { lives = lives })
          (sym (born_append v xs ys a.lives));
    }

pub takes_count : (a b : State) (xs : List ℕ) → Takes a b xs → free_count b.lives + length xs
    ≡ free_count a.lives
takes_count a b xs takes =
    ap (λ (s : State). free_count s.lives + length xs) takes.born ∙ born_count (next a) xs a.lives
    takes.free takes.once

pub takes_length : (a b : State) (xs : List ℕ) → Takes a b xs → length b.lives ≡ length a.lives
takes_length a b xs takes = ap (λ (s : State). length s.lives) takes.born ∙ born_length (next a) xs
    a.lives

pub takes_small : (a b : State) (xs : List ℕ) → Takes a b xs → FewRows a.lives
    → AllByRecursion (λ r. r < 65535) xs
takes_small a b xs takes few = go xs takes.free
  where
    go : (ys : List ℕ) → AllByRecursion (λ k. slice_get a.lives k ≡ Some Free) ys
        → AllByRecursion (λ r. r < 65535) ys
    go [] free = tt
    go (y ∷ ys) free = (omega (arith, within_length a.lives y free.0, few), go ys free.1)

pub taken_blank : (a b : State) (xs : List ℕ) (blank : ℕ → Bool) → Takes a b xs
    → FreeIsBlank a.lives blank → AllByRecursion (λ r. IsTrue (blank r)) xs
taken_blank a b xs blank takes free = go xs takes.free
  where
    go : (ys : List ℕ) → AllByRecursion (λ k. slice_get a.lives k ≡ Some Free) ys
        → AllByRecursion (λ r. IsTrue (blank r)) ys
    go [] all = tt
    go (y ∷ ys) all = (free y all.0, go ys all.1)

-- ---- contents

pub keeps_append : (a b c : Content) (xs ys : List ℕ) → KeepsBut xs a b → KeepsBut ys b c
    → KeepsBut (xs ++ ys) a c
keeps_append a b c xs ys one two k out = two k (out_back k xs ys out)
    ∙ one k (out_front k xs ys out)

-- the rows that are kept
pub kept : (a b : Content) (xs ys : List ℕ) → KeepsBut xs a b → Apart ys xs
    → AllByRecursion (λ k. b k ≡ a k) ys
kept a b xs [] keeps apart = tt
kept a b xs (y ∷ ys) keeps apart = (keeps y apart.0, kept a b xs ys keeps apart.1)
