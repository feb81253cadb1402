-- Numerals, and the bytes round them.
use Rattle.mst_replay.proofs.Names.{◌≡◌, ℕ, ◌+◌, ◌<◌, ◌^◌, Option, Some, None, List, [], ◌∷◌, ◌++◌, length, take, drop, true, false, eqb, sym, refl, ap, ◌∙◌, subst, arith, decimal}
use Rattle.std.proofs.Common.{Result, Ok, Err}
use Rattle.std.specs.Result.{result_ok, MatchResult}
use Rattle.std.proofs.lemmas.Slice.Eq.{strip_prefix_is}
use Rattle.std.proofs.lemmas.Bool.Decides.{Decides-eqb}
use lib.Pointwise.{pointwise}
use denote.Ref.{Bor}
use Rattle.std.specs.Option.{MatchOption, IfSome, IfNone}
use Rattle.std.specs.Str.{IsUtf8}
use Rattle.std.specs.Str.Parse.{ParsesUnsigned}
use Rattle.std.proofs.lemmas.Str.{IsUtf8-from_ascii}
use Rattle.std.proofs.lemmas.Fmt.{decimal_injective, parse-decimal, IsAscii-decimal}

pub wide : (n : ℕ) → n < 256 → n < 2 ^ 64
wide n l = omega arith

pub parsed : {E : Type 0} (n : ℕ) (bs digits : List ℕ) (r : Result ℕ E) → ParsesUnsigned 8 10 bs r
    → bs ≡ digits → digits ≡ decimal n → n < 256 → result_ok r ≡ Some n
parsed n bs digits r h same e l = ap result_ok (parse-decimal 8 n bs r l (wide n l) (same ∙ e) h)

pub text_of_decimal : (n : ℕ) (digits : List ℕ) → digits ≡ decimal n → n < 256 → IsUtf8 digits
text_of_decimal n digits e l =
    subst IsUtf8 (sym e) (IsUtf8-from_ascii (decimal n) (IsAscii-decimal n (wide n l)))

pub err_of : {T E : Type 0} (r : Result T E) (P : T → Type 0) (Q : E → Type 0) → MatchResult r P Q
    → result_ok r ≡ None → (e : E) × Q e
err_of (Ok x) P Q h e = absurd (let f : Some x ≡ None = e in cc)
err_of (Err x) P Q h e = (x, h)

pub ok_of : {T E : Type 0} (r : Result T E) (P : T → Type 0) (Q : E → Type 0) (x : T)
    → MatchResult r P Q → result_ok r ≡ Some x → P x
ok_of (Ok y) P Q x h e = let f : y ≡ x = (let g : Some y ≡ Some x = e in cc) in subst P f h
ok_of (Err y) P Q x h e = absurd (let f : None ≡ Some x = e in cc)

pub cancel : {A : Type 0} (p xs ys : List A) → p ++ xs ≡ p ++ ys → xs ≡ ys
cancel [] xs ys e = e
cancel (x ∷ p) xs ys e = cancel p xs ys (let f : x ∷ (p ++ xs) ≡ x ∷ (p ++ ys) = e in cc)

pub same_number : (m n : ℕ) (p line : List ℕ) → m < 256 → n < 256 → line ≡ p ++ decimal m
    → line ≡ p ++ decimal n → m ≡ n
same_number m n p line a b e f = decimal_injective m n (wide m a) (wide n b)
    (cancel p (decimal m) (decimal n) (sym e ∙ f))

pub ap_decimal : (m n : ℕ) → m ≡ n → decimal m ≡ decimal n
ap_decimal m n e = ap decimal e

-- ---- a prefix taken off

abbrev pub Stripped : List ℕ → List ℕ → Option (Bor (List ℕ)) → Type 0
Stripped s p r = MatchOption r (pointwise eqb (take (length p) s) p ≡ false)
    (λ x. (pointwise eqb (take (length p) s) p ≡ true) × (x.now ≡ drop (length p) s)
    × (length x.now + length p ≡ length s))

none_of : {A : Type 0} (r : Option A) (P : Type 0) (Q : A → Type 0) → MatchOption r P Q → r ≡ None
    → P
none_of None P Q h e = h
none_of (Some x) P Q h e = absurd (let f : Some x ≡ None = e in cc)

some_of : {A : Type 0} (r : Option A) (P : Type 0) (Q : A → Type 0) (x : A) → MatchOption r P Q
    → r ≡ Some x → Q x
some_of None P Q x h e = absurd (let f : None ≡ Some x = e in cc)
some_of (Some y) P Q x h e = subst Q (let f : Some y ≡ Some x = e in cc) h

pub strip_none : (s p : List ℕ) (r : Option (Bor (List ℕ))) → Stripped s p r → r ≡ None
    → (rest : List ℕ) → s ≡ p ++ rest → ⊥
strip_none s p r h e = none_of r _ _ (strip_prefix_is (λ a b. Decides-eqb a b) s p r h) e

pub strip_some : (s p : List ℕ) (r : Option (Bor (List ℕ))) → Stripped s p r → (x : Bor (List ℕ))
    → r ≡ Some x → s ≡ p ++ x.now
strip_some s p r h x e = some_of r _ _ x (strip_prefix_is (λ a b. Decides-eqb a b) s p r h) e

pub if_some_prefixed : (line p rest : List ℕ) (r : Option ℕ) → line ≡ p ++ rest
    → IfSome r (λ n. rest ≡ decimal n) → IfSome r (λ n. line ≡ p ++ decimal n)
if_some_prefixed line p rest None e h = h
if_some_prefixed line p rest (Some n) e h = e ∙ ap (λ (z : List ℕ). p ++ z) h

pub if_none : {A : Type 0} (r : Option A) (P : Type 0) → P → IfNone r P
if_none None P h = h
if_none (Some x) P h = tt

pub tail_same : (x : ℕ) (xs ys : List ℕ) → x ∷ xs ≡ x ∷ ys → xs ≡ ys
tail_same x xs ys e = cc

pub empty_of : (xs : List ℕ) → length xs < 1 → xs ≡ []
empty_of [] l = refl
empty_of (x ∷ xs) l = absurd (omega arith)
