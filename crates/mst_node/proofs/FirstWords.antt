-- Two keys whose first eight bytes differ are in the order of these bytes read as numbers.
use Rattle.mst_node.proofs.Names.{◌≡◌, ℕ, zero, suc, ◌+◌, ◌*◌, ◌<◌, ◌≤◌, ◌==◌, nat_lt, cond, List, [], ◌∷◌, length, take, drop, refl, sym, ◌∙◌, ap, subst, arith, from_be_bytes, IsBytes, key_cmp}
use Rattle.std.proofs.Common.{Ordering, Less, Equal, Greater, nat_cmp}
use Rattle.std.specs.Ordering.{ordering_then}
use Rattle.std.specs.Array.{IsFirstChunk}
use Rattle.std.specs.Int.{w64}
use Rattle.std.proofs.lemmas.Bool.{cond-true, lt-ltb}
use Rattle.std.proofs.lemmas.Cmp.{nat_cmp_total, tied_itself}

-- ---- numbers

pub less : (a b : ℕ) → a < b → nat_cmp a b ≡ Less
less a b lt = cond-true (nat_lt a b) Less (cond (a == b) Equal Greater) (lt-ltb a b lt)

pub greater : (a b : ℕ) → b < a → nat_cmp a b ≡ Greater
greater a b lt = grind arith

pub same : (a b : ℕ) → a ≡ b → nat_cmp a b ≡ Equal
same a b e = ap (nat_cmp a) (sym e) ∙ tied_itself nat_cmp_total a

-- one of the three holds
by_three : {G : Type 0} (a b : ℕ) → (a < b → G) → (a ≡ b → G) → (b < a → G) → G
by_three zero zero l e g = e refl
by_three zero (suc b) l e g = l (omega arith)
by_three (suc a) zero l e g = g (omega arith)
by_three (suc a) (suc b) l e g = by_three a b (λ x. l (omega (arith, x))) (λ x. e (ap suc x))
    (λ x. g (omega (arith, x)))

-- a number of two digits: the high one decides first
digits : (x y a b : ℕ) → a < 256 → b < 256 → nat_cmp (x * 256 + a) (y * 256 + b) ≡ ordering_then
    (nat_cmp x y) (nat_cmp a b)
digits x y a b la lb = by_three x y
    (λ l. less (x * 256 + a) (y * 256 + b) (omega (arith, l, la, lb))
    ∙ sym (ap (λ (r : Ordering). ordering_then r (nat_cmp a b)) (less x y l)))
    (λ e. low e ∙ sym (ap (λ (r : Ordering). ordering_then r (nat_cmp a b)) (same x y e)))
    (λ g. greater (x * 256 + a) (y * 256 + b) (omega (arith, g, la, lb))
    ∙ sym (ap (λ (r : Ordering). ordering_then r (nat_cmp a b)) (greater x y g)))
  where
    low : x ≡ y → nat_cmp (x * 256 + a) (y * 256 + b) ≡ nat_cmp a b
    low e = by_three a b
        (λ l. less (x * 256 + a) (y * 256 + b) (omega (arith, e, l)) ∙ sym (less a b l))
        (λ s. same (x * 256 + a) (y * 256 + b) (omega (arith, e, s)) ∙ sym (same a b s))
        (λ g. greater (x * 256 + a) (y * 256 + b) (omega (arith, e, g)) ∙ sym (greater a b g))

then_assoc : (p q r : Ordering) → ordering_then (ordering_then p q) r ≡ ordering_then p
    (ordering_then q r)
then_assoc Less q r = refl
then_assoc Equal q r = refl
then_assoc Greater q r = refl

-- ---- eight bytes as a word

push : (x y a b : ℕ) (r : Ordering) → a < 256 → b < 256 → ordering_then (nat_cmp x y)
    (ordering_then (nat_cmp a b) r) ≡ ordering_then (nat_cmp (x * 256 + a) (y * 256 + b)) r
push x y a b r la lb = sym (then_assoc (nat_cmp x y) (nat_cmp a b) r)
    ∙ ap (λ (o : Ordering). ordering_then o r) (sym (digits x y a b la lb))

abbrev wide : ℕ → ℕ → ℕ → ℕ → ℕ → ℕ → ℕ → ℕ → ℕ
wide a b c d e f g h = ((((((a * 256 + b) * 256 + c) * 256 + d) * 256 + e) * 256 + f) * 256 + g) *
    256 + h

is_wide : (a b c d e f g h : ℕ) → wide a b c d e f g h ≡ from_be_bytes w64
    (a ∷ b ∷ c ∷ d ∷ e ∷ f ∷ g ∷ h ∷ [])
is_wide a b c d e f g h = omega arith

pub eight : (a b c d e f g h a' b' c' d' e' f' g' h' : ℕ) (r : Ordering)
    → b < 256 → b' < 256 → c < 256 → c' < 256 → d < 256 → d' < 256 → e < 256 → e' < 256
    → f < 256 → f' < 256 → g < 256 → g' < 256 → h < 256 → h' < 256
    → ordering_then (nat_cmp a a')
    (ordering_then (nat_cmp b b')
    (ordering_then (nat_cmp c c')
    (ordering_then (nat_cmp d d')
    (ordering_then (nat_cmp e e')
    (ordering_then (nat_cmp f f')
    (ordering_then (nat_cmp g g') (ordering_then (nat_cmp h h') r)))))))
    ≡ ordering_then
    (nat_cmp (from_be_bytes w64 (a ∷ b ∷ c ∷ d ∷ e ∷ f ∷ g ∷ h ∷ []))
    (from_be_bytes w64 (a' ∷ b' ∷ c' ∷ d' ∷ e' ∷ f' ∷ g' ∷ h' ∷ []))) r
eight a b c d e f g h a' b' c' d' e' f' g' h' r lb lb' lc lc' ld ld' le le' lf lf' lg lg' lh lh' =
    push a a' b b' _ lb lb' ∙ push _ _ c c' _ lc lc' ∙ push _ _ d d' _ ld ld' ∙ push _ _ e e' _ le
    le' ∙ push _ _ f f' _ lf lf' ∙ push _ _ g g' _ lg lg' ∙ push _ _ h h' r lh lh'
    ∙ ap (λ (n : ℕ). ordering_then (nat_cmp n (wide a' b' c' d' e' f' g' h')) r)
    (is_wide a b c d e f g h)
    ∙ ap (λ (n : ℕ). ordering_then
    (nat_cmp (from_be_bytes w64 (a ∷ b ∷ c ∷ d ∷ e ∷ f ∷ g ∷ h ∷ [])) n) r)
    (is_wide a' b' c' d' e' f' g' h')

-- ---- keys of at least eight bytes

abbrev word : List ℕ → ℕ
word x = from_be_bytes w64 (take 8 x)

abbrev Long : List ℕ → Type 0
Long x = (a b c d e f g h : ℕ) × (r : List ℕ) × (x ≡ a ∷ b ∷ c ∷ d ∷ e ∷ f ∷ g ∷ h ∷ r)

long : (x : List ℕ) → 8 ≤ length x → Long x
long [] l = absurd (omega (arith, l))
long (a ∷ []) l = absurd (omega (arith, l))
long (a ∷ b ∷ []) l = absurd (omega (arith, l))
long (a ∷ b ∷ c ∷ []) l = absurd (omega (arith, l))
long (a ∷ b ∷ c ∷ d ∷ []) l = absurd (omega (arith, l))
long (a ∷ b ∷ c ∷ d ∷ e ∷ []) l = absurd (omega (arith, l))
long (a ∷ b ∷ c ∷ d ∷ e ∷ f ∷ []) l = absurd (omega (arith, l))
long (a ∷ b ∷ c ∷ d ∷ e ∷ f ∷ g ∷ []) l = absurd (omega (arith, l))
long (a ∷ b ∷ c ∷ d ∷ e ∷ f ∷ g ∷ h ∷ r) l = (a, b, c, d, e, f, g, h, r, refl)

both : (a b c d e f g h : ℕ) (r : List ℕ) (a' b' c' d' e' f' g' h' : ℕ) (r' : List ℕ)
    → IsBytes (a ∷ b ∷ c ∷ d ∷ e ∷ f ∷ g ∷ h ∷ r)
    → IsBytes (a' ∷ b' ∷ c' ∷ d' ∷ e' ∷ f' ∷ g' ∷ h' ∷ r')
    → key_cmp (a ∷ b ∷ c ∷ d ∷ e ∷ f ∷ g ∷ h ∷ r) (a' ∷ b' ∷ c' ∷ d' ∷ e' ∷ f' ∷ g' ∷ h' ∷ r')
    ≡ ordering_then
    (nat_cmp (from_be_bytes w64 (a ∷ b ∷ c ∷ d ∷ e ∷ f ∷ g ∷ h ∷ []))
    (from_be_bytes w64 (a' ∷ b' ∷ c' ∷ d' ∷ e' ∷ f' ∷ g' ∷ h' ∷ []))) (key_cmp r r')
both a b c d e f g h r a' b' c' d' e' f' g' h' r' x y =
    eight a b c d e f g h a' b' c' d' e' f' g' h' (key_cmp r r') x.1.0 y.1.0 x.1.1.0 y.1.1.0
    x.1.1.1.0 y.1.1.1.0 x.1.1.1.1.0 y.1.1.1.1.0 x.1.1.1.1.1.0 y.1.1.1.1.1.0 x.1.1.1.1.1.1.0
    y.1.1.1.1.1.1.0 x.1.1.1.1.1.1.1.0 y.1.1.1.1.1.1.1.0

by_words : (x y : List ℕ) → 8 ≤ length x → 8 ≤ length y → IsBytes x → IsBytes y
    → key_cmp x y ≡ ordering_then (nat_cmp (word x) (word y)) (key_cmp (drop 8 x) (drop 8 y))
by_words x y lx ly bx by =
    let p = long x lx in
    let q = long y ly in
    go x y p.0 p.1 p.2 p.3 p.4 p.5 p.6 p.7 p.8 p.9 q.0 q.1 q.2 q.3 q.4 q.5 q.6 q.7 q.8 q.9 bx by
  where
    go : (x y : List ℕ) (a b c d e f g h : ℕ) (r : List ℕ)
        → x ≡ a ∷ b ∷ c ∷ d ∷ e ∷ f ∷ g ∷ h ∷ r → (a' b' c' d' e' f' g' h' : ℕ) (r' : List ℕ)
        → y ≡ a' ∷ b' ∷ c' ∷ d' ∷ e' ∷ f' ∷ g' ∷ h' ∷ r' → IsBytes x → IsBytes y
        → key_cmp x y ≡ ordering_then (nat_cmp (word x) (word y))
        (key_cmp (drop 8 x) (drop 8 y))
    go x y a b c d e f g h r ex a' b' c' d' e' f' g' h' r' ey bx by =
        let bs = subst IsBytes ex bx in
        let cs = subst IsBytes ey by in
        rw (ex, ey) (both a b c d e f g h r a' b' c' d' e' f' g' h' r' bs cs)

pub words-less : (x y : List ℕ) → 8 ≤ length x → 8 ≤ length y → IsBytes x → IsBytes y
    → from_be_bytes w64 (take 8 x) < from_be_bytes w64 (take 8 y) → key_cmp x y ≡ Less
words-less x y lx ly bx by l =
    by_words x y lx ly bx by
    ∙ ap (λ (o : Ordering). ordering_then o (key_cmp (drop 8 x) (drop 8 y)))
    (less (word x) (word y) l)

pub words-greater : (x y : List ℕ) → 8 ≤ length x → 8 ≤ length y → IsBytes x → IsBytes y
    → from_be_bytes w64 (take 8 y) < from_be_bytes w64 (take 8 x) → key_cmp x y ≡ Greater
words-greater x y lx ly bx by l =
    by_words x y lx ly bx by
    ∙ ap (λ (o : Ordering). ordering_then o (key_cmp (drop 8 x) (drop 8 y)))
    (greater (word x) (word y) l)

-- ---- as two calls read the words

pub chunks-less : (x y a b : List ℕ) (m n : ℕ) → IsFirstChunk x a 8 → IsFirstChunk y b 8 → IsBytes x
    → IsBytes y → m ≡ from_be_bytes w64 a → n ≡ from_be_bytes w64 b → m < n → key_cmp x y ≡ Less
chunks-less x y a b m n ax by bx cy em en l =
    let p : m ≡ word x = em ∙ ap (from_be_bytes w64) ax.same in
    let q : n ≡ word y = en ∙ ap (from_be_bytes w64) by.same in
    words-less x y ax.enough by.enough bx cy
    (subst (λ (t : ℕ). word x < t) q (subst (λ (t : ℕ). t < n) p l))

pub chunks-greater : (x y a b : List ℕ) (m n : ℕ) → IsFirstChunk x a 8 → IsFirstChunk y b 8
    → IsBytes x → IsBytes y → m ≡ from_be_bytes w64 a → n ≡ from_be_bytes w64 b → n < m
    → key_cmp x y ≡ Greater
chunks-greater x y a b m n ax by bx cy em en l =
    let p : m ≡ word x = em ∙ ap (from_be_bytes w64) ax.same in
    let q : n ≡ word y = en ∙ ap (from_be_bytes w64) by.same in
    words-greater x y ax.enough by.enough bx cy
    (subst (λ (t : ℕ). t < word x) q (subst (λ (t : ℕ). n < t) p l))
