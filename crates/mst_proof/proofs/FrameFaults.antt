-- If no texts and no claim are read from a proof, its frame fails the test whose fault is returned.
use Rattle.mst_proof.proofs.Names.{Format, One, Two, ◌≡◌, ◌≤◌, ◌<◌, ℕ, Bool, true, false, ◌==◌, cond, List, [], ◌∷◌, ◌++◌, length, Option, Some, None, ◌⊎◌, inl, inr, refl, sym, ◌∙◌, ap, subst, arith, length-append, take, drop, nat_lt, Result, Ok, Err, nat_tests, append-nil, take-append-drop, length-take, IsBytes, format_byte, framed, none-some, some_same, ProofFault, FormatByte, CutShort, LeftOver, Claim, Nothing, Absence, Unfit, ◌>>◌, texts_at, alone, given, value_at, claim_at, claimed_at, count_at, frame_at, IsTail, Frames, FrameFails}
use Rattle.mst_proof.proofs.Framed.{texts_takes, texts_again, IsFrame, alone_done}

abbrev pub err : {A : Type 0} → ProofFault → Result A ProofFault
err f = Err f

pub err_same : {A : Type 0} (a b : ProofFault) → err {A = A} a ≡ err b → a ≡ b
err_same a b e = cc

-- two lists with a first element
pub same_head : {A : Type 0} (a b : A) (xs ys : List A) → a ∷ xs ≡ b ∷ ys → (a ≡ b) × (xs ≡ ys)
same_head a b xs ys e = (cc, cc)

-- ---- the claim

-- bytes whose claim is read are a tail
pub is_tail : (format : Format) (rest : List ℕ) (claim : Claim) → claim_at format rest ≡ Ok claim
    → IsTail format rest
is_tail One rest claim e = (alone_done Nothing claim rest e).0
is_tail Two [] claim e = absurd (cc (e))
is_tail Two (b ∷ bytes) claim e = go (b == 1) refl e
  where
    whole : (n : ℕ) (xs : List ℕ) (t : Bool) → nat_lt (length xs) n ≡ t → cond t (Err CutShort)
        (alone (given (take n xs)) (drop n xs)) ≡ Ok claim → (value : List ℕ)
        × (1 ∷ n ∷ xs ≡ 1 ∷ length value ∷ value)
    whole n xs true is e = absurd (cc (e))
    whole n xs false is e =
        let none = (alone_done (given (take n xs)) claim (drop n xs) e).0 in
        let fits : n ≤ length xs = grind (arith, nat_tests) in
        let size : n ≡ length (take n xs) = omega (arith, length-take n xs) in
        let all : xs ≡ take n xs = sym (take-append-drop n xs)
        ∙ ap (λ (ys : List ℕ). take n xs ++ ys) none ∙ append-nil (take n xs) in (
          take n xs,
          ap (λ (m : ℕ). 1 ∷ m ∷ xs) size
              ∙ ap (λ (ys : List ℕ). 1 ∷ length (take n xs) ∷ ys) all,
        )

    value : (xs : List ℕ) → value_at xs ≡ Ok claim → (value : List ℕ)
        × (1 ∷ xs ≡ 1 ∷ length value ∷ value)
    value [] e = absurd (cc (e))
    value (n ∷ xs) e = whole n xs (nat_lt (length xs) n) refl e

    go : (t : Bool) → (b == 1) ≡ t → cond t (value_at bytes)
        (alone (cond (b == 0) Absence Unfit) bytes) ≡ Ok claim → IsTail Two (b ∷ bytes)
    go true is e =
        let one : b ≡ 1 = grind (arith, nat_tests) in
        let v = value bytes e in
        inr (v.0, ap (λ (x : ℕ). x ∷ bytes) one ∙ v.1)
    go false is e =
        inl (
          b,
          λ one. let c : ⊥ = grind (arith, nat_tests) in c,
          ap (λ (xs : List ℕ). b ∷ xs)
              (alone_done (cond (b == 0) Absence Unfit) claim bytes e).0,
        )

-- no front of the bytes is a tail, or a byte stands after one
abbrev ClaimFails : Format → List ℕ → ProofFault → Type 0
ClaimFails format rest fault =
    ((fault ≡ CutShort) × ((tail more : List ℕ) → IsTail format tail → rest ≡ tail ++ more → ⊥))
    ⊎ ((fault ≡ LeftOver) × (tail : List ℕ) × (b : ℕ) × (more : List ℕ) × IsTail format tail
    × (rest ≡ tail ++ b ∷ more))

-- a byte after a claim
alone_fault : (claim : Claim) (rest : List ℕ) (fault : ProofFault) → alone claim rest ≡ Err fault
    → (fault ≡ LeftOver) × (b : ℕ) × (more : List ℕ) × (rest ≡ b ∷ more)
alone_fault claim [] fault e = absurd (cc (e))
alone_fault claim (b ∷ more) fault e = (sym (err_same {A = Claim} LeftOver fault e), b, more, refl)

-- a value that is cut short
cut_value : (b : ℕ) (xs : List ℕ) → b ≡ 1
    → ((value more : List ℕ) → xs ≡ length value ∷ value ++ more → ⊥) → (tail more : List ℕ)
    → IsTail Two tail → b ∷ xs ≡ tail ++ more → ⊥
cut_value b xs one none tail more (inl t) e =
    let f : b ∷ xs ≡ t.0 ∷ more = e ∙ ap (λ (ys : List ℕ). ys ++ more) t.2 in
    t.1 (sym (same_head b t.0 xs more f).0 ∙ one)
cut_value b xs one none tail more (inr t) e =
    let f : b ∷ xs ≡ 1 ∷ length t.0 ∷ t.0 ++ more = e ∙ ap (λ (ys : List ℕ). ys ++ more) t.1 in
    none t.0 more (same_head b 1 xs (length t.0 ∷ t.0 ++ more) f).1

claim_fails : (format : Format) (rest : List ℕ) (fault : ProofFault) → claim_at format rest
    ≡ Err fault → ClaimFails format rest fault
claim_fails One rest fault e = let a = alone_fault Nothing rest fault e in
    inr (a.0, [], a.1, a.2, refl, a.3)
claim_fails Two [] fault e = inl (sym (err_same {A = Claim} CutShort fault e), none)
  where
    none : (tail more : List ℕ) → IsTail Two tail → [] ≡ tail ++ more → ⊥
    none tail more (inl t) e = let f : [] ≡ t.0 ∷ more = e ∙ ap (λ (ys : List ℕ). ys ++ more) t.2 in
        absurd (cc (f))
    none tail more (inr t) e = let f : [] ≡ 1 ∷ length t.0 ∷ t.0 ++ more =
        e ∙ ap (λ (ys : List ℕ). ys ++ more) t.1 in absurd (cc (f))
claim_fails Two (b ∷ bytes) fault e = go (b == 1) refl e
  where
    whole : (n : ℕ) (xs : List ℕ) (t : Bool) → b ≡ 1 → nat_lt (length xs) n ≡ t
        → cond t (Err CutShort) (alone (given (take n xs)) (drop n xs)) ≡ Err fault
        → ClaimFails Two (b ∷ n ∷ xs) fault
    whole n xs true one is e =
        let short : length xs < n = grind (arith, nat_tests) in
        inl (
          sym (err_same {A = Claim} CutShort fault e),
          cut_value b (n ∷ xs) one (λ v more f.
              let h = same_head n (length v) xs (v ++ more) f in
              omega (arith, short, h.0, ap length h.1, length-append v more)),
        )
    whole n xs false one is e =
        let a = alone_fault (given (take n xs)) (drop n xs) fault e in
        let fits : n ≤ length xs = grind (arith, nat_tests) in
        let size : n ≡ length (take n xs) = omega (arith, length-take n xs) in
        let all : xs ≡ take n xs ++ a.1 ∷ a.2 = sym (take-append-drop n xs)
        ∙ ap (λ (ys : List ℕ). take n xs ++ ys) a.3 in
        inr (
          a.0,
          1 ∷ length (take n xs) ∷ take n xs,
          a.1,
          a.2,
          inr (take n xs, refl),
          ap (λ (x : ℕ). x ∷ n ∷ xs) one ∙ ap (λ (m : ℕ). 1 ∷ m ∷ xs) size
              ∙ ap (λ (ys : List ℕ). 1 ∷ length (take n xs) ∷ ys) all,
        )

    value : (xs : List ℕ) → b ≡ 1 → value_at xs ≡ Err fault → ClaimFails Two (b ∷ xs) fault
    value [] one e =
        inl (
          sym (err_same {A = Claim} CutShort fault e),
          cut_value b [] one
              (λ v more f. absurd (cc (f))),
        )
    value (n ∷ xs) one e = whole n xs (nat_lt (length xs) n) one refl e

    go : (t : Bool) → (b == 1) ≡ t → cond t (value_at bytes)
        (alone (cond (b == 0) Absence Unfit) bytes) ≡ Err fault → ClaimFails Two (b ∷ bytes) fault
    go true is e = value bytes (let one : b ≡ 1 = grind (arith, nat_tests) in one) e
    go false is e =
        let a = alone_fault (cond (b == 0) Absence Unfit) bytes fault e in
        inr (
          a.0,
          b ∷ [],
          a.1,
          a.2,
          inl (b, λ one. let c : ⊥ = grind (arith, nat_tests) in c, refl),
          ap (λ (xs : List ℕ). b ∷ xs) a.3,
        )

-- ---- the frame

format_byte_cut : (format : Format) (v : ℕ) → v ≡ format_byte format → FrameFails format (v ∷ [])
    CutShort
format_byte_cut format v one = (
  λ w rest e. sym (same_head v w [] rest e).0 ∙ one,
  λ texts tail rest is e. let f = (same_head v (format_byte format) [] _ e.whole).1 in
      absurd (cc (f)),
)

-- of bytes that frame texts and a tail these texts are read, and the tail stands after them
read_again : (format : Format) (v n : ℕ) (xs : List ℕ) (texts : List (List ℕ)) (tail rest : List ℕ)
    → Frames format (v ∷ n ∷ xs) texts tail rest → texts_at n xs ≡ Some (texts, tail ++ rest)
read_again format v n xs texts tail rest e =
    let f = same_head n (length texts) xs (framed texts ++ (tail ++ rest))
    (same_head v (format_byte format) (n ∷ xs) _ e.whole).1 in
    ap (λ (m : ℕ). texts_at m xs) f.0 ∙ ap (texts_at (length texts)) f.1 ∙ texts_again texts
    (tail ++ rest) e.short

cut_short : (format : Format) (v n : ℕ) (xs : List ℕ) → v ≡ format_byte format
    → ((texts : List (List ℕ)) (tail rest : List ℕ) → IsTail format tail → texts_at n xs ≡ Some
    (texts, tail ++ rest) → ⊥) → FrameFails format (v ∷ n ∷ xs) CutShort
cut_short format v n xs one none = (
  λ w rest e. sym (same_head v w (n ∷ xs) rest e).0 ∙ one,
  λ texts tail rest is e. none texts tail rest is (read_again format v n xs texts tail rest e),
)

abbrev pub with_texts : List (List ℕ) → Claim → Result (List (List ℕ) × Claim) ProofFault
with_texts us claim = Ok (us, claim)

pub frame_fault : (format : Format) (proof : List ℕ) (fault : ProofFault) → IsBytes proof
    → frame_at format proof ≡ Err fault → FrameFails format proof fault
frame_fault format [] fault b e =
    subst (FrameFails format []) (err_same {A = List (List ℕ) × Claim} CutShort fault e)
    ((λ v rest f. absurd (cc (f))), λ texts tail rest is f. cc (f.whole))
frame_fault format (v ∷ bytes) fault b e = go (v == format_byte format) refl bytes b e
  where
    claims : (n : ℕ) (xs : List ℕ) (us : List (List ℕ)) (rest : List ℕ) → v ≡ format_byte format
        → IsBytes xs → texts_at n xs ≡ Some (us, rest) → ClaimFails format rest fault
        → FrameFails format (v ∷ n ∷ xs) fault
    claims n xs us rest one b is (inl c) =
        subst (FrameFails format (v ∷ n ∷ xs)) (sym c.0)
        (cut_short format v n xs one (λ texts tail more t again.
        let same = some_same (us, rest) (texts, tail ++ more) (sym is ∙ again) in
        c.1 tail more t (ap (λ (p : List (List ℕ) × List ℕ). p.1) same)))
    claims n xs us rest one b is (inr c) =
        let takes = texts_takes n xs (us, rest) is b in
        let whole : v ∷ n ∷ xs ≡ format_byte format ∷ length us ∷ framed us ++ rest =
        ap (λ (w : ℕ). w ∷ n ∷ xs) one ∙ ap (λ (m : ℕ). format_byte format ∷ m ∷ xs) (sym takes.1)
        ∙ ap (λ (ys : List ℕ). format_byte format ∷ length us ∷ ys) takes.0 in
        subst (FrameFails format (v ∷ n ∷ xs)) (sym c.0) (
          us,
          c.1,
          c.2,
          c.3,
          c.4,
          record {
            short = takes.4;
            whole = whole ∙ ap (λ (ys : List ℕ). format_byte format ∷ length us ∷ framed us ++ ys)
                c.5;
          },
        )

    read : (us : List (List ℕ)) (r : Result Claim ProofFault) → (r >> λ claim. with_texts us claim)
        ≡ Err fault → r ≡ Err fault
    read us (Ok claim) e = absurd (cc (e))
    read us (Err g) e = ap Err (err_same {A = List (List ℕ) × Claim} g fault e)

    left : (n : ℕ) (xs : List ℕ) → v ≡ format_byte format → IsBytes xs
        → (r : Option (List (List ℕ) × List ℕ)) → texts_at n xs ≡ r → claimed_at format r
        ≡ Err fault → FrameFails format (v ∷ n ∷ xs) fault
    left n xs one b None is e =
        subst (FrameFails format (v ∷ n ∷ xs))
        (err_same {A = List (List ℕ) × Claim} CutShort fault e)
        (cut_short format v n xs one
        (λ texts tail rest t again. none-some (texts_at n xs) (texts, tail ++ rest) is again))
    left n xs one b (Some t) is e =
        claims n xs t.0 t.1 one b is
        (claim_fails format t.1 fault (read t.0 (claim_at format t.1) e))

    go : (t : Bool) → (v == format_byte format) ≡ t → (xs : List ℕ) → IsBytes (v ∷ xs)
        → (cond t (count_at xs) (Err FormatByte) >> λ h. claimed_at format (texts_at h.0 h.1))
        ≡ Err fault → FrameFails format (v ∷ xs) fault
    go false is xs b e =
        subst (FrameFails format (v ∷ xs)) (err_same {A = List (List ℕ) × Claim} FormatByte fault e)
        (v, xs, refl, λ one. let c : ⊥ = grind (arith, nat_tests) in c)
    go true is [] b e =
        subst (FrameFails format (v ∷ [])) (err_same {A = List (List ℕ) × Claim} CutShort fault e)
        (format_byte_cut format v (let one : v ≡ format_byte format = grind (arith, nat_tests) in
        one))
    go true is (n ∷ xs) b e =
        left n xs (let one : v ≡ format_byte format = grind (arith, nat_tests) in one) b.1.1
        (texts_at n xs) refl e

-- bytes that are read as texts and a claim frame the texts and a tail, and nothing after it
pub frame_whole : (format : Format) (bytes : List ℕ) (ts : List (List ℕ)) (claim : Claim)
    (frame : IsFrame format bytes ts claim) → Frames format bytes ts frame.rest []
frame_whole format bytes ts claim frame =
    record {
      short = frame.short;
      whole = frame.whole ∙ ap (λ (xs : List ℕ). format_byte format ∷ length ts ∷ framed ts ++ xs)
          (sym (append-nil frame.rest));
    }
