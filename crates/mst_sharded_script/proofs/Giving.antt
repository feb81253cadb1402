-- Readers that are given to passes, one after another.
use Rattle.mst_sharded_script.proofs.Names.{◌≡◌, ◌+◌, ◌<◌, List, [], ◌∷◌, ◌++◌, length, refl, sym, ap, ◌∙◌, arith, append-nil, Whole, PassState, with_readers}
use Rattle.std.proofs.Common.{append_assoc}
use Rattle.std.proofs.lemmas.List.{nil_from_length}
use Rattle.mst_sharded_script.specs.States.{with_reader}

-- one more at the end
one_more : (done : List Whole) (front : List PassState) (r : Whole) (p : PassState)
    → length done ≡ length front
    → with_readers (done ++ r ∷ []) (front ++ p ∷ [])
    ≡ with_readers done front ++ with_reader r p ∷ []
one_more [] [] r p same = refl
one_more [] (q ∷ front) r p same = absurd (omega (arith, same))
one_more (d ∷ done) [] r p same = absurd (omega (arith, same))
one_more (d ∷ done) (q ∷ front) r p same =
    ap (λ (l : List PassState). with_reader d q ∷ l)
    (one_more done front r p (omega (arith, same)))

-- ---- a queue: those that are still to come, and behind them those that have their readers

first_of : (p q : PassState) (xs ys : List PassState) → p ∷ xs ≡ q ∷ ys → (p ≡ q) × (xs ≡ ys)
first_of p q xs ys is = (cc, cc)

pub gives_more : (passes queue left new : List PassState) (done : List Whole)
    (front rest : List PassState) (r : Whole) (p q : PassState) → length done ≡ length front
    → passes ≡ front ++ rest → queue ≡ rest ++ with_readers done front → 0 < length rest
    → queue ≡ p ∷ left → q ≡ with_reader r p → new ≡ left ++ q ∷ []
    → (rest' : List PassState) × (passes ≡ (front ++ p ∷ []) ++ rest')
    × (new ≡ rest' ++ with_readers (done ++ r ∷ []) (front ++ p ∷ []))
    × (length rest' + 1 ≡ length rest)
gives_more passes queue left new done front [] r p q same are is some popped gave pushed =
    absurd (omega (arith, some))
gives_more passes queue left new done front (x ∷ rest) r p q same are is some popped gave pushed =
    let both = first_of x p (rest ++ with_readers done front) left (sym is ∙ popped) in (
      rest,
      are ∙ ap (λ (y : PassState). front ++ y ∷ rest) both.0
          ∙ sym (append_assoc front (p ∷ []) rest),
      pushed ∙ ap (λ (y : PassState). left ++ y ∷ []) gave
          ∙ ap (λ (l : List PassState). l ++ with_reader r p ∷ []) (sym both.1)
          ∙ append_assoc rest (with_readers done front) (with_reader r p ∷ [])
          ∙ ap (λ (l : List PassState). rest ++ l) (sym (one_more done front r p same)),
      omega arith,
    )

pub all_given : (passes queue : List PassState) (done : List Whole) (front rest : List PassState)
    → passes ≡ front ++ rest → queue ≡ rest ++ with_readers done front → length rest ≡ 0
    → queue ≡ with_readers done passes
all_given passes queue done front rest are is none =
    let empty = nil_from_length rest none in
    is ∙ ap (λ (l : List PassState). l ++ with_readers done front) empty
    ∙ ap (λ (l : List PassState). with_readers done l)
    (sym (are ∙ ap (λ (l : List PassState). front ++ l) empty ∙ append-nil front))
