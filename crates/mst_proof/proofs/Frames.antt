-- Texts cut out of bytes, one after another.
use Rattle.mst_proof.proofs.Names.{◌≡◌, ℕ, zero, suc, ◌==◌, List, [], ◌∷◌, length, Option, Some, None, refl, sym, ◌∙◌, ap, arith, take, drop, IsBytes, ◌>>=◌, bind_ok, some_same, Err, Format, CutShort, text_at, texts_or_none, claimed_at}
use Rattle.std.specs.Prelude.{option_map, unwrap_or}
use Rattle.mst_proof.specs.Frame.{texts_at, rest_at}

-- as many texts are read as were asked for
pub texts-count : (n : ℕ) (bytes : List ℕ) (p : List (List ℕ) × List ℕ) → texts_at n bytes ≡ Some p
    → length p.0 ≡ n
unfolding texts_at
texts-count zero bytes p h = ap (λ (q : List (List ℕ) × List ℕ). length q.0)
    (sym (some_same ([], bytes) p h))
texts-count (suc n) bytes p h =
    let r1 = bind_ok (text_at bytes) _ p h in
    let r2 = bind_ok (texts_at n r1.0.1) _ p r1.2 in
    ap (λ (q : List (List ℕ) × List ℕ). length q.0)
    (sym (some_same (r1.0.0 ∷ r2.0.0, r2.0.1) p r2.2)) ∙ ap suc (texts-count n r1.0.1 r2.0 r2.1)

pub is_none : (n : ℕ) (bytes : List ℕ) → n ≡ 0 → texts_or_none n bytes ≡ []
unfolding texts_at
is_none zero bytes e = refl
is_none (suc n) bytes e = absurd (omega (arith, e))

-- whether there are texts
pub is_empty : (n : ℕ) (ts : List (List ℕ)) → length ts ≡ n → (n == 0) ≡ (length ts == 0)
is_empty n ts e = ap (λ (k : ℕ). k == 0) (sym e)

-- the first text, and the texts after it
pub texts-step : (n k : ℕ) (bytes : List ℕ) (p : List (List ℕ) × List ℕ) (t : List ℕ × List ℕ)
    → texts_at n bytes ≡ Some p → n ≡ suc k → text_at bytes ≡ Some t → (us : List (List ℕ))
    × (p.0 ≡ t.0 ∷ us) × (texts_at k t.1 ≡ Some (us, p.1))
unfolding texts_at
texts-step zero k bytes p t h e r = absurd (omega (arith, e))
texts-step (suc n) k bytes p t h e r =
    let first = bind_ok (text_at bytes) _ p h in
    let rest = bind_ok (texts_at n first.0.1) _ p first.2 in
    let one : first.0 ≡ t = some_same first.0 t (sym first.1 ∙ r) in
    let all : (first.0.0 ∷ rest.0.0, rest.0.1) ≡ p = some_same _ p rest.2 in
    let same : n ≡ k = omega (arith, e) in
    let read : texts_at k t.1 ≡ Some rest.0 = ap (λ (j : ℕ). texts_at j t.1) (sym same)
    ∙ ap (λ (x : List ℕ × List ℕ). texts_at n x.1) (sym one) ∙ rest.1 in (
      rest.0.0,
      ap (λ (x : List (List ℕ) × List ℕ). x.0) (sym all)
          ∙ ap (λ (x : List ℕ × List ℕ). x.0 ∷ rest.0.0) one,
      read
          ∙ ap (λ (x : List (List ℕ) × List ℕ). Some (rest.0.0, x.1)) all,
    )

-- there is a first text
pub texts-first : (n : ℕ) (bytes : List ℕ) (p : List (List ℕ) × List ℕ) → texts_at n bytes ≡ Some p
    → (n ≡ 0 → ⊥) → text_at bytes ≡ None → ⊥
unfolding texts_at
texts-first zero bytes p h some none = some refl
texts-first (suc n) bytes p h some none = let first = bind_ok (text_at bytes) _ p h in
    absurd (cc (first.1, none))

-- what is read is read, whichever way it is seen
pub seen_texts : (n : ℕ) (bytes : List ℕ) (ts : List (List ℕ)) (left : List ℕ) → texts_at n bytes
    ≡ Some (ts, left) → texts_or_none n bytes ≡ ts
seen_texts n bytes ts left h =
    ap (λ (r : Option (List (List ℕ) × List ℕ)). (unwrap_or r ([], [])).0) h

pub holds_texts : (n : ℕ) (bytes : List ℕ) (ts : List (List ℕ)) (left : List ℕ) → texts_at n bytes
    ≡ Some (ts, left) → texts_at n bytes ≡ Some (texts_or_none n bytes, left)
holds_texts n bytes ts left h = h ∙ ap (λ (x : List (List ℕ)). Some (x, left))
    (sym (seen_texts n bytes ts left h))

-- ---- the bytes after the texts

pub rest_more : (n k : ℕ) (bytes : List ℕ) (t : List ℕ × List ℕ) → n ≡ suc k → text_at bytes ≡ Some
    t → rest_at k t.1 ≡ rest_at n bytes
unfolding rest_at
rest_more zero k bytes t e h = absurd (omega (arith, e))
rest_more (suc n) k bytes t e h =
    let same : k ≡ n = omega (arith, e) in
    ap (λ (j : ℕ). rest_at j t.1) same
    ∙ sym (ap (λ (r : Option (List ℕ × List ℕ)). r >>= λ x. rest_at n x.1) h)

pub rest-texts : (n : ℕ) (bytes : List ℕ) → rest_at n bytes ≡ option_map
    (λ (p : List (List ℕ) × List ℕ). p.1) (texts_at n bytes)
unfolding rest_at texts_at
rest-texts zero bytes = refl
rest-texts (suc n) bytes = go (rest-texts n) (text_at bytes)
  where
    on : (t : List ℕ) (r : Option (List (List ℕ) × List ℕ))
        → option_map (λ (p : List (List ℕ) × List ℕ). p.1) r ≡ option_map
        (λ (p : List (List ℕ) × List ℕ). p.1) (r >>= λ ts. Some (t ∷ ts.0, ts.1))
    on t None = refl
    on t (Some ts) = refl

    go : ((rest : List ℕ) → rest_at n rest ≡ option_map (λ (p : List (List ℕ) × List ℕ). p.1)
        (texts_at n rest)) → (r : Option (List ℕ × List ℕ)) → (r >>= λ t. rest_at n t.1)
        ≡ option_map (λ (p : List (List ℕ) × List ℕ). p.1)
        (r >>= λ t. texts_at n t.1 >>= λ ts. Some (t.0 ∷ ts.0, ts.1))
    go next None = refl
    go next (Some t) = next t.1 ∙ on t.0 (texts_at n t.1)

-- ---- the frame, by what lies after the texts

pub texts-short : (format : Format) (n : ℕ) (bytes : List ℕ) → rest_at n bytes ≡ None
    → claimed_at format (texts_at n bytes) ≡ Err CutShort
texts-short format n bytes h = go (texts_at n bytes) (sym (rest-texts n bytes) ∙ h)
  where
    go : (r : Option (List (List ℕ) × List ℕ)) → option_map (λ (p : List (List ℕ) × List ℕ). p.1) r
        ≡ None → claimed_at format r ≡ Err CutShort
    go None e = refl
    go (Some p) e = absurd (cc)

pub texts-whole : (n : ℕ) (bytes rest : List ℕ) → rest_at n bytes ≡ Some rest → texts_at n bytes
    ≡ Some (texts_or_none n bytes, rest)
texts-whole n bytes rest h = go (texts_at n bytes) refl (sym (rest-texts n bytes) ∙ h)
  where
    go : (r : Option (List (List ℕ) × List ℕ)) → texts_at n bytes ≡ r
        → option_map (λ (p : List (List ℕ) × List ℕ). p.1) r ≡ Some rest → texts_at n bytes ≡ Some
        (texts_or_none n bytes, rest)
    go None is e = absurd (cc)
    go (Some (ts, left)) is e = holds_texts n bytes ts left is
        ∙ ap (λ (x : List ℕ). Some (texts_or_none n bytes, x)) (some_same left rest e)

-- ---- parts of bytes are bytes

pub bytes_take : (n : ℕ) (xs : List ℕ) → IsBytes xs → IsBytes (take n xs)
bytes_take zero xs b = tt
bytes_take (suc n) [] b = tt
bytes_take (suc n) (x ∷ xs) b = (b.0, bytes_take n xs b.1)

pub bytes_drop : (n : ℕ) (xs : List ℕ) → IsBytes xs → IsBytes (drop n xs)
bytes_drop zero xs b = b
bytes_drop (suc n) [] b = tt
bytes_drop (suc n) (x ∷ xs) b = bytes_drop n xs b.1
