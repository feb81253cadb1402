-- Keys that rise strictly.
use Rattle.mst_node.proofs.Names.{◌≡◌, ℕ, zero, suc, ◌+◌, ◌-◌, ◌<◌, List, [], ◌∷◌, ◌++◌, length, get_or, take, sym, ◌∙◌, ap, subst, arith, AllByRecursion, Less, nat_list_cmp_total, take_more, Pair, key_cmp, IsAscending, alls-append, alls-back}

pub rising-push : (m : List Pair) (x y : Pair) → IsAscending (m ++ x ∷ []) → key_cmp x.0 y.0 ≡ Less
    → IsAscending ((m ++ x ∷ []) ++ y ∷ [])
rising-push [] x y rise less = ((less, tt), (tt, tt))
rising-push (p ∷ m) x y rise less =
    let P : Pair → Type 0 = λ q. key_cmp p.0 q.0 ≡ Less in (
      alls-append P (m ++ x ∷ []) (y ∷ []) rise.0
          ((nat_list_cmp_total).trans p.0 x.0 y.0 (alls-back P m (x ∷ []) rise.0).0 less, tt),
      rising-push m x y
          rise.1 less,
    )

pub rising-at : (m : List Pair) (i : ℕ) (x y : Pair) → IsAscending m → i + 1 < length m
    → x ≡ get_or m i x → y ≡ get_or m (i + 1) y → key_cmp x.0 y.0 ≡ Less
rising-at [] i x y rise h is js = absurd (omega arith)
rising-at (p ∷ []) i x y rise h is js = absurd (omega arith)
rising-at (p ∷ q ∷ m) zero x y rise h is js = ap (λ (u : Pair). key_cmp u.0 y.0) is
    ∙ ap (λ (u : Pair). key_cmp p.0 u.0) js ∙ rise.0.0
rising-at (p ∷ q ∷ m) (suc i) x y rise h is js =
    let e : suc i + 1 ≡ suc (i + 1) = omega arith in
    let js2 : y ≡ get_or (q ∷ m) (i + 1) y = js ∙ ap (λ (j : ℕ). get_or (p ∷ q ∷ m) j y) e in
    rising-at (q ∷ m) i x y rise.1 (omega arith) is js2

-- the first i + 1 pairs rise if the first i do, and the last two of them
pub rising-more : (m : List Pair) (i : ℕ) (x y : Pair) → IsAscending (take i m) → 0 < i
    → i < length m → x ≡ get_or m (i - 1) x → y ≡ get_or m i y → key_cmp x.0 y.0 ≡ Less
    → IsAscending (take (i + 1) m)
rising-more m i x y rise h lt is js less =
    let e : i ≡ i - 1 + 1 = omega arith in
    let front : take i m ≡ take (i - 1) m ++ x ∷ [] = ap (λ (j : ℕ). take j m) e
    ∙ take_more m (i - 1) x (omega arith) ∙ ap (λ u. take (i - 1) m ++ u ∷ []) (sym is) in
    let whole : take (i + 1) m ≡ (take (i - 1) m ++ x ∷ []) ++ y ∷ [] =
    take_more m i y lt ∙ ap (λ u. take i m ++ u ∷ []) (sym js)
    ∙ ap (λ (u : List Pair). u ++ y ∷ []) front in
    subst IsAscending (sym whole)
    (rising-push (take (i - 1) m) x y (subst IsAscending front rise) less)
