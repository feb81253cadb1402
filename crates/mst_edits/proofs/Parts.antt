-- The first element of a list that is read from the front, the others, and edits that are listed.
use Rattle.std.proofs.Common.{◌≡◌, ℕ, ◌+◌, ◌-◌, ◌<◌, ◌≤◌, List, [], ◌∷◌, ◌++◌, length, take, drop, get_or, Bor, Ordering, refl, sym, ap, ◌∙◌, arith}
use Rattle.std.proofs.lemmas.List.{map-append, take_all}
use Rattle.mst_key.specs.declared.history.Edit.{Edit}
use Rattle.mst_key.specs.Map.{key_cmp}
use Rattle.mst_edits.specs.Listed.{listed}

module _ {X : Type 0} where
  -- what a pattern leaves after the first element
  abbrev pub rest_of : List X → List X
  rest_of xs = take (length xs - 1) (drop 1 xs)

  pub first_and_rest : (xs : List X) (x : X) → 1 ≤ length xs → x ≡ get_or xs 0 x
      → xs ≡ x ∷ rest_of xs
  first_and_rest [] x some is = absurd (omega arith)
  first_and_rest (y ∷ xs) x some is =
      let all : take (length (y ∷ xs) - 1) xs ≡ xs = take_all (length (y ∷ xs) - 1) xs (omega arith)
      in
      λ i. sym is i ∷ sym all i

  pub none_left : (xs : List X) → length xs < 1 → xs ≡ []
  none_left [] none = refl
  none_left (x ∷ xs) none = absurd (omega arith)

  pub rest_falls : (xs : List X) → 1 ≤ length xs → length (rest_of xs) < length xs
  rest_falls [] some = absurd (omega arith)
  rest_falls (y ∷ xs) some =
      let all : length (take (length (y ∷ xs) - 1) xs) ≡ length xs =
      ap length (take_all (length (y ∷ xs) - 1) xs (omega arith)) in
      omega (arith, all)

module _ {X Y : Type 0} (xs : List X) (ys : List Y) where
  pub falls_left : 1 ≤ length xs → length (rest_of xs) + length ys < length xs + length ys
  falls_left some = omega (arith, rest_falls xs some)

  pub falls_right : 1 ≤ length ys → length xs + length (rest_of ys) < length xs + length ys
  falls_right some = omega (arith, rest_falls ys some)

pub listed-append : (es fs : List (Bor Edit)) → listed (es ++ fs) ≡ listed es ++ listed fs
listed-append es fs = map-append (λ (e : Bor Edit). e.now) es fs

-- the order of two keys, from a comparison of what equals them
pub order_of : (a b : List ℕ) (k q : List ℕ) (r o : Ordering) → a ≡ k → b ≡ q → r ≡ key_cmp a b
    → r ≡ o → key_cmp k q ≡ o
order_of a b k q r o a_is b_is r_is o_is =
    ap (λ (l : List ℕ). key_cmp l q) (sym a_is) ∙ ap (key_cmp a) (sym b_is) ∙ sym r_is ∙ o_is
