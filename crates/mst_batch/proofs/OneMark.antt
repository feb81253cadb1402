-- One mark more, in a list that is grown to reach it.
use Rattle.mst_batch.proofs.Names.{◌≡◌, ℕ, zero, suc, ◌+◌, ◌-◌, ◌<◌, ◌≤◌, ◌++◌, ◌⊎◌, inl, inr, Bool, true, false, eqb, Option, Some, None, List, [], ◌∷◌, length, get_or, refl, sym, ◌∙◌, ap, arith, ◌↔◌, option_map_or, eq-eqb, eqb-true, In, bit, AddsMarks, is_marked}
use Rattle.std.proofs.Common.{replicate, set}
use Rattle.std.specs.Prelude.{slice_get, unwrap_or}
use Rattle.std.proofs.lemmas.Bool.{cases_eq}
use Rattle.std.proofs.lemmas.List.{length-append, length-replicate, get_or-set_same, get_or-set_other}
use Rattle.std.proofs.lemmas.Option.{unwrap_or-slice_get}

-- a mark as what stands at its place
marked_at : (xs : List Bool) (r : ℕ) → is_marked xs r ≡ get_or xs r false
marked_at xs r = same (slice_get xs r) ∙ unwrap_or-slice_get xs r false
  where
    same : (o : Option Bool) → option_map_or (λ mark. mark) o false ≡ unwrap_or o false
    same None = refl
    same (Some b) = refl

unmarked : (n r : ℕ) → get_or (replicate n false) r false ≡ false
unmarked zero r = refl
unmarked (suc n) zero = refl
unmarked (suc n) (suc r) = unmarked n r

more_same : (old : List Bool) (n r : ℕ)
    → get_or (old ++ replicate n false) r false ≡ get_or old r false
more_same [] n r = unmarked n r
more_same (b ∷ old) n zero = refl
more_same (b ∷ old) n (suc r) = more_same old n r

-- the grown list has the marks of the old one, and no other
pub grown_same : (old grown : List Bool) (n : ℕ) → grown ≡ old ++ replicate n false → (r : ℕ)
    → get_or grown r false ≡ get_or old r false
grown_same old grown n is r =
    ap (λ (xs : List Bool). get_or xs r false) is ∙ more_same old n r

-- it reaches as far as it is to
pub reaches : (old grown : List Bool) (n : ℕ)
    → grown ≡ old ++ replicate (n - length old) false → n ≤ length grown
reaches old grown n is =
    omega (
      arith,
      ap length is,
      length-append old (replicate (n - length old) false),
      length-replicate (n - length old) false,
    )

in_one : (r x : ℕ) → r ≡ x → In r (x ∷ [])
in_one r x is = omega (arith, ap bit (eq-eqb r x is))

one_in : (r x : ℕ) → In r (x ∷ []) → r ≡ x
one_in r x i = go (eqb r x) refl
  where
    go : (t : Bool) → eqb r x ≡ t → r ≡ x
    go true is = eqb-true r x is
    go false is = absurd (omega (arith, i, ap bit is))

-- a mark that is set in it is one more
pub adds_one : (old grown : List Bool) (link at : ℕ) → at + 1 ≡ link → at < length grown
    → ((r : ℕ) → get_or grown r false ≡ get_or old r false)
    → AddsMarks old (set grown at true) (link ∷ [])
adds_one old grown link at is lt same row = go (cases_eq row at)
  where
    go : (row ≡ at) ⊎ (row ≡ at → ⊥)
        → (is_marked (set grown at true) row ≡ true) ↔ (is_marked old row ≡ true) ⊎ In (row + 1)
        (link ∷ [])
    go (inl here) = (
      λ _. inr (in_one (row + 1) link (omega arith)),
      λ _. marked_at (set grown at true) row
          ∙ ap (λ (r : ℕ). get_or (set grown at true) r false) here
          ∙ get_or-set_same grown at true false lt,
    )
    go (inr other) =
        let still : is_marked (set grown at true) row ≡ is_marked old row =
        marked_at (set grown at true) row ∙ get_or-set_other grown at row true false other
        ∙ same row ∙ sym (marked_at old row) in (
          λ marked. inl (sym still ∙ marked),
          λ told. elim told [
            | inl was ↦ still ∙ was
            | inr i ↦ absurd (other (omega (arith, one_in (row + 1) link i)))
          ],
        )
