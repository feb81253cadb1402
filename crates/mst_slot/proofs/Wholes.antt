-- A list in two parts, of which the second is empty.
use Rattle.std.proofs.Common.{◌≡◌, List, ◌++◌, length, sym, ap, ◌∙◌}
use Rattle.std.proofs.lemmas.List.{append-nil, nil_from_length}

module _ {X : Type 0} where
  pub whole : (xs ys zs : List X) → xs ≡ ys ++ zs → length zs ≡ 0 → ys ≡ xs
  whole xs ys zs e n =
      sym (append-nil ys) ∙ (ap (λ us. ys ++ us) (sym (nil_from_length zs n)) ∙ sym e)
