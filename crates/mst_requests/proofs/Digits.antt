-- The digits of bytes, piece by piece.
use Rattle.mst_requests.proofs.Names.{◌≡◌, ℕ, ◌+◌, List, [], ◌∷◌, ◌++◌, take, drop, refl, sym, ap, ◌∙◌, take-append-drop, encode_lower}
use Rattle.std.specs.Prelude.{◌/◌, ◌%◌, slice_index}
use Rattle.std.proofs.Math.Seq.{take-add}
use Rattle.hex.specs.Hex.{encode_with, lower_digits}

encode-append : (t xs ys : List ℕ) → encode_with t (xs ++ ys) ≡ encode_with t xs ++ encode_with t ys
unfolding encode_with
encode-append t [] ys = refl
encode-append t (x ∷ xs) ys =
    ap (λ (l : List ℕ). slice_index t (x / 16) ∷ slice_index t (x % 16) ∷ l) (encode-append t xs ys)

pub no_digits : (bytes : List ℕ) → encode_lower (take 0 bytes) ≡ []
unfolding encode_with
no_digits bytes = refl

-- all digits, in two parts
pub digits_parted : (bytes : List ℕ) (at : ℕ) → encode_lower bytes ≡ encode_lower (take at bytes)
    ++ encode_lower (drop at bytes)
digits_parted bytes at = ap encode_lower (sym (take-append-drop at bytes))
    ∙ encode-append lower_digits (take at bytes) (drop at bytes)

-- a piece more
pub digits_more : (bytes : List ℕ) (at n : ℕ) → encode_lower (take (at + n) bytes) ≡ encode_lower
    (take at bytes) ++ encode_lower (take n (drop at bytes))
digits_more bytes at n = ap encode_lower (take-add at n bytes) ∙ encode-append lower_digits
    (take at bytes) (take n (drop at bytes))
