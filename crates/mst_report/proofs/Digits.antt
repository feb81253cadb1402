-- Texts of an even number of digits.
use Rattle.std.proofs.Common.{◌≡◌, ◌∙◌, ◌%◌, ℕ, List, length, true, sym, refl}
use Rattle.std.specs.Prelude.{Result, Ok, Err, IsOk, IsTrue, Bool, ◌↔◌}
use Rattle.std.specs.List.{AllPass, list_all}
use Rattle.std.proofs.lemmas.List.Sums.{AllPass-from_list_all, list_all-from_AllPass}
use Rattle.hex.specs.Hex.{decode_of, is_hex_digit}
use Rattle.hex.specs.declared.error.FromHexError.{FromHexError}
use Rattle.hex.proofs.HexLemmas.{decode_of-ok, decode_of-digits}

spelt : (s : List ℕ) (d : Result (List ℕ) FromHexError) → decode_of s ≡ d → IsOk d
    → (length s % 2 ≡ 0) × AllPass is_hex_digit s
spelt s (Ok bytes) is ok = let r = decode_of-ok s bytes is in (r.0, r.1)
spelt s (Err e) is ok = cc ok

spells : (s : List ℕ) → length s % 2 ≡ 0 → list_all is_hex_digit s ≡ true → IsOk (decode_of s)
spells s even all = let r = decode_of-digits s even (AllPass-from_list_all is_hex_digit s all) in
    rw r.1 refl

pub of_even : (s : List ℕ) (result : Bool) → result ≡ list_all is_hex_digit s → length s % 2 ≡ 0
    → IsTrue result ↔ IsOk (decode_of s)
of_even s result is even = (
  λ yes. spells s even (sym is ∙ yes),
  λ ok. is ∙ list_all-from_AllPass is_hex_digit s
      (spelt s (decode_of s) refl ok).1,
)
