-- Words of too many digits.
use Rattle.std.proofs.Common.{◌≡◌, ◌<◌, ◌/◌, ℕ, List, length, refl, arith, Some, None}
use Rattle.std.proofs.lemmas.Bool.Decides.{nat_tests}
use Rattle.std.specs.Prelude.{Result, Ok, Err}
use Rattle.hex.specs.Hex.{decode_of}
use Rattle.hex.specs.declared.error.FromHexError.{FromHexError}
use Rattle.hex.proofs.HexLemmas.{decode_of-ok}
use Rattle.mst_report.specs.Words.{if_spelt, if_key, key_of}

large : (bytes : List ℕ) → 32 < length bytes → None ≡ if_key (Some bytes)
large bytes many = grind (arith, nat_tests)

by_decoded : (word : List ℕ) → 32 < length word / 2 → (d : Result (List ℕ) FromHexError)
    → decode_of word ≡ d → None ≡ if_key (if_spelt d)
by_decoded word many (Err e) is = refl
by_decoded word many (Ok bytes) is = let ok = decode_of-ok word bytes is in
    large bytes (omega (arith, ok))

pub too_long : (word : List ℕ) → 32 < length word / 2 → None ≡ key_of word
too_long word many = by_decoded word many (decode_of word) refl
