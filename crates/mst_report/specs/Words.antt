-- What the words of a command spell.
use Rattle.std.specs.Prelude.{ℕ, ◌&&◌, nat_le, if◌then◌else◌, List, length, Option, Some, None, Result, Ok, Err}
use Rattle.hex.specs.Hex.{decode_of, decode_sized}
use Rattle.hex.specs.declared.error.FromHexError.{FromHexError}

abbrev pub if_spelt : Result (List ℕ) FromHexError → Option (List ℕ)
if_spelt (Ok bytes) = Some bytes
if_spelt (Err e) = None

-- a digest: 64 hexadecimal digits
abbrev pub root_of : List ℕ → Option (List ℕ)
root_of word = if_spelt (decode_sized word 32)

abbrev pub if_key : Option (List ℕ) → Option (List ℕ)
if_key None = None
if_key (Some k) = if nat_le 1 (length k) && nat_le (length k) 32 then Some k else None

-- a key: pairs of hexadecimal digits for 1 to 32 bytes
abbrev pub key_of : List ℕ → Option (List ℕ)
key_of word = if_key (if_spelt (decode_of word))
