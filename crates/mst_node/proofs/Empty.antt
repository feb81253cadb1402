-- The SHA-256 of the empty string, computed by its definition.
use Rattle.std.specs.Prelude.{◌≡◌, [], ◌∷◌, refl}
use Rattle.sha2.specs.Sha256.{sha256, digest_bytes, hash_after, compress, rounds, schedule, first_words}

pub empty : sha256 [] ≡ 227 ∷ 176 ∷ 196 ∷ 66 ∷ 152 ∷ 252 ∷ 28 ∷ 20 ∷ 154 ∷ 251 ∷ 244 ∷ 200 ∷ 153
    ∷ 111 ∷ 185 ∷ 36 ∷ 39 ∷ 174 ∷ 65 ∷ 228 ∷ 100 ∷ 155 ∷ 147 ∷ 76 ∷ 164 ∷ 149 ∷ 153 ∷ 27 ∷ 120 ∷ 82
    ∷ 184 ∷ 85 ∷ []
unfolding sha256 digest_bytes hash_after compress rounds schedule first_words
empty = refl
