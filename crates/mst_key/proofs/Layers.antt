-- The layers of keys, computed through SHA-256. The digests are from another program (Python's
-- hashlib).
use Rattle.mst_key.proofs.Names.{◌≡◌, [], ◌∷◌, refl, One, Two}
use Rattle.sha2.specs.Sha256.{sha256, first_words, schedule, rounds, compress, hash_after, digest_bytes}
use Rattle.mst_key.specs.Layer.{layer_in}

-- the digest of `8` begins with the bytes 2c 62
pub one_of_8 : layer_in One (0x38 ∷ []) ≡ 0
unfolding layer_in sha256 first_words schedule rounds compress hash_after digest_bytes
one_of_8 = refl

pub two_of_8 : layer_in Two (0x38 ∷ []) ≡ 1
unfolding layer_in sha256 first_words schedule rounds compress hash_after digest_bytes
two_of_8 = refl

-- that of `4l` with 02 7c
pub one_of_4l : layer_in One (0x34 ∷ 0x6c ∷ []) ≡ 1
unfolding layer_in sha256 first_words schedule rounds compress hash_after digest_bytes
one_of_4l = refl

pub two_of_4l : layer_in Two (0x34 ∷ 0x6c ∷ []) ≡ 3
unfolding layer_in sha256 first_words schedule rounds compress hash_after digest_bytes
two_of_4l = refl

-- that of `05f` with 00 04 0c
pub one_of_05f : layer_in One (0x30 ∷ 0x35 ∷ 0x66 ∷ []) ≡ 3
unfolding layer_in sha256 first_words schedule rounds compress hash_after digest_bytes
one_of_05f = refl

pub two_of_05f : layer_in Two (0x30 ∷ 0x35 ∷ 0x66 ∷ []) ≡ 6
unfolding layer_in sha256 first_words schedule rounds compress hash_after digest_bytes
two_of_05f = refl
