-- How great a layer is: no more digits begin a digest than it has.
use Rattle.mst_key.proofs.Names.{◌≡◌, ℕ, suc, ◌+◌, ◌*◌, ◌≤◌, ◌==◌, Bool, true, false, cond, List, [], ◌∷◌, length, refl, arith, sha256, length-sha256, Format, One, Two, digits, zeros_in_front}
use Rattle.mst_key.specs.Layer.{layer_in, digits_a_byte, most_layer}

pub zeros_le : (ds : List ℕ) → zeros_in_front ds ≤ length ds
zeros_le [] = omega arith
zeros_le (d ∷ ds) = go (d == 0) (zeros_le ds)
  where
    go : (t : Bool) → zeros_in_front ds ≤ length ds → cond t (zeros_in_front ds + 1) 0 ≤ suc
        (length ds)
    go true h = omega arith
    go false h = omega arith

digits_length : (format : Format) (bs : List ℕ) → length (digits format bs) ≡ digits_a_byte format *
    length bs
digits_length One [] = refl
digits_length Two [] = refl
digits_length One (b ∷ bs) = omega (arith, digits_length One bs)
digits_length Two (b ∷ bs) = omega (arith, digits_length Two bs)

-- the digits 0 that begin 32 bytes
pub zeros_few : (format : Format) (bs : List ℕ) → length bs ≡ 32 → zeros_in_front (digits format bs)
    ≤ most_layer format
zeros_few One bs size = omega (arith, zeros_le (digits One bs), digits_length One bs, size)
zeros_few Two bs size = omega (arith, zeros_le (digits Two bs), digits_length Two bs, size)

-- the layer of a key
pub layer_few : (format : Format) (key : List ℕ) → layer_in format key ≤ most_layer format
unfolding layer_in
layer_few format key = zeros_few format (sha256 key) (length-sha256 key)
