-- Edits in buffers that were worked by hand.
use Rattle.mst_c.proofs.Names.{◌≡◌, [], ◌∷◌, refl, Ok, Err, Put, Remove, KeySize, ValueSize, Form}
use Rattle.mst_c.specs.Batches.{parts_at, edit_at, edits_from, edits_in}

pub none : edits_in [] ≡ Ok []
unfolding parts_at edit_at edits_from edits_in
none = refl

pub put : edits_in (1 ∷ 0 ∷ 1 ∷ 0 ∷ 2 ∷ 97 ∷ 49 ∷ 50 ∷ [])
    ≡ Ok (Put (97 ∷ []) (49 ∷ 50 ∷ []) ∷ [])
unfolding parts_at edit_at edits_from edits_in
put = refl

pub two : edits_in (1 ∷ 0 ∷ 1 ∷ 0 ∷ 0 ∷ 97 ∷ 2 ∷ 0 ∷ 2 ∷ 0 ∷ 0 ∷ 98 ∷ 99 ∷ [])
    ≡ Ok (Put (97 ∷ []) [] ∷ Remove (98 ∷ 99 ∷ []) ∷ [])
unfolding parts_at edit_at edits_from edits_in
two = refl

pub no_key : edits_in (1 ∷ 0 ∷ 1 ∷ 0 ∷ 0 ∷ 97 ∷ 2 ∷ 0 ∷ 0 ∷ 0 ∷ 0 ∷ [])
    ≡ Err record { place = 1; fault = KeySize }
unfolding parts_at edit_at edits_from edits_in
no_key = refl

pub long_key : edits_in (1 ∷ 0 ∷ 33 ∷ 0 ∷ 65 ∷ []) ≡ Err record { place = 0; fault = KeySize }
unfolding parts_at edit_at edits_from edits_in
long_key = refl

pub high_byte : edits_in (2 ∷ 1 ∷ 0 ∷ 0 ∷ 0 ∷ []) ≡ Err record { place = 0; fault = KeySize }
unfolding parts_at edit_at edits_from edits_in
high_byte = refl

pub long_value : edits_in (1 ∷ 0 ∷ 1 ∷ 0 ∷ 65 ∷ []) ≡ Err record { place = 0; fault = ValueSize }
unfolding parts_at edit_at edits_from edits_in
long_value = refl

pub no_lengths : edits_in (1 ∷ 0 ∷ 1 ∷ 0 ∷ []) ≡ Err record { place = 0; fault = Form }
unfolding parts_at edit_at edits_from edits_in
no_lengths = refl

pub cut_short : edits_in (2 ∷ 0 ∷ 1 ∷ 0 ∷ 0 ∷ 97 ∷ 1 ∷ 0 ∷ 1 ∷ 0 ∷ 2 ∷ 97 ∷ 49 ∷ [])
    ≡ Err record { place = 1; fault = Form }
unfolding parts_at edit_at edits_from edits_in
cut_short = refl

pub kind : edits_in (0 ∷ 0 ∷ 1 ∷ 0 ∷ 0 ∷ 97 ∷ []) ≡ Err record { place = 0; fault = Form }
unfolding parts_at edit_at edits_from edits_in
kind = refl

pub removed_value : edits_in (2 ∷ 0 ∷ 1 ∷ 0 ∷ 1 ∷ 97 ∷ 49 ∷ [])
    ≡ Err record { place = 0; fault = Form }
unfolding parts_at edit_at edits_from edits_in
removed_value = refl
