-- What a proof shows of the map that has the root digest, and what is known if it shows something
-- else.
use Rattle.mst_key.specs.declared.format.Format.{Format}
use Rattle.std.specs.Prelude.{◌≡◌, ◌≤◌, ◌⊎◌, ℕ, List, [], ◌∷◌, ◌++◌, length, map, Option, Some}
use Rattle.std.specs.declared.result.Result.{Result}
use Rattle.std.specs.declared.result.Result.TheVariants.{Ok, Err}
use Rattle.mst_key.specs.Map.{Pair, IsMap, map_get}
use Rattle.mst_node.specs.Collision.{Collision}
use Rattle.mst_node.specs.Trail.{trail}
use Rattle.mst_proof.specs.declared.claim.Claim.{Claim}
use Rattle.mst_proof.specs.declared.claim.Claim.TheVariants.{Nothing, Given}
use Rattle.mst_node.specs.Text.{text, root as root_of, highest_count}
use Rattle.mst_proof.specs.declared.fault.ProofFault.{ProofFault}
use Rattle.mst_proof.specs.Frame.{frame_at}

-- a map of at most 65,535 pairs that has this root digest
pub record HasRoot (format : Format) (m : List Pair) (digest : List ℕ) : Type 0 where
  pub map : IsMap m
  pub few : length m ≤ highest_count
  pub root : digest ≡ root_of format m

abbrev pub or_none : Result (List (List ℕ) × Claim) ProofFault → List (List ℕ)
or_none (Ok f) = f.0
or_none (Err fault) = []

-- the texts that a proof frames, if its frame has no fault
abbrev pub texts_of : Format → List ℕ → List (List ℕ)
texts_of format proof = or_none (frame_at format proof)

abbrev pub or_nothing : Result (List (List ℕ) × Claim) ProofFault → Claim
or_nothing (Ok f) = f.1
or_nothing (Err fault) = Nothing

-- what a proof claims, if its frame has no fault; in format 1 no proof claims a value
abbrev pub claim_in : Format → List ℕ → Claim
claim_in format proof = or_nothing (frame_at format proof)

-- the texts, or the empty text alone if there are none
abbrev pub or_empty : List (List ℕ) → List (List ℕ)
or_empty [] = [] ∷ []
or_empty (t ∷ ts) = t ∷ ts

-- the lists begin with the same texts; then the first has the one text and the second the other,
-- and these are a collision
pub record TextsCollide (ts us : List (List ℕ)) (one other : List ℕ) : Type 0 where
  pub before : List (List ℕ)
  pub after_one : List (List ℕ)
  pub after_other : List (List ℕ)
  pub one_at : ts ≡ before ++ one ∷ after_one
  pub other_at : us ≡ before ++ other ∷ after_other
  pub collision : Collision one other

-- the value that is claimed and this one, if there is one, are a collision
pub record ValuesCollide (claim : Claim) (value : Option (List ℕ)) (one other : List ℕ)
    : Type 0 where
  pub claims : claim ≡ Given one
  pub other_is : value ≡ Some other
  pub collision : Collision one other

-- What lets a proof show an answer that is not the map's: a text of the proof and the text of the
-- map's trail at the same place are a collision, where the texts before that place are the same; or
-- the value that the proof claims and the map's value of the key are one
abbrev pub CollidesWith : Format → List Pair → List ℕ → List ℕ → List ℕ → List ℕ → Type 0
CollidesWith format m k proof one other =
    TextsCollide (or_empty (texts_of format proof)) (or_empty (map text (trail format m k))) one
    other
    ⊎ ValuesCollide (claim_in format proof) (map_get m k) one other
