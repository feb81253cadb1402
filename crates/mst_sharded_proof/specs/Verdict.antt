-- The verdict on a proof of a sharded map, by the tests in their order.
use Rattle.std.specs.Prelude.{ℕ, nat_lt, if◌then◌else◌, Bool, true, List, [], ◌∷◌, length, take, drop, Option, Some, None}
use Rattle.std.specs.Ordering.{is_lt}
use Rattle.std.specs.declared.result.Result.{Result}
use Rattle.std.specs.declared.result.Result.TheVariants.{Ok, Err}
use Rattle.mst_key.specs.declared.format.Format.{Format}
use Rattle.mst_key.specs.Map.{key_cmp}
use Rattle.mst_proof.specs.declared.fault.ProofFault.{ProofFault}
use Rattle.mst_proof.specs.Verdict.{verdict}
use Rattle.mst_sharded_proof.specs.Frame.{◌>>◌, Parts, parts_at}
use Rattle.mst_sharded_proof.specs.declared.fault.ShardedFault.{ShardedFault}
use Rattle.mst_sharded_proof.specs.declared.fault.ShardedFault.TheVariants.{Directory, NotListed, NoListing, KeyBelow, KeyNotBelow, Shard}

-- what the directory holds of the shard, by the verdict on the directory's proof
abbrev pub listed : Result (Option (List ℕ)) ProofFault → Result (List ℕ) ShardedFault
listed (Err fault) = Err (Directory fault)
listed (Ok None) = Err NotListed
listed (Ok (Some held)) = Ok held

-- whether a key lies below an upper bound; no bytes do not bind
abbrev pub is_below : List ℕ → List ℕ → Bool
is_below [] k = true
is_below (b ∷ high) k = is_lt (key_cmp k (b ∷ high))

-- the shard's root digest, the first 32 bytes of what is held, if the key lies within the bounds
abbrev pub placed : List ℕ → List ℕ → List ℕ → Result (List ℕ) ShardedFault
placed k low held =
    if nat_lt (length held) 32 then Err NoListing
    else if is_lt (key_cmp k low) then Err KeyBelow
    else if is_below (drop 32 held) k then Ok (take 32 held)
    else Err KeyNotBelow

-- the answer, by the verdict on the shard's proof
abbrev pub answered : Result (Option (List ℕ)) ProofFault → Result (Option (List ℕ)) ShardedFault
answered (Err fault) = Err (Shard fault)
answered (Ok answer) = Ok answer

-- the answer that the parts give for a root digest and a key, or the first test that they fail
abbrev pub judgement : Format → List ℕ → List ℕ → Parts → Result (Option (List ℕ)) ShardedFault
judgement format root k p =
    listed (verdict format root p.low p.directory) >> λ held.
    placed k p.low held >> λ digest.
    answered (verdict format digest k p.shard)

-- the answer of a proof for a root digest and a key, or the first test that it fails
abbrev pub sharded_verdict : Format → List ℕ → List ℕ → List ℕ
    → Result (Option (List ℕ)) ShardedFault
sharded_verdict format root k proof = parts_at format proof >> judgement format root k
