-- The numbers that the library returns, and what it leaves in the caller's room.
use Rattle.std.specs.Prelude.{ℕ, ◌+◌, ℤ, pos, negsuc, nat_lt, if◌then◌else◌, List, ◌++◌, length, drop, Option, Some, None, Result, Ok, Err}
use Rattle.mst_proof.specs.declared.fault.ProofFault.{ProofFault}
use Rattle.mst_proof.specs.declared.fault.ProofFault.TheVariants.{FormatByte, CutShort, LeftOver, NoNode, OtherDigest, LayerNotBelow, KeyOutside, Unfinished, TextBehind, OtherValue}
use Rattle.mst_sharded_proof.specs.declared.fault.ShardedFault.{ShardedFault}
use Rattle.mst_sharded_proof.specs.declared.fault.ShardedFault.TheVariants.{FormatByte as OtherFormatByte, CutShort as Cut, NoKey, Directory, NotListed, NoListing, KeyBelow, KeyNotBelow, Shard}
use Rattle.mst_verifier.specs.declared.question.Refusal.{Refusal}
use Rattle.mst_verifier.specs.declared.question.Refusal.TheVariants.{Format, Root, Key, Proof, ShardedProof}

-- -11 to -20, for the tests P1 to P10 of a proof
abbrev pub fault_code : ProofFault → ℤ
fault_code FormatByte = negsuc 10
fault_code CutShort = negsuc 11
fault_code LeftOver = negsuc 12
fault_code NoNode = negsuc 13
fault_code OtherDigest = negsuc 14
fault_code LayerNotBelow = negsuc 15
fault_code KeyOutside = negsuc 16
fault_code Unfinished = negsuc 17
fault_code TextBehind = negsuc 18
fault_code OtherValue = negsuc 19

-- 1 to 10, for the tests P1 to P10
abbrev pub test_number : ProofFault → ℕ
test_number FormatByte = 1
test_number CutShort = 2
test_number LeftOver = 3
test_number NoNode = 4
test_number OtherDigest = 5
test_number LayerNotBelow = 6
test_number KeyOutside = 7
test_number Unfinished = 8
test_number TextBehind = 9
test_number OtherValue = 10

-- -100 to -900, for the tests S1 to S9 of a proof of a sharded map; S4 and S9 test a part of it,
-- and the number of the part's test is taken off too: S4 P5 is -405
abbrev pub sharded_code : ShardedFault → ℤ
sharded_code OtherFormatByte = negsuc 99
sharded_code Cut = negsuc 199
sharded_code NoKey = negsuc 299
sharded_code (Directory fault) = negsuc (399 + test_number fault)
sharded_code NotListed = negsuc 499
sharded_code NoListing = negsuc 599
sharded_code KeyBelow = negsuc 699
sharded_code KeyNotBelow = negsuc 799
sharded_code (Shard fault) = negsuc (899 + test_number fault)

-- -3 for an unknown format, -4 for bytes that are no root digest, -5 for bytes that are no key
abbrev pub refusal_code : Refusal → ℤ
refusal_code Format = negsuc 2
refusal_code Root = negsuc 3
refusal_code Key = negsuc 4
refusal_code (Proof fault) = fault_code fault
refusal_code (ShardedProof fault) = sharded_code fault

-- the length of a value that there is room for, -2 if there is no room for it, -1 for absence
abbrev pub code_of : ℕ → Result (Option (List ℕ)) Refusal → ℤ
code_of room (Ok (Some value)) = if nat_lt room (length value) then negsuc 1 else pos (length value)
code_of room (Ok None) = negsuc 0
code_of room (Err refusal) = refusal_code refusal

-- a value that there is room for stands first; all other bytes stay
abbrev pub room_after : List ℕ → Result (Option (List ℕ)) Refusal → List ℕ
room_after room (Ok (Some value)) =
    if nat_lt (length room) (length value) then room else value ++ drop (length value) room
room_after room (Ok None) = room
room_after room (Err refusal) = room
