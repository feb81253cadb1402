-- What a question to the library comes to: an answer for the key, or why there is none.
use Rattle.std.specs.Prelude.{ℕ, ◌==◌, ◌&&◌, nat_le, if◌then◌else◌, List, length, Option, Some, None, Result, Ok, Err}
use Rattle.mst_key.specs.declared.format.Format.{Format as TreeFormat}
use Rattle.mst_key.specs.declared.format.Format.TheVariants.{One, Two}
use Rattle.mst_proof.specs.declared.fault.ProofFault.{ProofFault}
use Rattle.mst_proof.specs.Verdict.{verdict}
use Rattle.mst_sharded_proof.specs.declared.fault.ShardedFault.{ShardedFault}
use Rattle.mst_sharded_proof.specs.Verdict.{sharded_verdict}
use Rattle.mst_verifier.specs.declared.question.Kind.{Kind}
use Rattle.mst_verifier.specs.declared.question.Kind.TheVariants.{Plain, Sharded}
use Rattle.mst_verifier.specs.declared.question.Refusal.{Refusal}
use Rattle.mst_verifier.specs.declared.question.Refusal.TheVariants.{Format, Root, Key, Proof, ShardedProof}

abbrev pub with_refusal : Result (Option (List ℕ)) ProofFault → Result (Option (List ℕ)) Refusal
with_refusal (Ok answer) = Ok answer
with_refusal (Err fault) = Err (Proof fault)

abbrev pub with_sharded_refusal : Result (Option (List ℕ)) ShardedFault
    → Result (Option (List ℕ)) Refusal
with_sharded_refusal (Ok answer) = Ok answer
with_sharded_refusal (Err fault) = Err (ShardedProof fault)

-- what a proof comes to, of one map or of a sharded one
abbrev pub judged : Kind → TreeFormat → List ℕ → List ℕ → List ℕ
    → Result (Option (List ℕ)) Refusal
judged Plain format root key proof = with_refusal (verdict format root key proof)
judged Sharded format root key proof =
    with_sharded_refusal (sharded_verdict format root key proof)

-- the format that has this number
abbrev pub format_named : ℕ → Option TreeFormat
format_named number = if number == 1 then Some One else if number == 2 then Some Two else None

-- a root digest has 32 bytes, a key has 1 to 32; the first that does not is refused; otherwise the
-- result is what the proof comes to
abbrev pub answer_in : Kind → Option TreeFormat → List ℕ → List ℕ → List ℕ
    → Result (Option (List ℕ)) Refusal
answer_in kind None root key proof = Err Format
answer_in kind (Some format) root key proof =
    if length root == 32
    then (if nat_le 1 (length key) && nat_le (length key) 32
    then judged kind format root key proof
    else Err Key)
    else Err Root

-- what is asked with the number of a format, which is tested first
abbrev pub answer_to : Kind → ℕ → List ℕ → List ℕ → List ℕ → Result (Option (List ℕ)) Refusal
answer_to kind number root key proof = answer_in kind (format_named number) root key proof

-- of one map
abbrev pub answer_of : ℕ → List ℕ → List ℕ → List ℕ → Result (Option (List ℕ)) Refusal
answer_of = answer_to Plain

-- of a sharded map
abbrev pub sharded_answer_of : ℕ → List ℕ → List ℕ → List ℕ → Result (Option (List ℕ)) Refusal
sharded_answer_of = answer_to Sharded
