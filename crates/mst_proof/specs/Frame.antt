-- How the texts of a proof are cut out of its bytes.
use Rattle.std.specs.Prelude.{ℕ, zero, suc, ◌==◌, nat_lt, nat_le, if◌then◌else◌, List, [], ◌∷◌, length, take, drop, Option, Some, None, unwrap_or}
use Rattle.mst_key.specs.declared.format.Format.{Format}
use Rattle.mst_key.specs.declared.format.Format.TheVariants.{One, Two}
use Rattle.mst_node.specs.Text.{format_byte}
use Rattle.mst_proof.specs.declared.claim.Claim.{Claim}
use Rattle.mst_proof.specs.declared.claim.Claim.TheVariants.{Nothing, Absence, Given, Unfit}
use Rattle.std.specs.Int.{w32, from_be_bytes}
use Rattle.std.specs.declared.result.Result.{Result}
use Rattle.std.specs.declared.result.Result.TheVariants.{Ok, Err}
use Rattle.mst_node.specs.Reading.{◌>>=◌, part_at}
use Rattle.mst_proof.specs.declared.fault.ProofFault.{ProofFault}
use Rattle.mst_proof.specs.declared.fault.ProofFault.TheVariants.{FormatByte, CutShort, LeftOver}

-- the step after a result, if that is no fault
infixl 10 ◌>>◌
abbrev pub ◌>>◌ : {A B : Type 0} → Result A ProofFault → (A → Result B ProofFault)
    → Result B ProofFault
(Err f) >> g = Err f
(Ok x) >> g = g x

-- a text after its length in four bytes, the high one first, and the bytes after it
unfoldable pub text_at : List ℕ → Option (List ℕ × List ℕ)
text_at [] = None
text_at (a ∷ []) = None
text_at (a ∷ b ∷ []) = None
text_at (a ∷ b ∷ c ∷ []) = None
text_at (a ∷ b ∷ c ∷ d ∷ bytes) = part_at (from_be_bytes w32 (a ∷ b ∷ c ∷ d ∷ [])) bytes

-- this many texts, and the bytes after them
unfoldable pub texts_at : ℕ → List ℕ → Option (List (List ℕ) × List ℕ)
texts_at zero bytes = Some ([], bytes)
texts_at (suc n) bytes = text_at bytes >>= λ t. texts_at n t.1 >>= λ ts. Some (t.0 ∷ ts.0, ts.1)

-- the bytes after this many texts
unfoldable pub rest_at : ℕ → List ℕ → Option (List ℕ)
rest_at zero bytes = Some bytes
rest_at (suc n) bytes = text_at bytes >>= λ t. rest_at n t.1

-- the texts that are read, or none if a text is cut short
abbrev pub texts_or_none : ℕ → List ℕ → List (List ℕ)
texts_or_none n bytes = (unwrap_or (texts_at n bytes) ([], [])).0

-- the number of texts, and the bytes after it
abbrev pub count_at : List ℕ → Result (ℕ × List ℕ) ProofFault
count_at [] = Err CutShort
count_at (n ∷ bytes) = Ok (n, bytes)

-- after the format's byte: the number of texts, and the bytes that frame them
abbrev pub heading_at : Format → List ℕ → Result (ℕ × List ℕ) ProofFault
heading_at format [] = Err CutShort
heading_at format (v ∷ bytes) = if v == format_byte format then count_at bytes else Err FormatByte

-- ---- the tail, which claims an answer

-- a claim with no byte left over
abbrev pub alone : Claim → List ℕ → Result Claim ProofFault
alone claim [] = Ok claim
alone claim (b ∷ bytes) = Err LeftOver

-- the claim of a value
abbrev pub given : List ℕ → Claim
given value = if nat_le (length value) 64 then Given value else Unfit

-- the claim of a value after its length
abbrev pub value_at : List ℕ → Result Claim ProofFault
value_at [] = Err CutShort
value_at (n ∷ bytes) =
    if nat_lt (length bytes) n then Err CutShort else alone (given (take n bytes)) (drop n bytes)

-- what stands after the texts: nothing in format 1; in format 2 a byte 0 for absence, or a byte 1
-- and a value after its length
abbrev pub claim_at : Format → List ℕ → Result Claim ProofFault
claim_at One bytes = alone Nothing bytes
claim_at Two [] = Err CutShort
claim_at Two (b ∷ bytes) =
    if b == 1 then value_at bytes else alone (if b == 0 then Absence else Unfit) bytes

-- ---- the frame

-- texts, and the claim after them
abbrev pub claimed_at : Format → Option (List (List ℕ) × List ℕ)
    → Result (List (List ℕ) × Claim) ProofFault
claimed_at format None = Err CutShort
claimed_at format (Some t) = claim_at format t.1 >> λ claim. Ok (t.0, claim)

-- the texts that a proof frames with its claim, or the first fault of its frame
abbrev pub frame_at : Format → List ℕ → Result (List (List ℕ) × Claim) ProofFault
frame_at format proof = heading_at format proof >> λ h. claimed_at format (texts_at h.0 h.1)
