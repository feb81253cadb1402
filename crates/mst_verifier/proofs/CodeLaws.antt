-- The numbers of refusals: one for each reason.
use Rattle.std.proofs.Common.{◌≡◌, ℕ, ◌+◌, ◌<◌, List, Option, Some, None, refl, sym, ◌∙◌, ap, subst}
use Rattle.std.proofs.lemmas.Option.{same_Some}
use Rattle.std.specs.Prelude.{ℤ, pos, negsuc, ◌==◌, ◌≢◌, if◌then◌else◌, IfSome}
use Rattle.std.specs.List.{AllByRecursion}
use Rattle.mst_key.specs.declared.format.Format.{Format as TreeFormat}
use Rattle.mst_node.specs.Gaps.{IsBetween}
use Rattle.mst_node.specs.Grammar.{InGrammar}
use Rattle.mst_node.specs.Text.{FlatNode, digest_of}
use Rattle.mst_proof.specs.Faults.{FailsBy, Spells}
use Rattle.mst_proof.specs.declared.fault.ProofFault.{ProofFault}
use Rattle.mst_proof.specs.declared.fault.ProofFault.TheVariants.{FormatByte, CutShort, LeftOver, NoNode, OtherDigest, LayerNotBelow, KeyOutside, Unfinished, TextBehind, OtherValue}
use Rattle.mst_sharded_proof.specs.declared.fault.ShardedFault.{ShardedFault}
use Rattle.mst_sharded_proof.specs.declared.fault.ShardedFault.TheVariants.{FormatByte as OtherFormatByte, CutShort as Cut, NoKey, Directory, NotListed, NoListing, KeyBelow, KeyNotBelow, Shard}
use Rattle.mst_verifier.specs.declared.question.Refusal.{Refusal}
use Rattle.mst_verifier.specs.declared.question.Refusal.TheVariants.{Format, Root, Key, Proof, ShardedProof}
use Rattle.mst_verifier.specs.Codes.{fault_code, refusal_code}

-- ---- no two refusals have one number

abbrev place : ℤ → ℕ
place (pos n) = 0
place (negsuc n) = n

abbrev sharded_at : ℕ → Option ShardedFault
sharded_at n =
    if n == 99 then Some OtherFormatByte
    else if n == 199 then Some Cut
    else if n == 299 then Some NoKey
    else if n == 499 then Some NotListed
    else if n == 599 then Some NoListing
    else if n == 699 then Some KeyBelow
    else if n == 799 then Some KeyNotBelow
    else if n == 400 then Some (Directory FormatByte)
    else if n == 401 then Some (Directory CutShort)
    else if n == 402 then Some (Directory LeftOver)
    else if n == 403 then Some (Directory NoNode)
    else if n == 404 then Some (Directory OtherDigest)
    else if n == 405 then Some (Directory LayerNotBelow)
    else if n == 406 then Some (Directory KeyOutside)
    else if n == 407 then Some (Directory Unfinished)
    else if n == 408 then Some (Directory TextBehind)
    else if n == 409 then Some (Directory OtherValue)
    else if n == 900 then Some (Shard FormatByte)
    else if n == 901 then Some (Shard CutShort)
    else if n == 902 then Some (Shard LeftOver)
    else if n == 903 then Some (Shard NoNode)
    else if n == 904 then Some (Shard OtherDigest)
    else if n == 905 then Some (Shard LayerNotBelow)
    else if n == 906 then Some (Shard KeyOutside)
    else if n == 907 then Some (Shard Unfinished)
    else if n == 908 then Some (Shard TextBehind)
    else if n == 909 then Some (Shard OtherValue)
    else None

abbrev in_sharded : Option ShardedFault → Option Refusal
in_sharded None = None
in_sharded (Some fault) = Some (ShardedProof fault)

abbrev refusal_at : ℕ → Option Refusal
refusal_at n =
    if n == 2 then Some Format
    else if n == 3 then Some Root
    else if n == 4 then Some Key
    else if n == 10 then Some (Proof FormatByte)
    else if n == 11 then Some (Proof CutShort)
    else if n == 12 then Some (Proof LeftOver)
    else if n == 13 then Some (Proof NoNode)
    else if n == 14 then Some (Proof OtherDigest)
    else if n == 15 then Some (Proof LayerNotBelow)
    else if n == 16 then Some (Proof KeyOutside)
    else if n == 17 then Some (Proof Unfinished)
    else if n == 18 then Some (Proof TextBehind)
    else if n == 19 then Some (Proof OtherValue)
    else in_sharded (sharded_at n)

named : (r : Refusal) → refusal_at (place (refusal_code r)) ≡ Some r
named Format = refl
named Root = refl
named Key = refl
named (Proof FormatByte) = refl
named (Proof CutShort) = refl
named (Proof LeftOver) = refl
named (Proof NoNode) = refl
named (Proof OtherDigest) = refl
named (Proof LayerNotBelow) = refl
named (Proof KeyOutside) = refl
named (Proof Unfinished) = refl
named (Proof TextBehind) = refl
named (Proof OtherValue) = refl
named (ShardedProof OtherFormatByte) = refl
named (ShardedProof Cut) = refl
named (ShardedProof NoKey) = refl
named (ShardedProof NotListed) = refl
named (ShardedProof NoListing) = refl
named (ShardedProof KeyBelow) = refl
named (ShardedProof KeyNotBelow) = refl
named (ShardedProof (Directory FormatByte)) = refl
named (ShardedProof (Directory CutShort)) = refl
named (ShardedProof (Directory LeftOver)) = refl
named (ShardedProof (Directory NoNode)) = refl
named (ShardedProof (Directory OtherDigest)) = refl
named (ShardedProof (Directory LayerNotBelow)) = refl
named (ShardedProof (Directory KeyOutside)) = refl
named (ShardedProof (Directory Unfinished)) = refl
named (ShardedProof (Directory TextBehind)) = refl
named (ShardedProof (Directory OtherValue)) = refl
named (ShardedProof (Shard FormatByte)) = refl
named (ShardedProof (Shard CutShort)) = refl
named (ShardedProof (Shard LeftOver)) = refl
named (ShardedProof (Shard NoNode)) = refl
named (ShardedProof (Shard OtherDigest)) = refl
named (ShardedProof (Shard LayerNotBelow)) = refl
named (ShardedProof (Shard KeyOutside)) = refl
named (ShardedProof (Shard Unfinished)) = refl
named (ShardedProof (Shard TextBehind)) = refl
named (ShardedProof (Shard OtherValue)) = refl

pub differ : (a b : Refusal) → refusal_code a ≡ refusal_code b → a ≡ b
differ a b e = same_Some a b (sym (named a) ∙ ap (λ (z : ℤ). refusal_at (place z)) e ∙ named b)

-- ---- none is the number of an answer

pub apart : (r : Refusal) → (n : ℕ) × (refusal_code r ≡ negsuc (2 + n))
apart Format = (0, refl)
apart Root = (1, refl)
apart Key = (2, refl)
apart (Proof FormatByte) = (8, refl)
apart (Proof CutShort) = (9, refl)
apart (Proof LeftOver) = (10, refl)
apart (Proof NoNode) = (11, refl)
apart (Proof OtherDigest) = (12, refl)
apart (Proof LayerNotBelow) = (13, refl)
apart (Proof KeyOutside) = (14, refl)
apart (Proof Unfinished) = (15, refl)
apart (Proof TextBehind) = (16, refl)
apart (Proof OtherValue) = (17, refl)
apart (ShardedProof OtherFormatByte) = (97, refl)
apart (ShardedProof Cut) = (197, refl)
apart (ShardedProof NoKey) = (297, refl)
apart (ShardedProof NotListed) = (497, refl)
apart (ShardedProof NoListing) = (597, refl)
apart (ShardedProof KeyBelow) = (697, refl)
apart (ShardedProof KeyNotBelow) = (797, refl)
apart (ShardedProof (Directory FormatByte)) = (398, refl)
apart (ShardedProof (Directory CutShort)) = (399, refl)
apart (ShardedProof (Directory LeftOver)) = (400, refl)
apart (ShardedProof (Directory NoNode)) = (401, refl)
apart (ShardedProof (Directory OtherDigest)) = (402, refl)
apart (ShardedProof (Directory LayerNotBelow)) = (403, refl)
apart (ShardedProof (Directory KeyOutside)) = (404, refl)
apart (ShardedProof (Directory Unfinished)) = (405, refl)
apart (ShardedProof (Directory TextBehind)) = (406, refl)
apart (ShardedProof (Directory OtherValue)) = (407, refl)
apart (ShardedProof (Shard FormatByte)) = (898, refl)
apart (ShardedProof (Shard CutShort)) = (899, refl)
apart (ShardedProof (Shard LeftOver)) = (900, refl)
apart (ShardedProof (Shard NoNode)) = (901, refl)
apart (ShardedProof (Shard OtherDigest)) = (902, refl)
apart (ShardedProof (Shard LayerNotBelow)) = (903, refl)
apart (ShardedProof (Shard KeyOutside)) = (904, refl)
apart (ShardedProof (Shard Unfinished)) = (905, refl)
apart (ShardedProof (Shard TextBehind)) = (906, refl)
apart (ShardedProof (Shard OtherValue)) = (907, refl)

-- ---- the fault that has a number

fault_is : (fault other : ProofFault) → fault_code fault ≡ fault_code other → fault ≡ other
fault_is fault other e =
    let same : Proof fault ≡ Proof other = differ (Proof fault) (Proof other) e in
    cc same

-- ---- what a text fails, by the number

module _ (format : TreeFormat) (d text : List ℕ) (upper : Option ℕ) (low high : Option (List ℕ))
  where
    pub grammar : (fault : ProofFault) → fault_code fault ≡ negsuc 13 → FailsBy format d upper low
        high text fault → InGrammar format text → ⊥
    grammar fault e fails = subst (FailsBy format d upper low high text) (fault_is fault NoNode e)
        fails

    pub digest : (fault : ProofFault) → fault_code fault ≡ negsuc 14 → FailsBy format d upper low
        high
        text fault → digest_of text ≢ d
    digest fault e fails =
        (subst (FailsBy format d upper low high text) (fault_is fault OtherDigest e) fails).1

    pub layer : (fault : ProofFault) → fault_code fault ≡ negsuc 15 → FailsBy format d upper low
        high
        text fault →
        (n : FlatNode) × Spells format text n × (IfSome upper (λ u. n.layer < u) → ⊥)
    layer fault e fails = let x = subst (FailsBy format d upper low high text)
        (fault_is fault LayerNotBelow e) fails in (x.0, x.1, x.3)

    pub keys : (fault : ProofFault) → fault_code fault ≡ negsuc 16 → FailsBy format d upper low high
        text fault →
        (n : FlatNode) × Spells format text n × IfSome upper (λ u. n.layer < u)
        × (AllByRecursion (λ e. IsBetween low high e.key) n.entries → ⊥)
    keys fault e fails = let x = subst (FailsBy format d upper low high text)
        (fault_is fault KeyOutside e) fails in (x.0, x.1, x.3, x.4)
