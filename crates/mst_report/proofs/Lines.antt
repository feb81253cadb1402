-- The lines of refusals: which refusal one is of, and how it begins.
use Rattle.std.proofs.Common.{◌≡◌, ℕ, List, [], ◌∷◌, Bool, true, false, Option, Some, None, refl, sym, ap, ◌∙◌, codes}
use Rattle.std.specs.Prelude.{◌==◌, ◌++◌, ◌≢◌, if◌then◌else◌, map}
use Rattle.std.specs.Str.{bytes_eq}
use Rattle.std.proofs.lemmas.Bool.{false≢true}
use Rattle.std.proofs.lemmas.Option.{same_Some}
use Rattle.mst_proof.specs.declared.fault.ProofFault.{ProofFault}
use Rattle.mst_proof.specs.declared.fault.ProofFault.TheVariants.{FormatByte, CutShort, LeftOver, NoNode, OtherDigest, LayerNotBelow, KeyOutside, Unfinished, TextBehind, OtherValue}
use Rattle.mst_sharded_proof.specs.declared.fault.ShardedFault.{ShardedFault}
use Rattle.mst_sharded_proof.specs.declared.fault.ShardedFault.TheVariants.{FormatByte as OtherFormatByte, CutShort as Cut, NoKey, Directory, NotListed, NoListing, KeyBelow, KeyNotBelow, Shard}
use Rattle.mst_report.specs.Report.{line_of, is_refusal}
use Rattle.mst_report.specs.declared.report.Report.{Report}
use Rattle.mst_report.specs.declared.report.Report.TheVariants.{Present, Absent, Refused, ShardedRefused, NotHex, Long}

abbrev faults : List ProofFault
faults =
    FormatByte ∷ CutShort ∷ LeftOver ∷ NoNode ∷ OtherDigest ∷ LayerNotBelow ∷ KeyOutside
    ∷ Unfinished
    ∷ TextBehind ∷ OtherValue ∷ []

abbrev tests : List ShardedFault
tests =
    OtherFormatByte ∷ Cut ∷ NoKey ∷ NotListed ∷ NoListing ∷ KeyBelow ∷ KeyNotBelow ∷ []

-- all refusals
abbrev refusals : List Report
refusals =
    NotHex ∷ Long ∷ (map Refused faults ++ (map ShardedRefused tests
    ++ (map (λ f. ShardedRefused (Directory f)) faults
    ++ map (λ f. ShardedRefused (Shard f)) faults)))

-- the first of these reports with this line
abbrev with_line : List ℕ → List Report → Option Report
with_line line [] = None
with_line line (r ∷ reports) =
    if bytes_eq (line_of r) line then Some r else with_line line reports

abbrev IsNamed : Report → Type 0
IsNamed r = with_line (line_of r) refusals ≡ Some r

plain_named : (f : ProofFault) → IsNamed (Refused f)
unfolding line_of
plain_named FormatByte = refl
plain_named CutShort = refl
plain_named LeftOver = refl
plain_named NoNode = refl
plain_named OtherDigest = refl
plain_named LayerNotBelow = refl
plain_named KeyOutside = refl
plain_named Unfinished = refl
plain_named TextBehind = refl
plain_named OtherValue = refl

directory_named : (f : ProofFault) → IsNamed (ShardedRefused (Directory f))
unfolding line_of
directory_named FormatByte = refl
directory_named CutShort = refl
directory_named LeftOver = refl
directory_named NoNode = refl
directory_named OtherDigest = refl
directory_named LayerNotBelow = refl
directory_named KeyOutside = refl
directory_named Unfinished = refl
directory_named TextBehind = refl
directory_named OtherValue = refl

shard_named : (f : ProofFault) → IsNamed (ShardedRefused (Shard f))
unfolding line_of
shard_named FormatByte = refl
shard_named CutShort = refl
shard_named LeftOver = refl
shard_named NoNode = refl
shard_named OtherDigest = refl
shard_named LayerNotBelow = refl
shard_named KeyOutside = refl
shard_named Unfinished = refl
shard_named TextBehind = refl
shard_named OtherValue = refl

sharded_named : (f : ShardedFault) → IsNamed (ShardedRefused f)
unfolding line_of
sharded_named OtherFormatByte = refl
sharded_named Cut = refl
sharded_named NoKey = refl
sharded_named NotListed = refl
sharded_named NoListing = refl
sharded_named KeyBelow = refl
sharded_named KeyNotBelow = refl
sharded_named (Directory f) = directory_named f
sharded_named (Shard f) = shard_named f

named : (r : Report) → is_refusal r ≡ true → IsNamed r
unfolding line_of
named (Present v) is = absurd (false≢true is)
named Absent is = absurd (false≢true is)
named (Refused f) is = plain_named f
named (ShardedRefused f) is = sharded_named f
named NotHex is = refl
named Long is = refl

-- ---- how they begin

abbrev begins_with : ℕ → List ℕ → Bool
begins_with c [] = false
begins_with c (b ∷ bs) = b == c

-- neither as `present` nor as `absent`
abbrev IsApart : List ℕ → Type 0
IsApart line = (begins_with 112 line ≡ false) × (begins_with 97 line ≡ false)

plain_apart : (f : ProofFault) → IsApart (line_of (Refused f))
unfolding line_of
plain_apart FormatByte = (refl, refl)
plain_apart CutShort = (refl, refl)
plain_apart LeftOver = (refl, refl)
plain_apart NoNode = (refl, refl)
plain_apart OtherDigest = (refl, refl)
plain_apart LayerNotBelow = (refl, refl)
plain_apart KeyOutside = (refl, refl)
plain_apart Unfinished = (refl, refl)
plain_apart TextBehind = (refl, refl)
plain_apart OtherValue = (refl, refl)

sharded_apart : (f : ShardedFault) → IsApart (line_of (ShardedRefused f))
unfolding line_of
sharded_apart OtherFormatByte = (refl, refl)
sharded_apart Cut = (refl, refl)
sharded_apart NoKey = (refl, refl)
sharded_apart NotListed = (refl, refl)
sharded_apart NoListing = (refl, refl)
sharded_apart KeyBelow = (refl, refl)
sharded_apart KeyNotBelow = (refl, refl)
sharded_apart (Directory f) = (refl, refl)
sharded_apart (Shard f) = (refl, refl)

is_apart : (r : Report) → is_refusal r ≡ true → IsApart (line_of r)
unfolding line_of
is_apart (Present v) is = absurd (false≢true is)
is_apart Absent is = absurd (false≢true is)
is_apart (Refused f) is = plain_apart f
is_apart (ShardedRefused f) is = sharded_apart f
is_apart NotHex is = (refl, refl)
is_apart Long is = (refl, refl)

pub apart : (r : Report) (rest : List ℕ) → is_refusal r ≡ true
    → (line_of r ≢ codes "present" ++ rest) × (line_of r ≢ codes "absent" ++ rest)
apart r rest is = (
  λ e. false≢true (sym (is_apart r is).0 ∙ ap (begins_with 112) e),
  λ e. false≢true (sym (is_apart r is).1 ∙ ap (begins_with 97) e),
)

-- ---- whose line one is

by_line : (a b : Report) → is_refusal a ≡ true → is_refusal b ≡ true → line_of a ≡ line_of b → a ≡ b
by_line a b is also e =
    same_Some a b (sym (named a is) ∙ ap (λ line. with_line line refusals) e ∙ named b also)

pub differ : (a b : Report) → is_refusal a ≡ true → line_of a ≡ line_of b → a ≡ b
unfolding line_of
differ a (Present v) is e = absurd (false≢true (sym (is_apart a is).0 ∙ ap (begins_with 112) e))
differ a Absent is e = absurd (false≢true (sym (is_apart a is).1 ∙ ap (begins_with 97) e))
differ a (Refused f) is e = by_line a (Refused f) is refl e
differ a (ShardedRefused f) is e = by_line a (ShardedRefused f) is refl e
differ a NotHex is e = by_line a NotHex is refl e
differ a Long is e = by_line a Long is refl e
