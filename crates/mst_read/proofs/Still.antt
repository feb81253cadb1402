-- What was read of some rows holds of the same rows later.
use Rattle.mst_read.proofs.Names.{◌≡◌, ℕ, Option, Some, IsSome, sym, ◌∙◌, ap, subst, Format, Content, part_at, HeadLinks, Row, Placed, Chain, Lies, LiesBehind, HeadStands, PartStands}

module _ {before after : Content} (same : after ≡ before) where
  pub lies_still : {format : Format} {link : ℕ} {p : Placed} → Lies format before link p
      → Lies format after link p
  lies_still {format} {link} {p} = subst (λ (x : Content). Lies format x link p) (sym same)

  pub behind_still : {format : Format} {links : HeadLinks} {c : Chain} → LiesBehind format before
      links c → LiesBehind format after links c
  behind_still {format} {links} {c} = subst (λ (x : Content). LiesBehind format x links c)
      (sym same)

  pub stands_still : {format : Format} {top : Option HeadLinks} {p : Placed}
      → HeadStands format before top p → HeadStands format after top p
  stands_still {format} {top} {p} = subst (λ (x : Content). HeadStands format x top p) (sym same)

  pub part_still : {format : Format} {part : HeadLinks} {c : Chain} → PartStands format before part
      c → PartStands format after part c
  part_still {format} {part} {c} = subst (λ (x : Content). PartStands format x part c) (sym same)

  -- and what is read later stood there before
  pub read_before : {A : Type 0} (part : Row → Option A) (row : ℕ) {value : A}
      → part_at part after row ≡ Some value → part_at part before row ≡ Some value
  read_before part row is = ap (λ (x : Content). part_at part x row) (sym same) ∙ is

  pub there_still : {A : Type 0} (part : Row → Option A) (row : ℕ)
      → IsSome (part_at part before row) → IsSome (part_at part after row)
  there_still part row = subst (λ (x : Content). IsSome (part_at part x row)) (sym same)

  pub read_still : {A : Type 0} (part : Row → Option A) (row : ℕ) {value : A}
      → part_at part before row ≡ Some value → part_at part after row ≡ Some value
  read_still part row is = ap (λ (x : Content). part_at part x row) same ∙ is
