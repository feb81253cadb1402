-- No number that an opening returns is another one.
use Rattle.mst_c_blocks.proofs.Names.{◌≡◌, ℕ, pos, negsuc, sym, ap, ◌∙◌, arith}
use Rattle.std.proofs.Common.{◌⊎◌, inl, inr, ℤ}

-- 0 for 0, and n for -n - 1
abbrev below_zero : ℤ → ℕ
below_zero (pos n) = 0
below_zero (negsuc n) = n

-- a map that may have its splits and its shape is opened, or memory is refused
pub not_shape : (r : ℤ) → (r ≡ pos 0) ⊎ (r ≡ negsuc 8) → r ≡ negsuc 9 → ⊥
not_shape r (inl done) told =
    let e : 0 ≡ 9 = ap below_zero (sym done ∙ told) in omega (arith, e)
not_shape r (inr refused) told =
    let e : 8 ≡ 9 = ap below_zero (sym refused ∙ told) in omega (arith, e)

-- and one that may have its splits is refused for its shape at most
pub not_splits : (r : ℤ) → (r ≡ pos 0) ⊎ (r ≡ negsuc 9) ⊎ (r ≡ negsuc 8) → r ≡ negsuc 25 → ⊥
not_splits r (inl done) told =
    let e : 0 ≡ 25 = ap below_zero (sym done ∙ told) in omega (arith, e)
not_splits r (inr (inl shape)) told =
    let e : 9 ≡ 25 = ap below_zero (sym shape ∙ told) in omega (arith, e)
not_splits r (inr (inr refused)) told =
    let e : 8 ≡ 25 = ap below_zero (sym refused ∙ told) in omega (arith, e)
