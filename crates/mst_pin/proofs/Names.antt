-- The names of std, of specs and of the crates below that proofs of this crate use.
pub use Rattle.mst_pin.specs.Core.{state, state_of}
pub use Rattle.mst_pin.specs.Laws.{KeepsPin}
pub use Rattle.mst_pin.specs.State.{AreUsable, IsBlank, IsDrained, IsHeld, IsPinned, IsTaken, Runs, State, Steps, after, opening, row_set}
pub use Rattle.mst_pin.specs.WordParts.{mask_of, masks, record_of}
pub use Rattle.mst_pin.specs.Words.{IsKept, counted_mask, pinned_by, pinned_mask, record_with_bit}
pub use Rattle.mst_pin.specs.declared.event.Answer.{Answer}
pub use Rattle.mst_pin.specs.declared.event.Answer.TheVariants.{Done, No, Record, Yes}
pub use Rattle.mst_pin.specs.declared.event.Event.{Event}
pub use Rattle.mst_pin.specs.declared.event.Event.TheVariants.{Ask, Pin, Publish, Transfer, Unpin, Write}
pub use Rattle.mst_pin.specs.declared.words.Returned.{Returned}
pub use Rattle.mst_pin.specs.declared.words.Words.{Words}
pub use Rattle.std.proofs.Common.{Bool, List, None, Option, Some, [], ap, arith, bit_and, bit_or, bit_xor, cond, eq-eqb, eqb, eqb-true, false, get_or, get_or-set_other, get_or-set_same, inl, inr, is_some, length, ne_eqb, refl, replicate, rules, set, slice_index, subst, suc, sym, take, true, zero, ℕ, ⊎_elim, ◌%◌, ◌*◌, ◌++◌, ◌+◌, ◌-◌, ◌<◌, ◌^◌, ◌↔◌, ◌∙◌, ◌∷◌, ◌≡◌, ◌≢◌, ◌≤◌, ◌⊎◌}
pub use Rattle.std.proofs.Math.Pow.{pow-lt}
pub use Rattle.std.proofs.lemmas.Nat.{xor_lt}
pub use Rattle.std.proofs.lemmas.Nat.Bits.{bit_at-lt, bit_at-trailing_zeros, bit_at-zero, bit_at_above}
pub use Rattle.std.specs.Int.{bit_at, trailing_zeros, w64}
pub use mathlib.Core.Logic.{dite}
pub use native.Mathlib.Decide.{dec_le, ℕ_discrete}
