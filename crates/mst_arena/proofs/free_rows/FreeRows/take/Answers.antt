use Rattle.mst_arena.proofs.Names.{◌≡◌, ◌∙◌, ◌<◌, ap, sym, arith, List, ℕ, Bool, true, false, length, Some, None, refl, Option, slice_get, slice_set, slice_index, bit, count_true}
use Rattle.std.specs.Prelude.{IfNone}
use Rattle.mst_arena.proofs.FlagLemmas.{length-flags}
use Rattle.mst_arena.proofs.SetLemmas.{bit_there, set_none, set_bit_flag}
use Rattle.mst_arena.proofs.free_rows.FreeRows.take.Goals as goal

pub returns-in_err-row-clause-none : goal.returns-in_err-row-clause-none
returns-in_err-row-clause-none g c =
    let i = c.self.inside in
    let zeros : (w : ℕ) → slice_index i.words.items w ≡ 0 =
    λ w. ap (λ (l : List ℕ). slice_index l w) (sym c.deref.ensures.value)
    ∙ c.in_err-row.ensures.none w in
    let none = set_none i.rows i.count i.at i.words.items i.summary.items _ _ c.self.invariant zeros
    in
    if_none c.from_residual.result (sym (ap count_true c.self.view_is) ∙ none, refl)
  where
    if_none : {X : Type 0} {P : Type 0} (o : Option X) → P → IfNone o P
    if_none None p = p
    if_none (Some x) p = tt

pub take_at-requires-clause-there : goal.take_at-requires-clause-there
take_at-requires-clause-there g c =
    let i = c.self.inside in
    let is : bit i.words.items c.in_ok-row.row ≡ 1 = ap (λ (l : List ℕ). bit l c.in_ok-row.row)
    (sym c.deref.ensures.value) ∙ c.in_ok-row.ensures.some in
    ap (λ (s : List Bool). slice_get s c.in_ok-row.row) (sym c.self.view_is)
    ∙ set_bit_flag i.rows i.count i.at i.words.items i.summary.items _ _ c.self.invariant
    c.in_ok-row.row is

pub take_at-requires-clause-at : goal.take_at-requires-clause-at
take_at-requires-clause-at g c =
    let i = c.self.inside in
    let is : bit i.words.items c.in_ok-row.row ≡ 1 = ap (λ (l : List ℕ). bit l c.in_ok-row.row)
    (sym c.deref.ensures.value) ∙ c.in_ok-row.ensures.some in
    let there = bit_there i.rows i.count i.at i.words.items i.summary.items _ _ c.self.invariant
    c.in_ok-row.row is in
    omega (
      arith,
      there,
      c.self.invariant.room,
      c.self.invariant.fits,
      ap (λ (s : List Bool). length s) c.self.view_is,
      length-flags i.rows i.words.items,
    )

pub returns-clause-some : goal.returns-clause-some
returns-clause-some g c =
    let i = c.self.inside in
    let is : bit i.words.items c.in_ok-row.row ≡ 1 = ap (λ (l : List ℕ). bit l c.in_ok-row.row)
    (sym c.deref.ensures.value) ∙ c.in_ok-row.ensures.some in
    let there : slice_get c.args.self.now c.in_ok-row.row ≡ Some true =
    ap (λ (s : List Bool). slice_get s c.in_ok-row.row) (sym c.self.view_is)
    ∙ set_bit_flag i.rows i.count i.at i.words.items i.summary.items _ _ c.self.invariant
    c.in_ok-row.row is in (
      ap (λ (r : ℕ). slice_get c.args.self.now r) c.take_at.ensures.same ∙ there,
      c.take_at.ensures.taken
          ∙ ap (λ (r : ℕ). slice_set c.args.self.now r false) (sym c.take_at.ensures.same),
    )
