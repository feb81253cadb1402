use Rattle.mst_pin.proofs.Names.{ℕ, ◌<◌, ◌-◌, ◌^◌, bit_and, slice_index, sym, ap, eqb-true, eq-eqb, arith, row_set, state_of}
use Rattle.mst_pin.specs.Core.{state}
use Rattle.mst_pin.proofs.Rows.{usable_from_none, none_from_usable}
use Rattle.mst_pin.proofs.Core.are_usable.Goals as goal

pub returns : goal.returns
unfolding state
returns c = let s = c.args.self.now in let own : ℕ = slice_index s.rows c.record.result in
    let held : ℕ = c.held_rows.result in let rows : ℕ = c.args.rows in
    let now = λ (x : ℕ). ap (λ (z : ℕ). row_set (slice_index s.rows z) x) (sym c.record.ensures) in
    let own_small : own < 2 ^ 64 = omega arith in (
      λ t. usable_from_none (state_of s.passes s.words s.rows) own held now c.held_rows.ensures.all
          c.held_rows.ensures.only rows (omega arith) own_small (omega arith)
          (eqb-true (bit_and (bit_and rows (18446744073709551615 - own)) held) 0 t),
      λ h. eq-eqb (bit_and (bit_and rows (18446744073709551615 - own)) held) 0
          (none_from_usable (state_of s.passes s.words s.rows) own held now c.held_rows.ensures.all
          c.held_rows.ensures.only rows (omega arith) own_small (omega arith) h),
    )
