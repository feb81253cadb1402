use Rattle.mst_pin.proofs.Names.{ℕ, bit_or, slice_index, sym, ap, eqb-true, eq-eqb, bit_at, row_set, state_of}
use Rattle.mst_pin.specs.Core.{state}
use Rattle.mst_pin.proofs.Rows.{blank_from_bit, bit_from_blank}
use Rattle.mst_pin.proofs.Core.is_blank.Goals as goal

pub returns : goal.returns
unfolding state
returns c = let s = c.args.self.now in let own : ℕ = slice_index s.rows c.record.result in
    let held : ℕ = c.held_rows.result in let x : ℕ = c.args.row in
    let now = λ (x : ℕ). ap (λ (z : ℕ). row_set (slice_index s.rows z) x) (sym c.record.ensures)
    in (
      λ t. blank_from_bit (state_of s.passes s.words s.rows) own held now c.held_rows.ensures.all
          c.held_rows.ensures.only x (eqb-true (bit_at (bit_or own held) x) 0 t),
      λ h. eq-eqb (bit_at (bit_or own held) x) 0
          (bit_from_blank (state_of s.passes s.words s.rows) own held now c.held_rows.ensures.all
          c.held_rows.ensures.only x h),
    )
