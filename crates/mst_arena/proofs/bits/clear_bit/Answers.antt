use Rattle.mst_arena.proofs.Names.{◌∙◌, ◌/◌, ◌%◌, refl, arith, slice_index, w64, length-set, get_or-set_other}
use Rattle.std.proofs.lemmas.Nat.Bits.{bit_at_clear_same, bit_at_clear_other}
use Rattle.mst_arena.proofs.BitLemmas.{bit_written, other_bits}
use Rattle.mst_arena.proofs.bits.clear_bit.Goals as goal

pub returns-clause-written : goal.returns-clause-written
returns-clause-written c =
    let words = c.args.words.now in
    let w = slice_index words (c.args.index / 64) in
    record {
      len = length-set words (c.args.index / 64) _;
      here = bit_written words (c.args.index / 64) _ c.args.index (omega (arith, c.requires.there))
          refl
          ∙ bit_at_clear_same w64 w (c.args.index % 64) (omega arith);
      others = other_bits words c.args.index _ (omega (arith, c.requires.there))
          (λ k lt apart. bit_at_clear_other w64 w (c.args.index % 64) (omega arith) k lt apart);
      elsewhere = λ k apart. get_or-set_other words (c.args.index / 64) k _ 0 apart;
    }
