use Rattle.mst_arena.proofs.Names.{◌≡◌, ◌∙◌, ◌/◌, ◌%◌, ◌*◌, ◌<◌, ◌^◌, ap, arith, slice_index, bit_at}
use Rattle.std.proofs.lemmas.Nat.{and_le_l}
use Rattle.mst_arena.proofs.BitLemmas.{bit_of_lowest, lowest_lt, from_bit, masked_bit, masked_none}
use Rattle.mst_arena.proofs.bits.next_bit.Goals as goal

pub returns-then-masked-ne0-clause-some : goal.returns-then-masked-ne0-clause-some
returns-then-masked-ne0-clause-some c =
    let words = c.args.words.now in
    let j = c.args.from / 64 in
    let w = slice_index words j in
    let k = c.args.from % 64 in
    let small : w < 2 ^ 64 = omega (arith, c.type_inv.words j) in
    let few : from_bit w k < 2 ^ 64 =
    omega (arith, and_le_l w (18446744073709551615 * 2 ^ k % 18446744073709551616)) in
    let some : 0 < from_bit w k = omega (arith, c.if-masked-ne0.true) in (
      omega (arith, lowest_lt (from_bit w k) few some, c.if-first-words.false),
      bit_of_lowest words j
          (from_bit w k) few some (λ i is. masked_bit w k i (omega arith) is),
    )

pub loop-i-init : goal.loop-i-init
loop-i-init c = λ i le lt.
    let words = c.args.words.now in
    let j = c.args.from / 64 in
    let same : i / 64 ≡ j = omega arith in
    ap (λ (n : _). bit_at (slice_index words n) (i % 64)) same
    ∙ masked_none (slice_index words j) (c.args.from % 64) (i % 64) (omega arith) (omega arith)
    (omega arith) (omega (arith, c.if-masked-ne0.false))

pub returns-then-words-i-ne0-clause-some : goal.returns-then-words-i-ne0-clause-some
returns-then-words-i-ne0-clause-some c =
    let words = c.args.words.now in
    let w = slice_index words c.loop-i.i in
    let small : w < 2 ^ 64 = omega (arith, c.type_inv.words c.loop-i.i) in
    let some : 0 < w = omega arith in (
      omega (arith, lowest_lt w small some),
      bit_of_lowest words c.loop-i.i w small some
          (λ i is. is),
    )
