use Rattle.mst_arena.proofs.Names.{◌<◌, arith, rules, common_steps, slice_index, w64, trailing_zeros}
use Rattle.mst_arena.proofs.BitLemmas.{bit_of_lowest, lowest_lt, word_within}
use Rattle.mst_arena.proofs.bits.bit_in_use.Goals as goal

pub returns-clause-some : goal.returns-clause-some
returns-clause-some c =
    let words = c.args.words.now in
    let w = slice_index words c.in_ok-word.word in
    bit_of_lowest words c.in_ok-word.word w (omega (arith, c.type_inv.words c.in_ok-word.word))
    (omega (arith, c.in_ok-word.ensures.some)) (λ i is. is)

pub overflow_add-result : goal.overflow_add-result
overflow_add-result c =
    let words = c.args.words.now in
    let w = slice_index words c.in_ok-word.word in
    let small : trailing_zeros w64 w < 64 =
    lowest_lt w (omega (arith, c.type_inv.words c.in_ok-word.word))
    (omega (arith, c.in_ok-word.ensures.some)) in
    omega (arith, word_within words c.in_ok-word.word c.in_ok-word.ensures.some, c.requires.few)

pub returns-clause-near : goal.returns-clause-near
returns-clause-near c some =
    let words = c.args.words.now in
    let w = slice_index words c.in_ok-word.word in
    let small : trailing_zeros w64 w < 64 =
    lowest_lt w (omega (arith, c.type_inv.words c.in_ok-word.word))
    (omega (arith, c.in_ok-word.ensures.some)) in
    omega (arith, small, c.in_ok-word.ensures.near some)

pub word_in_use-requires-clause-sums : goal.word_in_use-requires-clause-sums
word_in_use-requires-clause-sums c = search rules

pub word_in_use-requires-clause-few : goal.word_in_use-requires-clause-few
word_in_use-requires-clause-few c = search rules

pub word_in_use-requires-clause-there : goal.word_in_use-requires-clause-there
word_in_use-requires-clause-there c = search rules

pub returns-in_err-word-clause-some : goal.returns-in_err-word-clause-some
returns-in_err-word-clause-some c = search rules

pub returns-in_err-word-clause-near : goal.returns-in_err-word-clause-near
returns-in_err-word-clause-near c = search rules

pub returns-in_err-word-clause-none : goal.returns-in_err-word-clause-none
returns-in_err-word-clause-none c = search rules

pub overflow_mul-result : goal.overflow_mul-result
overflow_mul-result c = grind (arith, common_steps)

pub offset_bounds-words-word : goal.offset_bounds-words-word
offset_bounds-words-word c = grind (arith, common_steps)

pub bounds-words-word : goal.bounds-words-word
bounds-words-word c = grind (arith, common_steps)

pub overflow_cast-result : goal.overflow_cast-result
overflow_cast-result c = search rules

pub returns-clause-none : goal.returns-clause-none
returns-clause-none c = search rules
