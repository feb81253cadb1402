use Rattle.mst_words.proofs.Names.{rules, common_steps, elements, ◌≡◌, List, ℕ, length, ap, ◌∙◌, set, get_or, length-set, get_or-set_same, arith, length-replicate, bytes_in, table_words}
use Rattle.mst_words.proofs.Fresh.{four_set, four_of, behind_four}
use Rattle.mst_words.proofs.words.first_words.Goals as goal

pub returns-clause-digest : goal.returns-clause-digest
returns-clause-digest g c =
    let four : List ℕ = c.empty_digest_words.result in
    let long : length c.in_ok-words.words.items ≡ table_words c.args.shape.rows =
    ap (λ (l : List ℕ). length l) c.in_ok-words.ensures.ok ∙ length-replicate _ _
    ∙ c.table_words.ensures.count in
    let same = length-set c.in_ok-words.words.items 42 c.format_number-number.result in
    four_set (set c.in_ok-words.words.items 42 c.format_number-number.result) (get_or four 0 0)
    (get_or four 1 0) (get_or four 2 0) (get_or four 3 0) (omega (arith, long, same))
    ∙ ap bytes_in (four_of four (omega (arith, c.empty_digest_words.type_inv)))
    ∙ c.empty_digest_words.ensures.bytes

pub returns-clause-format : goal.returns-clause-format
returns-clause-format g c =
    let four : List ℕ = c.empty_digest_words.result in
    let long : length c.in_ok-words.words.items ≡ table_words c.args.shape.rows =
    ap (λ (l : List ℕ). length l) c.in_ok-words.ensures.ok ∙ length-replicate _ _
    ∙ c.table_words.ensures.count in
    behind_four (set c.in_ok-words.words.items 42 c.format_number-number.result) (get_or four 0 0)
    (get_or four 1 0) (get_or four 2 0) (get_or four 3 0)
    ∙ get_or-set_same c.in_ok-words.words.items 42 c.format_number-number.result 0
    (omega (arith, long))
    ∙ c.format_number-number.ensures.number

pub bounds-empty_digest_words-0 : goal.bounds-empty_digest_words-0
bounds-empty_digest_words-0 g c = search rules

pub bounds-empty_digest_words-1 : goal.bounds-empty_digest_words-1
bounds-empty_digest_words-1 g c = search rules

pub bounds-empty_digest_words-2 : goal.bounds-empty_digest_words-2
bounds-empty_digest_words-2 g c = search rules

pub bounds-empty_digest_words-3 : goal.bounds-empty_digest_words-3
bounds-empty_digest_words-3 g c = search rules

pub returns-in_err-words-clause-long : goal.returns-in_err-words-clause-long
returns-in_err-words-clause-long g c = search rules

pub returns-in_err-words-clause-front : goal.returns-in_err-words-clause-front
returns-in_err-words-clause-front g c = search rules

pub returns-in_err-words-clause-digest : goal.returns-in_err-words-clause-digest
returns-in_err-words-clause-digest g c = search rules

pub returns-in_err-words-clause-format : goal.returns-in_err-words-clause-format
returns-in_err-words-clause-format g c = search rules

pub index_mut-requires-5 : goal.index_mut-requires-5
index_mut-requires-5 g c = grind (arith, common_steps)

pub returns-clause-long : goal.returns-clause-long
returns-clause-long g c = grind (arith, common_steps)

pub returns-clause-front : goal.returns-clause-front
returns-clause-front g c = grind (arith, elements)

pub index_mut-requires : goal.index_mut-requires
index_mut-requires g c = grind (arith, common_steps)

pub overflow_add-index_mut : goal.overflow_add-index_mut
overflow_add-index_mut g c = search rules

pub index_mut-requires-2 : goal.index_mut-requires-2
index_mut-requires-2 g c = grind (arith, common_steps)

pub overflow_add-index_mut-2 : goal.overflow_add-index_mut-2
overflow_add-index_mut-2 g c = search rules

pub index_mut-requires-3 : goal.index_mut-requires-3
index_mut-requires-3 g c = grind (arith, common_steps)

pub overflow_add-index_mut-3 : goal.overflow_add-index_mut-3
overflow_add-index_mut-3 g c = search rules

pub index_mut-requires-4 : goal.index_mut-requires-4
index_mut-requires-4 g c = grind (arith, common_steps)
