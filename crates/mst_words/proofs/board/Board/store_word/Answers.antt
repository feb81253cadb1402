use Rattle.mst_words.proofs.Names.{◌≡◌, ◌∙◌, ◌<◌, ℕ, Option, true, ap, arith, subst, sym, TableId, Me, View, row_word, row_words, table_words, IsWritable, stored, IsAt, may_write}
use Rattle.mst_arena.specs.Lives as lives
use Rattle.mst_words.proofs.Accesses.{blank_may, blank_parts, rows_of_table, writable}
use Rattle.mst_words.proofs.Places.{place_below}
use Rattle.mst_words.proofs.board.Board.store_word.Goals as goal

-- where the word lies
there : {board seat : TableId} (v : View) (rows x k i : ℕ) → IsAt board seat v.rows
    → board.words ≡ table_words rows → i ≡ row_word rows x k → i ≡ row_word v.rows x k
there v rows x k i own wide is = is
    ∙ ap (λ (r : ℕ). row_word r x k) (rows_of_table own wide)

within : {board seat : TableId} (v : View) (x k i : ℕ) → IsAt board seat v.rows
    → may_write v x ≡ true → k < row_words → i ≡ row_word v.rows x k → i < board.words
within v x k i own blank lt is = let below = place_below v.rows x k
    (blank_parts v x blank).inside lt in let w = own.wide in omega (arith, is, below, w)

pub word_of-requires-clause-readable : goal.word_of-requires-clause-readable
word_of-requires-clause-readable g c =
    blank_may c.args.seat.now.me.0 c.args.row c.requires.blank

pub store-requires-clause-there :
    goal.store-requires-clause-there
store-requires-clause-there g c = let v = c.args.seat.now.me.0 in
    within v c.args.row c.args.k c.row_word.result c.requires.own
    c.requires.blank c.requires.there
    (there v c.args.rows c.args.row c.args.k c.row_word.result c.requires.own
    c.requires.wide c.row_word.ensures.place)

pub store-requires-clause-writable :
    goal.store-requires-clause-writable
store-requires-clause-writable g c = let v = c.args.seat.now.me.0 in
    subst (λ (i : ℕ). IsWritable (stored c.word_of.new.seat.me.0.format) c.word_of.new.seat.me.0 i)
    (sym {A = ℕ} (there v c.args.rows c.args.row c.args.k c.row_word.result
    c.requires.own c.requires.wide c.row_word.ensures.place))
    (subst (λ (z : Me (Option lives.State) View). IsWritable (stored z.0.format) z.0
    (row_word v.rows c.args.row c.args.k))
    (sym c.word_of.ensures.same.2)
    (writable v c.args.row c.args.k c.requires.blank c.requires.there))
