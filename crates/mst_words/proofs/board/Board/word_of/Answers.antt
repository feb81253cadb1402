use Rattle.mst_words.proofs.Names.{◌≡◌, ◌∙◌, ℕ, ap, arith, subst, sym, slice_index, row_word, IsReadable}
use Rattle.mst_words.proofs.Accesses.{inside, readable, rows_of_table}
use Rattle.mst_words.proofs.Places.{place_below}
use Rattle.mst_words.proofs.board.Board.word_of.Given.{Over}
use Rattle.mst_words.proofs.board.Board.word_of.Goals as goal
use Rattle.mst_words.proofs.board.Board.word_of.Goals.{After-row_word}

-- where the word lies
module _ (g : Over) (c : goal.After-row_word g) where
  place : c.row_word.result ≡ row_word c.args.seat.now.me.0.rows c.args.row c.args.k
  place = c.row_word.ensures.place
      ∙ ap (λ (r : ℕ). row_word r c.args.row c.args.k)
      (rows_of_table c.requires.own c.requires.wide)

pub load-requires-clause-there : goal.load-requires-clause-there
load-requires-clause-there g c = let v = c.args.seat.now.me.0 in
    let below = place_below v.rows c.args.row c.args.k (inside v c.args.row c.requires.readable)
    c.requires.there in let p = place g (goal.at.load-requires-clause-there g c).After-row_word in
    let w = c.requires.own.wide in omega (arith, p, below, w)

pub load-requires-clause-readable : goal.load-requires-clause-readable
load-requires-clause-readable g c = subst (λ (i : ℕ). IsReadable c.args.seat.now.me.0 i)
    (sym (place g (goal.at.load-requires-clause-readable g c).After-row_word))
    (readable c.args.seat.now.me.0 c.args.row c.args.k c.requires.readable c.requires.there)

pub returns-clause-word : goal.returns-clause-word
returns-clause-word g c = c.load.ensures.value
    ∙ ap (λ (i : ℕ). slice_index c.args.seat.now.me.0.known_words i)
    (place g (goal.at.returns-clause-word g c).After-row_word)
