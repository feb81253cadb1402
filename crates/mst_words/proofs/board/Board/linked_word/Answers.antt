use Rattle.mst_words.proofs.Names.{◌≡◌, ◌+◌, ◌*◌, ◌-◌, ◌<◌, ◌∙◌, ℕ, ap, arith, subst, sym, slice_index, View, row_word, IsReadable}
use Rattle.mst_words.proofs.Accesses.{inside, readable}
use Rattle.mst_words.proofs.Places.{place_below, place_front}
use Rattle.mst_words.proofs.board.Board.linked_word.Goals as goal

-- where the word lies
place : (v : View) (link k : ℕ) → 0 < link → 0 < k → k < 5 → row_word v.rows (link - 1) k
    ≡ link * 4 + k + 273
place v link k some some_word few =
    let front = place_front v.rows (link - 1) k some_word few in omega (arith, some, front)

pub load-requires-clause-there : goal.load-requires-clause-there
load-requires-clause-there g c =
    let v = c.args.seat.now.me.0 in
    let p = place v c.args.link c.args.k c.requires.some c.requires.some_word c.requires.there in
    let within = inside v (c.args.link - 1) c.requires.readable in
    let l = c.requires.there in
    let below = place_below v.rows (c.args.link - 1) c.args.k within (omega (arith, l)) in
    let w = c.requires.own.wide in omega (arith, p, below, w)

pub load-requires-clause-readable : goal.load-requires-clause-readable
load-requires-clause-readable g c =
    let v = c.args.seat.now.me.0 in
    subst (λ (i : ℕ). IsReadable v i)
    (place v c.args.link c.args.k c.requires.some c.requires.some_word c.requires.there)
    (readable v (c.args.link - 1) c.args.k c.requires.readable
    (let l = c.requires.there in omega (arith, l)))

pub returns-clause-word : goal.returns-clause-word
returns-clause-word g c =
    let v = c.args.seat.now.me.0 in
    c.load.ensures.value
    ∙ ap (λ (i : ℕ). slice_index v.known_words i)
    (sym (place v c.args.link c.args.k c.requires.some c.requires.some_word c.requires.there))
