use Rattle.mst_words.proofs.Names.{◌≡◌, ◌∙◌, ◌+◌, ◌<◌, ℕ, Option, length, ap, arith, sym, subst, length-set, Me, View, row_word, table_words, IsTrue, PartStored, may_write}
use Rattle.mst_arena.specs.Lives as lives
use Rattle.mst_words.specs.Records as records
use Rattle.std.specs.Prelude.{slice_set as set}
use Rattle.mst_words.proofs.Accesses.{blank_parts, inside, stored_once, fill_from}
use Rattle.mst_words.proofs.Copied.{still_blank, part_next, beyond, filled_more}
use Rattle.mst_words.proofs.board.Board.copy_part.Goals as goal

-- ---- the words that are copied

pub loop-k-preserved : goal.loop-k-preserved
loop-k-preserved g c =
    let k = c.loop-k.invariant in
    let w = c.word_of-word.ensures in
    let s = c.store_word.ensures in
    let old = c.args.seat.now.me in
    let now = c.loop-k.seat.me in
    let new = c.store_word.new.seat.me in
    let value = c.word_of-word.result in
    let f : ℕ → ℕ = records.known_row old.0 c.args.from in
    let small : c.args.at + c.loop-k.k < 16 =
    omega (arith, c.loop-k-test.true, c.requires.there) in
    let blank = blank_parts old.0 c.args.to c.requires.blank in
    let there = inside old.0 c.args.from c.requires.readable in
    let sized : now.0.rows ≡ old.0.rows =
    ap (λ (z : Me (Option lives.State) View). z.0.rows) k.kept in
    let is : value ≡ f (c.args.at + c.loop-k.k) = w.word
    ∙ ap (λ (r : ℕ). records.row r now.0.known_words c.args.from (c.args.at + c.loop-k.k)) sized
    ∙ beyond old.0.rows c.args.to c.args.at c.loop-k.k c.args.from (c.args.at + c.loop-k.k) f
    old.0.known_words now.0.known_words blank.inside there k.stored (omega arith) small in
    let stored = subst (λ (z : Me (Option lives.State) View). new
    ≡ (
      record z.0 {
        known_words =
            set z.0.known_words (row_word z.0.rows c.args.to (c.args.at + c.loop-k.k)) value;
      },
      z.1,
    )) w.same.2 s.stored in
    let room : (c.args.to < now.0.rows) × (length now.0.known_words ≡ table_words now.0.rows) =
    subst (λ (z : Me (Option lives.State) View). (c.args.to < z.0.rows)
    × (length z.0.known_words ≡ table_words z.0.rows)) w.same.2 s.room in
    record {
      table = s.same.0 ∙ w.same.0 ∙ k.table;
      id = s.same.1 ∙ w.same.1 ∙ k.id;
      kept = stored_once old now new (row_word now.0.rows c.args.to (c.args.at + c.loop-k.k)) value
          k.kept stored;
      stored = part_next old now new c.args.to c.args.at c.loop-k.k value f k.kept stored k.stored
          small room is;
      length = length-set c.loop-k.words c.loop-k.k value ∙ k.length;
      so_far = filled_more c.loop-k.words (λ j. f (c.args.at + j)) c.loop-k.k value
          (omega (arith, k.length, c.loop-k-test.true)) k.so_far is;
    }

pub store_word-requires-clause-blank : goal.store_word-requires-clause-blank
store_word-requires-clause-blank g c =
    let k = c.loop-k.invariant in
    subst (λ (m : Me (Option lives.State) View). IsTrue (may_write m.0 c.args.to))
    (sym c.word_of-word.ensures.same.2)
    (still_blank c.args.seat.now.me c.loop-k.seat.me c.args.to k.kept k.stored.long
    c.requires.blank)

-- ---- those behind them

pub loop-k-2-init : goal.loop-k-2-init
loop-k-2-init g c =
    let k = c.loop-k.invariant in
    let all : c.loop-k.k ≡ g.row.N + 0 =
    omega (arith, c.loop-k-test.false, c.loop-k.auto.k-end) in
    record {
      table = k.table;
      id = k.id;
      kept = k.kept;
      stored = subst (λ (n : ℕ). PartStored c.args.seat.now.me.0.rows c.args.to c.args.at n
          (records.known_row c.args.seat.now.me.0 c.args.from)
          c.args.seat.now.me.0.known_words c.loop-k.seat.me.0.known_words) all k.stored;
    }

pub store_word-requires-in-loop-k-2-clause-blank : goal.store_word-requires-in-loop-k-2-clause-blank
store_word-requires-in-loop-k-2-clause-blank g c =
    let k = c.loop-k-2.invariant in
    still_blank c.args.seat.now.me c.loop-k-2.seat.me c.args.to k.kept k.stored.long
    c.requires.blank

pub loop-k-2-preserved : goal.loop-k-2-preserved
loop-k-2-preserved g c =
    let k = c.loop-k-2.invariant in
    let s = c.store_word-in-loop-k-2.ensures in
    let old = c.args.seat.now.me in
    let now = c.loop-k-2.seat.me in
    let new = c.store_word-in-loop-k-2.new.seat.me in
    let f : ℕ → ℕ = records.known_row old.0 c.args.from in
    let n = g.row.N + c.loop-k-2.k in
    let small : c.args.at + (g.row.N + c.loop-k-2.k) < 16 =
    omega (arith, c.loop-k-2-test.true, c.requires.there) in
    let more : g.row.N + c.loop-k-2.k + 1 ≡ g.row.N + (c.loop-k-2.k + 1) = omega arith in
    record {
      table = s.same.0 ∙ k.table;
      id = s.same.1 ∙ k.id;
      kept = stored_once old now new
          (row_word now.0.rows c.args.to (c.args.at + (g.row.N + c.loop-k-2.k))) 0
          k.kept s.stored;
      stored =
          subst (λ (m : ℕ). PartStored c.args.seat.now.me.0.rows c.args.to c.args.at m f
          old.0.known_words
          new.0.known_words) more
          (part_next old now new c.args.to c.args.at (g.row.N + c.loop-k-2.k) 0 f k.kept s.stored
          k.stored small s.room (sym (c.requires.zeros c.loop-k-2.k c.loop-k-2-test.true)));
    }

pub returns-clause-words : goal.returns-clause-words
returns-clause-words g c =
    let k = c.loop-k.invariant in
    fill_from (records.known_row c.args.seat.now.me.0 c.args.from) c.loop-k.words c.args.at
    g.row.N k.length (λ j lt. k.so_far j (omega (arith, lt, c.loop-k-test.false)))

pub returns-clause-stored : goal.returns-clause-stored
returns-clause-stored g c =
    let k = c.loop-k-2.invariant in
    let all : g.row.N + c.loop-k-2.k ≡ g.row.N + g.row.M =
    omega (arith, c.loop-k-2-test.false, c.loop-k-2.auto.k-end) in
    subst (λ (n : ℕ). PartStored c.args.seat.now.me.0.rows c.args.to c.args.at n
    (records.known_row c.args.seat.now.me.0 c.args.from) c.args.seat.now.me.0.known_words
    c.loop-k-2.seat.me.0.known_words) all k.stored
