use Rattle.mst_words.proofs.Names.{rules, ◌≡◌, ◌∙◌, ℕ, get_or, arith, refl, subst, RowStored}
use Rattle.mst_words.proofs.Accesses.{stored_once, stored_next}
use Rattle.mst_words.proofs.board.Board.store_words.Goals as goal

pub loop-k-preserved : goal.loop-k-preserved
loop-k-preserved g c = let k = c.loop-k.invariant in let s = c.store_word.ensures in record {
  table = s.same.0 ∙ k.table;
  id = s.same.1 ∙ k.id;
  kept = stored_once c.args.seat.now.me c.loop-k.seat.me c.store_word.new.seat.me _ _ k.kept
      s.stored;
  stored = stored_next c.args.seat.now.me c.loop-k.seat.me c.store_word.new.seat.me c.args.row
      c.loop-k.k (get_or c.args.words.now c.loop-k.k 0) c.args.words.now k.kept s.stored k.stored
      (omega arith) s.room refl;
}

pub returns-clause-stored : goal.returns-clause-stored
returns-clause-stored g c = let e : c.loop-k.k ≡ g.row.N = (omega arith) in
    subst (λ (n : ℕ). RowStored c.args.seat.now.me.0.rows c.args.row n c.args.words.now
    c.args.seat.now.me.0.known_words
    c.loop-k.seat.me.0.known_words) e c.loop-k.invariant.stored

pub loop-k-init : goal.loop-k-init
loop-k-init g c = search rules

pub offset_bounds-words-k : goal.offset_bounds-words-k
offset_bounds-words-k g c = search rules

pub bounds-words-k : goal.bounds-words-k
bounds-words-k g c = search rules

pub store_word-requires-clause-own : goal.store_word-requires-clause-own
store_word-requires-clause-own g c = search rules

pub store_word-requires-clause-blank : goal.store_word-requires-clause-blank
store_word-requires-clause-blank g c = search rules

pub store_word-requires-clause-there : goal.store_word-requires-clause-there
store_word-requires-clause-there g c = search rules

pub returns-clause-same : goal.returns-clause-same
returns-clause-same g c = search rules
