use Rattle.mst_words.proofs.Names.{◌≡◌, ◌∙◌, ◌<◌, ◌≤◌, ◌∷◌, [], ℕ, List, Option, ap, arith, refl, subst, sym, Me, View, table_words, PartStored, RowStored, may_read, relinked_list}
use Rattle.mst_arena.specs.Lives as lives
use Rattle.mst_words.specs.Records as records
use Rattle.mst_words.proofs.Accesses.{blank_parts, inside}
use Rattle.mst_words.proofs.Copied.{behind_front, entry_stored, same_words, still_blank, still_ends}
use Rattle.mst_words.proofs.board.Board.copy_words.Given.{Over}
use Rattle.mst_words.proofs.board.Board.copy_words.Goals.{After-store_words}
use Rattle.mst_words.proofs.board.Board.copy_words.Goals as goal

-- the words behind the first four, which were stored
module _ (g : Over) (c : goal.After-store_words g) where
  sized : c.store_words.new.seat.me.0.rows ≡ c.args.seat.now.me.0.rows
  sized = ap (λ (z : Me (Option lives.State) View). z.0.rows) c.store_words.ensures.same.2

  behind : (k : ℕ) → 4 ≤ k → k < 16
      → records.known_row c.store_words.new.seat.me.0 c.args.from k
      ≡ records.known_row c.args.seat.now.me.0 c.args.from k
  behind k ge lt = let v : View = c.args.seat.now.me.0 in
      ap (λ (r : ℕ). records.row r c.store_words.new.seat.me.0.known_words c.args.from k) sized
      ∙ behind_front v.rows c.args.to 4 c.args.from k
      (1 ∷ c.from.result ∷ c.from-2.result ∷ c.args.lengths ∷ [])
      v.known_words c.store_words.new.seat.me.0.known_words
      (blank_parts v c.args.to c.requires.blank).inside
      (inside v c.args.from c.requires.readable)
      c.store_words.ensures.stored ge lt

pub copy_bytes-requires-clause-own : goal.copy_bytes-requires-clause-own
copy_bytes-requires-clause-own g c = record {
  own = c.store_words.ensures.same.0 ∙ c.requires.own.own;
  wide = c.requires.own.wide
      ∙ ap table_words
      (sym (sized g (goal.at.copy_bytes-requires-clause-own g c).After-store_words));
}

pub copy_bytes-requires-clause-readable : goal.copy_bytes-requires-clause-readable
copy_bytes-requires-clause-readable g c =
    ap (λ (z : Me (Option lives.State) View). may_read z.0 c.args.from)
    c.store_words.ensures.same.2
    ∙ c.requires.readable

pub copy_bytes-requires-clause-blank : goal.copy_bytes-requires-clause-blank
copy_bytes-requires-clause-blank g c =
    still_blank c.args.seat.now.me c.store_words.new.seat.me c.args.to
    c.store_words.ensures.same.2 c.store_words.ensures.stored.long c.requires.blank

pub copy_bytes-requires-clause-ends : goal.copy_bytes-requires-clause-ends
copy_bytes-requires-clause-ends g c =
    still_ends c.args.lengths c.args.lengths
    (records.known_row c.args.seat.now.me.0 c.args.from)
    (records.known_row c.store_words.new.seat.me.0 c.args.from) refl
    (behind g (goal.at.copy_bytes-requires-clause-ends g c).After-store_words)
    c.requires.ends

pub returns-clause-key : goal.returns-clause-key
returns-clause-key g c = c.copy_bytes.ensures.key
    ∙ same_words (records.known_row c.args.seat.now.me.0 c.args.from)
    (records.known_row c.store_words.new.seat.me.0 c.args.from) 4 4
    (λ k ge lt. behind g (goal.at.returns-clause-key g c).After-store_words k
    (omega (arith, ge)) (omega (arith, lt)))

pub returns-clause-value : goal.returns-clause-value
returns-clause-value g c = c.copy_bytes.ensures.value
    ∙ same_words (records.known_row c.args.seat.now.me.0 c.args.from)
    (records.known_row c.store_words.new.seat.me.0 c.args.from) 8 8
    (λ k ge lt. behind g (goal.at.returns-clause-value g c).After-store_words k
    (omega (arith, ge)) (omega (arith, lt)))

pub returns-clause-stored : goal.returns-clause-stored
returns-clause-stored g c =
    let v : View = c.args.seat.now.me.0 in
    let old : List ℕ = v.known_words in
    let mid : List ℕ = c.store_words.new.seat.me.0.known_words in
    let new : List ℕ = c.copy_bytes.new.seat.me.0.known_words in
    let f : ℕ → ℕ = records.known_row v c.args.from in
    let all = entry_stored v.rows c.args.to c.args.from c.from.result c.from-2.result
    c.args.lengths old mid new
    (blank_parts v c.args.to c.requires.blank).inside
    (inside v c.args.from c.requires.readable) c.requires.kind
    c.requires.lengths c.store_words.ensures.stored
    (subst (λ (r : ℕ). PartStored r c.args.to 4 12 (records.row r mid c.args.from) mid new)
    (sized g (goal.at.returns-clause-stored g c).After-store_words)
    c.copy_bytes.ensures.stored) in
    subst (λ (n : ℕ). RowStored v.rows c.args.to 16 (relinked_list f c.args.links.child n) old new)
    c.from-2.ensures
    (subst (λ (n : ℕ). RowStored v.rows c.args.to 16 (relinked_list f n c.from-2.result) old new)
    c.from.ensures all)

pub returns-clause-same : goal.returns-clause-same
returns-clause-same g c = (
  c.copy_bytes.ensures.same.0 ∙ c.store_words.ensures.same.0,
  c.copy_bytes.ensures.same.1 ∙ c.store_words.ensures.same.1,
  c.copy_bytes.ensures.same.2
      ∙ ap (λ (z : Me (Option lives.State) View).
      (record z.0 { known_words = c.copy_bytes.new.seat.me.0.known_words }, z.1))
      c.store_words.ensures.same.2,
)
