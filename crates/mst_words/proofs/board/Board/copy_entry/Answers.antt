use Rattle.mst_words.proofs.Names.{◌≡◌, ◌∙◌, ℕ, List, Option, ap, subst, Me, part_at, entry_pair, View, RowStored, content_of, relinked_list}
use Rattle.mst_arena.specs.Lives as lives
use Rattle.mst_words.specs.Records as records
use Rattle.mst_words.proofs.board.Board.copy_entry.Goals as goal

-- the load of the lengths changes nothing of the seat

kept_as : (old now : Me (Option lives.State) View) (new : Me (Option lives.State) View) → now ≡ old
    → new ≡ (record now.0 { known_words = new.0.known_words }, now.1)
    → new ≡ (record old.0 { known_words = new.0.known_words }, old.1)
kept_as old now new same =
    subst (λ (me : Me (Option lives.State) View). new
    ≡ (record me.0 { known_words = new.0.known_words }, me.1)) same

stored_as : (old now : Me (Option lives.State) View) (words : List ℕ) (from to child nxt : ℕ)
    → now ≡ old
    → RowStored now.0.rows to 16 (relinked_list (records.known_row now.0 from) child nxt)
    now.0.known_words words
    → RowStored old.0.rows to 16 (relinked_list (records.known_row old.0 from) child nxt)
    old.0.known_words words
stored_as old now words from to child nxt same =
    subst (λ (me : Me (Option lives.State) View).
    RowStored me.0.rows to 16 (relinked_list (records.known_row me.0 from) child nxt)
    me.0.known_words words) same

-- ---- a key of 16 bytes and a value of 32

pub returns-then-lengths-eq-COMMON_LENGTHS-clause-entry :
    goal.returns-then-lengths-eq-COMMON_LENGTHS-clause-entry
returns-then-lengths-eq-COMMON_LENGTHS-clause-entry g c pair is =
    c.copy_by.ensures.entry pair
    (ap (λ me. part_at entry_pair (content_of me.0) c.args.from) c.word-lengths.ensures.same.2
    ∙ is)

pub returns-then-lengths-eq-COMMON_LENGTHS-clause-same :
    goal.returns-then-lengths-eq-COMMON_LENGTHS-clause-same
returns-then-lengths-eq-COMMON_LENGTHS-clause-same g c =
    let w = c.word-lengths.ensures.same in
    let s = c.copy_by.ensures.same in (
      s.0 ∙ w.0,
      s.1 ∙ w.1,
      kept_as c.args.seat.now.me c.word-lengths.new.seat.me
          c.copy_by.new.seat.me w.2 s.2,
    )

pub returns-then-lengths-eq-COMMON_LENGTHS-clause-stored :
    goal.returns-then-lengths-eq-COMMON_LENGTHS-clause-stored
returns-then-lengths-eq-COMMON_LENGTHS-clause-stored g c =
    stored_as c.args.seat.now.me c.word-lengths.new.seat.me
    c.copy_by.new.seat.me.0.known_words c.args.from c.args.to c.args.links.child c.args.links.next
    c.word-lengths.ensures.same.2
    c.copy_by.ensures.stored

-- ---- other lengths

pub returns-else-lengths-eq-COMMON_LENGTHS-clause-entry :
    goal.returns-else-lengths-eq-COMMON_LENGTHS-clause-entry
returns-else-lengths-eq-COMMON_LENGTHS-clause-entry g c pair is =
    c.copy_by-else-lengths-eq-COMMON_LENGTHS.ensures.entry pair
    (ap (λ me. part_at entry_pair (content_of me.0) c.args.from) c.word-lengths.ensures.same.2
    ∙ is)

pub returns-else-lengths-eq-COMMON_LENGTHS-clause-same :
    goal.returns-else-lengths-eq-COMMON_LENGTHS-clause-same
returns-else-lengths-eq-COMMON_LENGTHS-clause-same g c =
    let w = c.word-lengths.ensures.same in
    let s = c.copy_by-else-lengths-eq-COMMON_LENGTHS.ensures.same in (
      s.0 ∙ w.0,
      s.1 ∙ w.1,
      kept_as c.args.seat.now.me c.word-lengths.new.seat.me
          c.copy_by-else-lengths-eq-COMMON_LENGTHS.new.seat.me w.2 s.2,
    )

pub returns-else-lengths-eq-COMMON_LENGTHS-clause-stored :
    goal.returns-else-lengths-eq-COMMON_LENGTHS-clause-stored
returns-else-lengths-eq-COMMON_LENGTHS-clause-stored g c =
    stored_as c.args.seat.now.me c.word-lengths.new.seat.me
    c.copy_by-else-lengths-eq-COMMON_LENGTHS.new.seat.me.0.known_words
    c.args.from c.args.to c.args.links.child c.args.links.next c.word-lengths.ensures.same.2
    c.copy_by-else-lengths-eq-COMMON_LENGTHS.ensures.stored
