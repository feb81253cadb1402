use Rattle.mst_words.proofs.Names.{◌≡◌, ◌∙◌, ◌+◌, ◌<◌, ℕ, List, Option, true, ap, map, arith, subst, sym, Me, IsTrue, range_with_len, View, table_words, IsAt, PartStored, may_read, may_write}
use Rattle.mst_words.specs.Records as records
use Rattle.mst_arena.specs.Lives as lives
use Rattle.mst_words.proofs.Accesses.{blank_parts, inside}
use Rattle.mst_words.proofs.Copied.{beyond, still_blank, parts_joined, same_words}
use Rattle.mst_words.proofs.ShortRows.{key_four, value_words}
use Rattle.mst_words.proofs.board.Board.copy_bytes.Goals as goal

pub copy_part-requires-then-lengths-eq-COMMON_LENGTHS :
    goal.copy_part-requires-then-lengths-eq-COMMON_LENGTHS
copy_part-requires-then-lengths-eq-COMMON_LENGTHS g c =
    let v : View = c.args.seat.now.me.0 in
    let mid : List ℕ = c.copy_part.new.seat.me.0.known_words in
    let f : ℕ → ℕ = records.known_row v c.args.from in
    let same = c.copy_part.ensures.same in
    let sized : c.copy_part.new.seat.me.0.rows ≡ v.rows =
    ap (λ (z : Me (Option lives.State) View). z.0.rows) same.2 in
    let own : IsAt c.args.self.now c.copy_part.new.seat.table_id c.copy_part.new.seat.me.0.rows =
    record {
      own = same.0 ∙ c.requires.own.own;
      wide = c.requires.own.wide ∙ ap table_words (sym sized);
    } in
    let readable : may_read c.copy_part.new.seat.me.0 c.args.from ≡ true =
    ap (λ (z : Me (Option lives.State) View). may_read z.0 c.args.from) same.2
    ∙ c.requires.readable in
    let blank : IsTrue (may_write c.copy_part.new.seat.me.0 c.args.to) =
    still_blank c.args.seat.now.me c.copy_part.new.seat.me c.args.to same.2
    c.copy_part.ensures.stored.long c.requires.blank in (
      omega arith,
      (
        own,
        (
          readable,
          (
            blank,
            (
              omega arith,
              λ k lt. let l : k < 4 = lt in
                  let e : 8 + (4 + k) ≡ 12 + k = omega arith in
                  ap (λ (r : ℕ). records.row r mid c.args.from (8 + (4 + k))) sized
                  ∙ beyond v.rows c.args.to 4 4 c.args.from (8 + (4 + k)) f v.known_words mid
                  (blank_parts v c.args.to c.requires.blank).inside
                  (inside v c.args.from c.requires.readable) c.copy_part.ensures.stored
                  (omega arith) (omega (arith, l))
                  ∙ ap f e ∙ c.requires.ends.value c.if-lengths-eq-COMMON_LENGTHS.true k l,
            ),
          ),
        ),
      ),
    )

pub returns-then-lengths-eq-COMMON_LENGTHS-clause-key :
    goal.returns-then-lengths-eq-COMMON_LENGTHS-clause-key
returns-then-lengths-eq-COMMON_LENGTHS-clause-key g c =
    let zero = c.requires.ends.key c.if-lengths-eq-COMMON_LENGTHS.true in
    key_four (records.known_row c.args.seat.now.me.0 c.args.from) c.copy_part.result
    c.copy_part.ensures.words (sym (zero 0 (omega arith)), sym (zero 1 (omega arith)))

pub returns-then-lengths-eq-COMMON_LENGTHS-clause-value :
    goal.returns-then-lengths-eq-COMMON_LENGTHS-clause-value
returns-then-lengths-eq-COMMON_LENGTHS-clause-value g c =
    let v : View = c.args.seat.now.me.0 in
    let mid : List ℕ = c.copy_part.new.seat.me.0.known_words in
    let f : ℕ → ℕ = records.known_row v c.args.from in
    let four = c.copy_part-then-lengths-eq-COMMON_LENGTHS.ensures.words
    ∙ ap (λ (r : ℕ). map (records.row r mid c.args.from) (range_with_len 8 4))
    (ap (λ (z : Me (Option lives.State) View). z.0.rows) c.copy_part.ensures.same.2)
    ∙ same_words f (records.row v.rows mid c.args.from) 8 4 (λ k ge lt.
    beyond v.rows c.args.to 4 4 c.args.from k f v.known_words mid
    (blank_parts v c.args.to c.requires.blank).inside
    (inside v c.args.from c.requires.readable) c.copy_part.ensures.stored ge
    (omega (arith, lt))) in
    let zero = c.requires.ends.value c.if-lengths-eq-COMMON_LENGTHS.true in
    value_words f c.copy_part-then-lengths-eq-COMMON_LENGTHS.result four (
      sym (zero 0 (omega arith)),
      sym (zero 1 (omega arith)),
      sym (zero 2 (omega arith)),
      sym (zero 3 (omega arith)),
    )

pub returns-then-lengths-eq-COMMON_LENGTHS-clause-stored :
    goal.returns-then-lengths-eq-COMMON_LENGTHS-clause-stored
returns-then-lengths-eq-COMMON_LENGTHS-clause-stored g c =
    let v : View = c.args.seat.now.me.0 in
    let mid : List ℕ = c.copy_part.new.seat.me.0.known_words in
    let new : List ℕ = c.copy_part-then-lengths-eq-COMMON_LENGTHS.new.seat.me.0.known_words in
    parts_joined v.rows c.args.to c.args.from 4 4 8 v.known_words mid new
    (blank_parts v c.args.to c.requires.blank).inside
    (inside v c.args.from c.requires.readable)
    c.copy_part.ensures.stored
    (subst (λ (r : ℕ). PartStored r c.args.to 8 8 (records.row r mid c.args.from) mid new)
    (ap (λ (z : Me (Option lives.State) View). z.0.rows) c.copy_part.ensures.same.2)
    c.copy_part-then-lengths-eq-COMMON_LENGTHS.ensures.stored)
    (omega arith)
