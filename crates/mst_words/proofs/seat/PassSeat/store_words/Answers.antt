use Rattle.mst_words.proofs.Names.{◌≡◌, ◌∙◌, Option, ap, arith, rules, subst, Me, View, Seated, with_words, RowStored}
use Rattle.mst_arena.specs.Lives as lives
use Rattle.mst_words.proofs.Accesses.{row_written, blank_stays, blank_parts, beside_stays, same_seated}
use Rattle.mst_words.proofs.seat.PassSeat.store_words.Given.{Over}
use Rattle.mst_words.proofs.seat.PassSeat.store_words.Goals as goal

-- what the board says of the token, said of the seat
module _ (g : Over) (c : goal.After-store_words g) where
  same_me : c.self.inside.token.me ≡ c.args.self.now.me
  same_me = ap (λ (z : Seated). z.me) c.self.view_is

  kept : c.store_words.new.seat.me ≡ (
    record c.args.self.now.me.0 { known_words = c.store_words.new.seat.me.0.known_words },
    c.args.self.now.me.1,
  )
  kept = subst (λ (m : Me (Option lives.State) View). c.store_words.new.seat.me
      ≡ (record m.0 { known_words = c.store_words.new.seat.me.0.known_words }, m.1)) same_me
      c.store_words.ensures.same.2

  stored : RowStored c.args.self.now.me.0.rows c.args.row 16 c.args.words.now
      c.args.self.now.me.0.known_words
      c.store_words.new.seat.me.0.known_words
  stored =
      subst (λ (m : Me (Option lives.State) View). RowStored m.0.rows c.args.row 16 c.args.words.now
      m.0.known_words c.store_words.new.seat.me.0.known_words) same_me c.store_words.ensures.stored

pub returns-clause-writes : goal.returns-clause-writes
returns-clause-writes g c value spelt =
    row_written c.args.self.now.me c.store_words.new.seat.me c.args.row value c.args.words.now
    (kept g c) c.requires.blank (search rules) spelt (stored g c)

pub returns-clause-blank : goal.returns-clause-blank
returns-clause-blank g c =
    blank_stays c.args.self.now.me.0 c.store_words.new.seat.me.0
    (ap (λ (z : Me (Option lives.State) View). z.0) (kept g c)) (stored g c).long

pub returns-clause-kept : goal.returns-clause-kept
returns-clause-kept g c =
    let s = c.store_words.ensures.same in
    let seat = c.store_words.new.seat in
    let new : Seated = record { table = seat.table_id; id = seat.id; me = seat.me } in
    let known = (blank_parts c.args.self.now.me.0 c.args.row c.requires.blank).known in
    beside_stays c.args.self.now new c.args.row c.args.words.now
    (same_seated (with_words seat.me.0.known_words c.args.self.now) seat.table_id seat.id seat.me
    (s.0 ∙ ap (λ (z : Seated). z.table) c.self.view_is)
    (s.1 ∙ ap (λ (z : Seated). z.id) c.self.view_is) (kept g c)) (omega (arith, known))
    (stored g c)

pub store_words-requires : goal.store_words-requires
store_words-requires g c = search rules

pub invariant_of-self : goal.invariant_of-self
invariant_of-self g c = search rules
