use Rattle.mst_words.proofs.Names.{◌≡◌, ◌∙◌, Option, Some, ap, refl, sym, arith, rules, subst, IsSome, Me, Writes, part_at, keyed_links, entry_pair, View, Seated, with_words, content_of, RowStored, relinked_list}
use Rattle.mst_arena.specs.Lives as lives
use Rattle.mst_words.specs.Records as records
use Rattle.mst_words.proofs.Accesses.{entry_copied, row_written, blank_stays, blank_parts, beside_stays, same_seated}
use Rattle.mst_words.proofs.rows.PassSeatRows.copy_entry.Given.{Over}
use Rattle.mst_words.proofs.rows.PassSeatRows.copy_entry.Goals as goal

-- what the board says of the token, said of the seat
module _ (g : Over) (c : goal.After-copy_entry g) where
  same_me : c.self.inside.token.me ≡ c.args.self.now.me
  same_me = ap (λ (z : Seated). z.me) c.self.view_is

  kept : c.copy_entry.new.seat.me ≡ (
    record c.args.self.now.me.0 { known_words = c.copy_entry.new.seat.me.0.known_words },
    c.args.self.now.me.1,
  )
  kept = subst (λ (m : Me (Option lives.State) View). c.copy_entry.new.seat.me
      ≡ (record m.0 { known_words = c.copy_entry.new.seat.me.0.known_words }, m.1)) same_me
      c.copy_entry.ensures.same.2

  stored : RowStored c.args.self.now.me.0.rows c.args.to 16
      (relinked_list (records.known_row c.args.self.now.me.0 c.args.from) c.args.links.child
      c.args.links.next) c.args.self.now.me.0.known_words c.copy_entry.new.seat.me.0.known_words
  stored = subst (λ (m : Me (Option lives.State) View). RowStored m.0.rows c.args.to 16
      (relinked_list (records.known_row m.0 c.args.from) c.args.links.child c.args.links.next)
      m.0.known_words c.copy_entry.new.seat.me.0.known_words) same_me c.copy_entry.ensures.stored

pub returns-clause-writes : goal.returns-clause-writes
returns-clause-writes g c =
    let old : Me (Option lives.State) View = c.args.self.now.me in
    let new : Me (Option lives.State) View = c.copy_entry.new.seat.me in
    let linked = relinked_list (records.known_row old.0 c.args.from) c.args.links.child
    c.args.links.next in
    entry_copied old.0 c.args.from c.args.links.child c.args.links.next _
    (λ value. Writes (content_of old.0) (content_of new.0) c.args.to value)
    c.requires.there refl c.requires.child c.requires.next
    (λ value spelt. row_written old new c.args.to value linked (kept g c) c.requires.blank
    (search rules) spelt (stored g c))

pub returns-clause-entry : goal.returns-clause-entry
returns-clause-entry g c pair is =
    let there : part_at entry_pair (content_of c.self.inside.token.me.0) c.args.from ≡ Some pair
    = ap (λ s. part_at entry_pair (content_of s.me.0) c.args.from) c.self.view_is ∙ is in
    c.copy_entry.ensures.entry pair there

pub returns-clause-blank : goal.returns-clause-blank
returns-clause-blank g c =
    blank_stays c.args.self.now.me.0 c.copy_entry.new.seat.me.0
    (ap (λ (z : Me (Option lives.State) View). z.0) (kept g c)) (stored g c).long

pub returns-clause-kept : goal.returns-clause-kept
returns-clause-kept g c =
    let s = c.copy_entry.ensures.same in
    let seat = c.copy_entry.new.seat in
    let new : Seated = record { table = seat.table_id; id = seat.id; me = seat.me } in
    let known = (blank_parts c.args.self.now.me.0 c.args.to c.requires.blank).known in
    beside_stays c.args.self.now new c.args.to
    (relinked_list (records.known_row c.args.self.now.me.0 c.args.from) c.args.links.child
    c.args.links.next)
    (same_seated (with_words seat.me.0.known_words c.args.self.now) seat.table_id seat.id seat.me
    (s.0 ∙ ap (λ (z : Seated). z.table) c.self.view_is)
    (s.1 ∙ ap (λ (z : Seated). z.id) c.self.view_is) (kept g c)) (omega (arith, known))
    (stored g c)

pub copy_entry-requires-clause-own : goal.copy_entry-requires-clause-own
copy_entry-requires-clause-own g c = search rules

pub copy_entry-requires-clause-there : goal.copy_entry-requires-clause-there
copy_entry-requires-clause-there g c =
    subst (λ (m : Me (Option lives.State) View).
    IsSome (part_at keyed_links (content_of m.0) c.args.from))
    (sym (ap (λ (z : Seated). z.me) c.self.view_is)) c.requires.there

pub copy_entry-requires-clause-blank : goal.copy_entry-requires-clause-blank
copy_entry-requires-clause-blank g c = search rules

pub invariant_of-self : goal.invariant_of-self
invariant_of-self g c = search rules
