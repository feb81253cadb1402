use Rattle.mst_words.proofs.Names.{◌≡◌, ◌++◌, ◌∙◌, ◌%◌, ◌/◌, ℕ, take, arith, subst, sym, child_text, counted, held_of, held_text, bytes_in, View, IsPadded}
use Rattle.mst_prefix.specs.Kept.{HasTaken}
use Rattle.mst_words.specs.Records as records
use Rattle.mst_words.proofs.EntryRows.{PairAt, lengths_at, pair_at}
use Rattle.mst_words.proofs.ShortRows.{source_of}
use Rattle.mst_words.proofs.board.Board.copy_by.Goals as goal

pub copy_words-requires-clause-readable : goal.copy_words-requires-clause-readable
copy_words-requires-clause-readable g c =
    (source_of c.args.seat.now.me.0 c.args.from c.requires.there).readable

pub copy_words-requires-clause-kind : goal.copy_words-requires-clause-kind
copy_words-requires-clause-kind g c =
    (source_of c.args.seat.now.me.0 c.args.from c.requires.there).kind

pub copy_words-requires-clause-ends : goal.copy_words-requires-clause-ends
copy_words-requires-clause-ends g c =
    subst (λ (n : ℕ). IsPadded n (records.known_row c.args.seat.now.me.0 c.args.from))
    (sym c.requires.lengths) (source_of c.args.seat.now.me.0 c.args.from c.requires.there).ends

pub hash_copied-requires-clause-key : goal.hash_copied-requires-clause-key
hash_copied-requires-clause-key g c =
    omega (
      arith,
      c.requires.lengths,
      (lengths_at c.args.seat.now.me.0 c.args.from c.requires.there).key,
    )

pub hash_copied-requires-clause-value : goal.hash_copied-requires-clause-value
hash_copied-requires-clause-value g c =
    omega (
      arith,
      c.requires.lengths,
      (lengths_at c.args.seat.now.me.0 c.args.from c.requires.there).value,
    )

pub returns-clause-entry : goal.returns-clause-entry
returns-clause-entry g c pair is m took =
    let v : View = c.args.seat.now.me.0 in
    let p : PairAt v c.args.from pair = pair_at v c.args.from pair is in
    let lengths : c.args.lengths ≡ records.known_row v c.args.from 3 = c.requires.lengths in
    let key : take (c.args.lengths % 256) (bytes_in c.copy_words.result.0) ≡ pair.0 =
    (λ i. take (lengths i % 256) (bytes_in (c.copy_words.ensures.key i))) ∙ p.key in
    let value : take (c.args.lengths / 256) (bytes_in c.copy_words.result.1) ≡ pair.1 =
    (λ i. take (lengths i / 256) (bytes_in (c.copy_words.ensures.value i))) ∙ p.value in
    subst (HasTaken c.hash_copied.new.hasher)
    (λ i. ((m ++ child_text c.args.child) ++ counted (key i))
    ++ held_text c.args.format (held_of c.args.format (value i)))
    (c.hash_copied.ensures.entry m took)
