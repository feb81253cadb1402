use Rattle.std.proofs.Common.{rules, ◌≡◌, Some}
use Rattle.mst_arguments.specs.Loads.{load_words}
use Rattle.mst_arguments.proofs.PlainWords.{load_only}
use Rattle.mst_arguments.proofs.numbers.plain_load.Goals as goal

pub returns-clause-only : goal.returns-clause-only
returns-clause-only c =
    let named : load_words c.args.words.now ≡ Some (
      c.in_ok-readers.readers.now,
      c.in_ok-readers.writers.now,
      c.in_ok-readers.calls.now,
    ) = search rules in
    λ size of. load_only c.args.words.now
    (c.in_ok-readers.readers.now, c.in_ok-readers.writers.now, c.in_ok-readers.calls.now) size
    c.load_in.result named c.load_in.ensures.only of
