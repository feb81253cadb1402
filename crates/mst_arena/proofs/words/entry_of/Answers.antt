use Rattle.mst_arena.proofs.Readers.{entry_of_links, no_entry, no_value}
use Rattle.mst_arena.proofs.words.entry_of.Goals as goal

pub returns-in_err-links : goal.returns-in_err-links
returns-in_err-links c =
    record {
      exact =
          λ some one. absurd
          (no_entry c.args.words.now c.told-words some one c.read.result c.read.ensures.part
          c.in_err-links.was);
    }

pub returns-in_err-value : goal.returns-in_err-value
returns-in_err-value c =
    record {
      exact =
          λ some one. absurd
          (no_value c.args.words.now c.told-words some one c.read_value.result
          c.read_value.ensures.part
          c.in_err-value.was);
    }

pub returns : goal.returns
returns c = record {
  exact = λ some one.
      entry_of_links c.args.words.now c.told-words some one c.read.result c.read.ensures.part
      c.read_value.result c.read_value.ensures.part c.in_ok-links.links c.in_ok-links.was
      c.in_ok-value.value c.in_ok-value.was;
}
