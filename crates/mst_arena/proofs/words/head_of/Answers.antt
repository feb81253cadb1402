use Rattle.mst_arena.proofs.Readers.{head_of_links, no_head}
use Rattle.mst_arena.proofs.words.head_of.Goals as goal

pub returns-in_err-links : goal.returns-in_err-links
returns-in_err-links c =
    record {
      exact =
          λ some two. absurd
          (no_head c.args.words.now c.told-words some two c.read.result c.read.ensures.part
          c.in_err-links.was);
    }

pub returns : goal.returns
returns c = record {
  exact = λ some two.
      head_of_links c.args.words.now c.told-words some two c.read.result c.read.ensures.part
      c.read_digest.result c.read_digest.ensures.part c.in_ok-links.links c.in_ok-links.was;
}
