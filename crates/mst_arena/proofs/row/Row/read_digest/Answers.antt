use Rattle.mst_arena.proofs.Names.{rules}
use Rattle.mst_arena.proofs.Readers.{four_bytes, head_digest_of}
use Rattle.mst_arena.proofs.row.Row.read_digest.Goals as goal

pub returns-clause-bytes : goal.returns-clause-bytes
returns-clause-bytes c = search (rules, four_bytes c.args.words.now c.told-words)

pub returns-clause-part : goal.returns-clause-part
returns-clause-part c all at some = head_digest_of c.args.words.now all
    c.bytes_of_four.result c.bytes_of_four.ensures.bytes at some

pub bytes_of_four-requires : goal.bytes_of_four-requires
bytes_of_four-requires c = search rules
