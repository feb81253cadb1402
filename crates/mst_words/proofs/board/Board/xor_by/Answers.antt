use Rattle.mst_words.proofs.Names.{bit_xor, rules}
use Rattle.mst_words.proofs.ByDeed.{by_deed}
use Rattle.mst_words.proofs.board.Board.xor_by.Goals as goal

pub fetch_xor-requires : goal.fetch_xor-requires
fetch_xor-requires g c = (
  search rules,
  search rules,
  rw c.self.view_is
      (by_deed _ _ _ _ _ c.args.seat.now.me g.D.HasDeed.deed c.args.word c.args.bits 0
      (λ n. bit_xor n c.args.bits) c.requires.may c.requires.turns),
)

pub returns-clause-same : goal.returns-clause-same
returns-clause-same g c = search rules

pub returns-clause-tells : goal.returns-clause-tells
returns-clause-tells g c = search rules
