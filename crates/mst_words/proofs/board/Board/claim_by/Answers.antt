use Rattle.mst_words.proofs.Names.{rules}
use Rattle.mst_words.proofs.ByDeed.{claimed_by}
use Rattle.mst_words.proofs.board.Board.claim_by.Goals as goal

pub compare_exchange-requires : goal.compare_exchange-requires
compare_exchange-requires g c = (
  search rules,
  search rules,
  rw c.self.view_is
      (claimed_by _ _ _ _ _ c.args.seat.now.me g.D.HasDeed.deed c.args.word c.args.value
      c.requires.may
      c.requires.claims),
)

pub returns-clause-same : goal.returns-clause-same
returns-clause-same g c = search rules

pub returns-clause-tells : goal.returns-clause-tells
returns-clause-tells g c = search rules
