use Rattle.mst_words.proofs.Names.{rules}
use Rattle.mst_words.proofs.ByDeed.{by_deed}
use Rattle.mst_words.proofs.board.Board.load_by.Goals as goal

pub load-requires : goal.load-requires
load-requires g c = (
  search rules,
  search rules,
  rw c.self.view_is
      (by_deed _ _ _ _ _ c.args.seat.now.me g.D.HasDeed.deed c.args.word 0 0 (λ n. n) c.requires.may
      c.requires.leaves),
)

pub returns-clause-same : goal.returns-clause-same
returns-clause-same g c = search rules

pub returns-clause-tells : goal.returns-clause-tells
returns-clause-tells g c = search rules
