use Rattle.mst_words.proofs.Names.{rules, arith, ap, TableId, stored}
use Rattle.mst_words.proofs.Framed.{stored_framed}
use Rattle.mst_words.proofs.Opens.{deal_splits}
use Rattle.mst_words.proofs.board.Board.deal.Goals as goal

pub split_seat-token-requires : goal.split_seat-token-requires
split_seat-token-requires g c = let h = c.requires.dealer in (
  search rules,
  (let v = ap (λ (z : TableId). z.words) c.self.view_is in let e = c.requires.wide in omega arith),
  deal_splits (stored _) (stored_framed _) _ _ _ c.args.dealer.now.me.0 h.1 h.2 h.3 h.4,
)

pub returns-clause-same : goal.returns-clause-same
returns-clause-same g c = search rules

pub returns-clause-dealer : goal.returns-clause-dealer
returns-clause-dealer g c = search rules

pub returns-clause-own : goal.returns-clause-own
returns-clause-own g c = search rules

pub returns-clause-dealt : goal.returns-clause-dealt
returns-clause-dealt g c = search rules

pub invariant_of-result : goal.invariant_of-result
invariant_of-result g c = search rules
