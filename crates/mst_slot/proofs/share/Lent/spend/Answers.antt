use Rattle.std.proofs.Common.{rules, None, arith}
use Rattle.mst_slot.proofs.Steps.{gives_back}
use Rattle.mst_slot.proofs.share.Lent.spend.Goals as goal

pub store-requires : goal.store-requires
store-requires g c = (
  search rules,
  search rules,
  gives_back _ _ 2 _ c.args.self None (search rules)
      (λ z. absurd (omega arith)),
)
