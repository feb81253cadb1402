use Rattle.std.proofs.Common.{rules, ap, Some}
use Rattle.mst_slot.proofs.Steps.{gives_back}
use Rattle.mst_slot.proofs.share.Lent.give_back.Goals as goal

pub store-requires : goal.store-requires
store-requires g c = (
  search rules,
  search rules,
  gives_back _ _ 0 _ c.args.self (Some c.args.value) (search rules)
      (λ _. ap Some c.requires.same),
)
