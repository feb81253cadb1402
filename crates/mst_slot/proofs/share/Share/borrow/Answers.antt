use Rattle.std.proofs.Common.{rules, ◌∷◌, Some, ap, ◌∙◌, sym}
use Rattle.atomic_table.specs.Table.{rest}
use Rattle.mst_slot.proofs.Steps.{borrows}
use Rattle.mst_slot.proofs.share.Share.borrow.Goals as goal

pub compare_exchange-found-requires : goal.compare_exchange-found-requires
compare_exchange-found-requires g c =
    (search rules, search rules, borrows _ _ _ c.args.self (search rules))

pub exchange-requires : goal.exchange-requires
exchange-requires g c = let told = c.compare_exchange-found.ensures.2 in
    let had = told.2 c.if-found-ne-HOME.false c.args.self (search rules) in
    (search rules, (Some c.args.self, had ∙ sym (ap (λ us. (0, Some c.args.self) ∷ rest us) had)))
