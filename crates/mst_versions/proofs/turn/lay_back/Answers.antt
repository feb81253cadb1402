use Rattle.mst_versions.proofs.Names.{rules, Some, sym, subst, IsGiving, stored, desk_state, SeatState}
use Rattle.mst_versions.proofs.turn.lay_back.Goals as goal

pub give_turn-requires : goal.give_turn-requires
give_turn-requires g c =
    record {
      giving = (
        Some c.args.desk,
        desk_state c.args.desk,
        subst (λ (z : SeatState). IsGiving (stored z.0.format) (Some c.args.desk)
            (desk_state c.args.desk) z)
            (sym c.return_desk.ensures.returned) c.requires.giving,
      );
    }

pub return_desk-requires : goal.return_desk-requires
return_desk-requires g c = search rules

pub returns-clause-same : goal.returns-clause-same
returns-clause-same g c = search rules

pub returns-clause-gave : goal.returns-clause-gave
returns-clause-gave g c = search rules
